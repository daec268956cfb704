-- Syntax trees as contracts see them: lists in place of vectors, and no boxes. Each constructor stands for the
-- production that the type of the same name in `src/` shows (C11 6.5 to 6.9); a type that lists nodes of another has an
-- end and a constructor for one more.
--   Expr, Exprs               expressions, and a list of arguments; a place comes first
--   TypeName, Spec, Base      types: with their pointers, without them, without their `const`
--   Field, Fields             what stands between the braces of a struct
--   Declr, Declrs, Tail, Sizes    declarators, and what stands after the declared name
--   Params, ParamDecl, ParamDecls, ParamDeclr    parameters
--   Init, VarDecl, Decl       declarations of variables
--   ForStart, Stmt, Stmts     statements; a place comes first
--   Head, Item                functions without their bodies, and what a file consists of
use Rattle.std.specs.Prelude.{ℕ, ℤ, Bool, List, Option}
use Rattle.pungi_base.specs.declared.key.Key.{Key}
use Rattle.pungi_base.specs.declared.kind.Kind.{Kind}
use Rattle.pungi_base.specs.declared.names.Name.{Name}
use Rattle.pungi_base.specs.declared.pos.Pos.{Pos}
use Rattle.pungi_base.specs.declared.punct.Punct.{Punct}

mutual
  pub data Expr : Type 0 where
    word : Pos → Name → Expr
    int : Pos → ℤ → Bool → Bool → Expr
    float : Pos → Expr
    char : Pos → ℕ → Expr
    text : Pos → List Name → Expr
    null : Pos → Expr
    paren : Pos → Expr → Expr
    unary : Pos → Kind → Expr → Expr
    post : Pos → Punct → Expr → Expr
    binary : Pos → Punct → Expr → Expr → Expr
    assign : Pos → Punct → Expr → Expr → Expr
    conditional : Pos → Expr → Expr → Expr → Expr
    comma : Pos → Expr → Expr → Expr
    cast : Pos → TypeName → Expr → Expr
    size_of_type : Pos → TypeName → Expr
    call : Pos → Expr → Exprs → Expr
    new : Pos → TypeName → Expr → Expr
    index : Pos → Expr → Expr → Expr
    dot : Pos → Expr → Name → Expr
    arrow : Pos → Expr → Name → Expr

  pub data Exprs : Type 0 where
    no_exprs : Exprs
    expr_and : Expr → Exprs → Exprs

  pub data TypeName : Type 0 where
    type_name : Spec → List ℕ → TypeName

  pub data Spec : Type 0 where
    spec : Pos → Base → ℕ → Spec

  pub data Base : Type 0 where
    words : List Key → Base
    alias : Name → Base
    tagged : Key → Option (Name × Pos) → Base
    tagged_fields : Key → Option (Name × Pos) → Fields → Base

  pub data Field : Type 0 where
    empty : Field
    members : List Key → Spec → Declrs → Field

  pub data Fields : Type 0 where
    no_fields : Fields
    field_and : Field → Fields → Fields

  pub data Declr : Type 0 where
    declr : List ℕ → Name → Pos → Tail → Declr

  pub data Declrs : Type 0 where
    no_declrs : Declrs
    declr_and : Declr → Declrs → Declrs

  pub data Tail : Type 0 where
    sizes : Sizes → Tail
    function : Params → Tail

  pub data Sizes : Type 0 where
    no_sizes : Sizes
    open_and : Sizes → Sizes
    size_and : Expr → Sizes → Sizes

  pub data Params : Type 0 where
    params : ParamDecls → Bool → Option Pos → Params

  pub data ParamDecl : Type 0 where
    param_decl : List Key → Spec → ParamDeclr → ParamDecl

  pub data ParamDecls : Type 0 where
    no_params : ParamDecls
    param_and : ParamDecl → ParamDecls → ParamDecls

  pub data ParamDeclr : Type 0 where
    named : Declr → ParamDeclr
    bare : List ℕ → ParamDeclr
    unused : List ℕ → Name → Pos → ParamDeclr

pub data Init : Type 0 where
  value : Expr → Init
  table : List (Kind × Pos) → Init

pub data VarDecl : Type 0 where
  var_decl : Declr → Option Init → VarDecl

pub data Decl : Type 0 where
  decl : List Key → Spec → List VarDecl → Decl

pub data ForStart : Type 0 where
  start_decl : Decl → ForStart
  start_expr : Option Expr → ForStart

mutual
  pub data Stmt : Type 0 where
    block : Pos → Stmts → Pos → Stmt
    declare : Pos → Decl → Stmt
    do_expr : Pos → Option Expr → Stmt
    if_only : Pos → Expr → Stmt → Stmt
    if_else : Pos → Expr → Stmt → Stmt → Stmt
    while : Pos → Expr → Stmt → Stmt
    do_while : Pos → Stmt → Expr → Stmt
    for : Pos → ForStart → Option Expr → Option Expr → Stmt → Stmt
    switch : Pos → Expr → Stmt → Stmt
    case : Pos → Expr → Stmt → Stmt
    default : Pos → Stmt → Stmt
    label : Pos → Name → Stmt → Stmt
    goto : Pos → Name → Pos → Stmt
    break : Pos → Stmt
    continue : Pos → Stmt
    return : Pos → Option Expr → Stmt

  pub data Stmts : Type 0 where
    no_stmts : Stmts
    stmt_and : Stmt → Stmts → Stmts

pub data Head : Type 0 where
  head : List Key → Spec → List ℕ → Name → Pos → Params → Head

pub data Item : Type 0 where
  nothing : Pos → Item
  doc : Pos → Name → List Name → Item
  typedef : Spec → List ℕ → Name → Pos → Item
  tag : List Key → Spec → Item
  variables : Decl → Item
  prototype : Head → Item
  function_def : Head → Stmt → Item
