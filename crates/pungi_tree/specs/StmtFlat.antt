-- The tokens of a declaration or a statement from left to right (C11 6.7 and 6.8).
--   optional_flat         an expression, where it is there
--   condition_flat k e         a keyword and an expression in parentheses
--   init_flat, var_decl_flat, vars_flat, more_vars_flat, decl_flat    a first value with its `=`, variables, and their
--                                                                     declaration
--   for_start_flat        what a `for` begins with
--   stmt_flat, stmts_flat statements
use Rattle.std.specs.Prelude.{List, [], ◌∷◌, ◌++◌, Option, Some, None}
use Rattle.pungi_base.specs.declared.key.Key.{Key}
use Rattle.pungi_base.specs.declared.key.Key.TheVariants as keys
use Rattle.pungi_base.specs.declared.kind.Kind.{Kind}
use Rattle.pungi_base.specs.declared.kind.Kind.TheVariants as kind
use Rattle.pungi_base.specs.declared.punct.Punct.TheVariants as puncts
use Rattle.pungi_tree.specs.ExprFlat.{expr_flat, spec_flat, declr_flat}
use Rattle.pungi_tree.specs.Tokens.{mark, key, keys_flat}
use Rattle.pungi_tree.specs.Placed.{kinds}
use Rattle.pungi_tree.specs.Syntax.{Expr, Init, value, table, VarDecl, var_decl, Decl, decl, ForStart, start_decl}
use Rattle.pungi_tree.specs.Syntax.{start_expr, Stmt, block, declare, do_expr, if_only, if_else, while, do_while, for}
use Rattle.pungi_tree.specs.Syntax.{switch, case, default, label, goto, break, continue, return, Stmts, no_stmts}
use Rattle.pungi_tree.specs.Syntax.{stmt_and}

abbrev pub optional_flat : Option Expr → List Kind
optional_flat None = []
optional_flat (Some e) = expr_flat e

-- a keyword and a condition in parentheses
abbrev pub condition_flat : Key → Expr → List Kind
condition_flat k e = key k ∷ mark puncts.LeftParen ∷ (expr_flat e ++ mark puncts.RightParen ∷ [])

abbrev pub init_flat : Option Init → List Kind
init_flat None = []
init_flat (Some (value e)) = mark puncts.Assign ∷ expr_flat e
init_flat (Some (table ts)) = mark puncts.Assign ∷ mark puncts.LeftBrace ∷ (kinds ts ++ mark puncts.RightBrace ∷ [])

abbrev pub var_decl_flat : VarDecl → List Kind
var_decl_flat (var_decl d i) = declr_flat d ++ init_flat i

abbrev pub more_vars_flat : List VarDecl → List Kind
more_vars_flat [] = []
more_vars_flat (v ∷ vs) = mark puncts.Comma ∷ (var_decl_flat v ++ more_vars_flat vs)

abbrev pub vars_flat : List VarDecl → List Kind
vars_flat [] = []
vars_flat (v ∷ vs) = var_decl_flat v ++ more_vars_flat vs

abbrev pub decl_flat : Decl → List Kind
decl_flat (decl qs s vs) = keys_flat qs ++ (spec_flat s ++ (vars_flat vs ++ mark puncts.Semicolon ∷ []))

abbrev pub for_start_flat : ForStart → List Kind
for_start_flat (start_decl d) = decl_flat d
for_start_flat (start_expr e) = optional_flat e ++ mark puncts.Semicolon ∷ []

abbrev mutual
  pub stmt_flat : Stmt → List Kind
  stmt_flat (block p ss q) = mark puncts.LeftBrace ∷ (stmts_flat ss ++ mark puncts.RightBrace ∷ [])
  stmt_flat (declare p d) = decl_flat d
  stmt_flat (do_expr p e) = optional_flat e ++ mark puncts.Semicolon ∷ []
  stmt_flat (if_only p e s) = key keys.If ∷ mark puncts.LeftParen
      ∷ (expr_flat e ++ (mark puncts.RightParen ∷ stmt_flat s))
  stmt_flat (if_else p e s t) = key keys.If ∷ mark puncts.LeftParen
      ∷ (expr_flat e ++ (mark puncts.RightParen ∷ (stmt_flat s ++ (key keys.Else ∷ stmt_flat t))))
  stmt_flat (while p e s) = key keys.While ∷ mark puncts.LeftParen
      ∷ (expr_flat e ++ (mark puncts.RightParen ∷ stmt_flat s))
  stmt_flat (do_while p s e) = key keys.Do ∷ (stmt_flat s
      ++ (key keys.While ∷ mark puncts.LeftParen ∷ (expr_flat e ++ mark puncts.RightParen ∷ mark puncts.Semicolon
      ∷ [])))
  stmt_flat (for p a b c s) = key keys.For ∷ mark puncts.LeftParen
      ∷ (for_start_flat a ++ (optional_flat b ++ (mark puncts.Semicolon
      ∷ (optional_flat c ++ (mark puncts.RightParen ∷ stmt_flat s)))))
  stmt_flat (switch p e s) = key keys.Switch ∷ mark puncts.LeftParen
      ∷ (expr_flat e ++ (mark puncts.RightParen ∷ stmt_flat s))
  stmt_flat (case p e s) = key keys.Case ∷ (expr_flat e ++ (mark puncts.Colon ∷ stmt_flat s))
  stmt_flat (default p s) = key keys.Default ∷ mark puncts.Colon ∷ stmt_flat s
  stmt_flat (label p n s) = kind.Word n ∷ mark puncts.Colon ∷ stmt_flat s
  stmt_flat (goto p n q) = key keys.Goto ∷ kind.Word n ∷ mark puncts.Semicolon ∷ []
  stmt_flat (break p) = key keys.Break ∷ mark puncts.Semicolon ∷ []
  stmt_flat (continue p) = key keys.Continue ∷ mark puncts.Semicolon ∷ []
  stmt_flat (return p e) = key keys.Return ∷ (optional_flat e ++ mark puncts.Semicolon ∷ [])

  pub stmts_flat : Stmts → List Kind
  stmts_flat no_stmts = []
  stmts_flat (stmt_and s ss) = stmt_flat s ++ stmts_flat ss
