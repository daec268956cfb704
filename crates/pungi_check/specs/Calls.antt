-- The words that a function calls (C11 6.5.2.2): those at the function part of a call, once for each call, in text
-- order. Calls inside types are none of them: where a type has one, as in the size of an array, what it declares is
-- refused for its kind.
--   called_word f           the word of a function part, where it is one
--   expr_calls, exprs_calls     of an expression, and of arguments
--   option_calls, init_calls    of an expression or a first value, where it is there
--   vars_calls, decl_calls, start_calls    of declared variables, of their declaration, and of what a `for` begins with
--   stmt_calls, stmts_calls     of statements
--   body_calls              of a function's body
--   called_words d          of a function
use Rattle.std.specs.Prelude.{ℕ, List, [], ◌∷◌, ◌++◌, Option, Some, None}
use Rattle.pungi_tree.specs.Syntax.{Expr, word, int, float, char, text, null, paren, unary, post, binary, assign}
use Rattle.pungi_tree.specs.Syntax.{conditional, comma, cast, size_of_type, call, new, index, dot, arrow, Exprs}
use Rattle.pungi_tree.specs.Syntax.{no_exprs, expr_and, Init, value, table, VarDecl, var_decl, Decl, decl, ForStart}
use Rattle.pungi_tree.specs.Syntax.{start_decl, start_expr, Stmt, block, declare, do_expr, if_only, if_else, while}
use Rattle.pungi_tree.specs.Syntax.{do_while, for, switch, case, default, label, goto, break, continue, return, Stmts}
use Rattle.pungi_tree.specs.Syntax.{no_stmts, stmt_and}
use Rattle.pungi_types.specs.Files.{Definition}

abbrev pub called_word : Expr → List ℕ
called_word (word p n) = n.0 ∷ []
called_word _ = []

abbrev mutual
  pub expr_calls : Expr → List ℕ
  expr_calls (paren p e) = expr_calls e
  expr_calls (unary p k e) = expr_calls e
  expr_calls (post p m e) = expr_calls e
  expr_calls (binary p m a b) = expr_calls a ++ expr_calls b
  expr_calls (assign p m a b) = expr_calls a ++ expr_calls b
  expr_calls (conditional p c a b) = expr_calls c ++ (expr_calls a ++ expr_calls b)
  expr_calls (comma p a b) = expr_calls a ++ expr_calls b
  expr_calls (cast p t e) = expr_calls e
  expr_calls (call p f es) = called_word f ++ (expr_calls f ++ exprs_calls es)
  expr_calls (new p t e) = expr_calls e
  expr_calls (index p a b) = expr_calls a ++ expr_calls b
  expr_calls (dot p e n) = expr_calls e
  expr_calls (arrow p e n) = expr_calls e
  expr_calls (word p n) = []
  expr_calls (int p v l u) = []
  expr_calls (float p) = []
  expr_calls (char p c) = []
  expr_calls (text p ns) = []
  expr_calls (null p) = []
  expr_calls (size_of_type p t) = []

  pub exprs_calls : Exprs → List ℕ
  exprs_calls no_exprs = []
  exprs_calls (expr_and e es) = expr_calls e ++ exprs_calls es

abbrev pub option_calls : Option Expr → List ℕ
option_calls None = []
option_calls (Some e) = expr_calls e

abbrev pub init_calls : Option Init → List ℕ
init_calls None = []
init_calls (Some (value e)) = expr_calls e
init_calls (Some (table ts)) = []

abbrev pub vars_calls : List VarDecl → List ℕ
vars_calls [] = []
vars_calls (var_decl d v ∷ vs) = init_calls v ++ vars_calls vs

abbrev pub decl_calls : Decl → List ℕ
decl_calls (decl qs s vs) = vars_calls vs

abbrev pub start_calls : ForStart → List ℕ
start_calls (start_decl d) = decl_calls d
start_calls (start_expr e) = option_calls e

abbrev mutual
  pub stmt_calls : Stmt → List ℕ
  stmt_calls (block p ss q) = stmts_calls ss
  stmt_calls (declare p d) = decl_calls d
  stmt_calls (do_expr p e) = option_calls e
  stmt_calls (if_only p e s) = expr_calls e ++ stmt_calls s
  stmt_calls (if_else p e s t) = expr_calls e ++ (stmt_calls s ++ stmt_calls t)
  stmt_calls (while p e s) = expr_calls e ++ stmt_calls s
  stmt_calls (do_while p s e) = stmt_calls s ++ expr_calls e
  stmt_calls (for p a b c s) = start_calls a ++ (option_calls b ++ (option_calls c ++ stmt_calls s))
  stmt_calls (switch p e s) = expr_calls e ++ stmt_calls s
  stmt_calls (case p e s) = expr_calls e ++ stmt_calls s
  stmt_calls (default p s) = stmt_calls s
  stmt_calls (label p n s) = stmt_calls s
  stmt_calls (goto p n q) = []
  stmt_calls (break p) = []
  stmt_calls (continue p) = []
  stmt_calls (return p e) = option_calls e

  pub stmts_calls : Stmts → List ℕ
  stmts_calls no_stmts = []
  stmts_calls (stmt_and s ss) = stmt_calls s ++ stmts_calls ss

-- a body is a block
abbrev pub body_calls : Stmt → List ℕ
body_calls (block p ss q) = stmts_calls ss
body_calls _ = []

abbrev pub called_words : Definition → List ℕ
called_words d = body_calls d.body
