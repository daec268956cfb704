-- A declaration or a statement that the grammar allows, inside braces, closes the braces that it opens.
use Rattle.std.specs.Prelude.{not}
use Rattle.std.proofs.Common.{◌≡◌, ℕ, suc, true, List, [], ◌∷◌, ◌++◌, Option, Some, None, refl}
use Rattle.pungi_base.specs.declared.names.Name.{Name}
use Rattle.pungi_base.specs.declared.punct.Punct.TheVariants as puncts
use Rattle.pungi_spelling.proofs.ExprScans.{expr_reads, spec_reads, declr_reads, qualifiers_read}
use Rattle.pungi_spelling.proofs.Harmless.{first, second}
use Rattle.pungi_spelling.proofs.Scans.{Scans, none, one, plain, two, semicolon}
use Rattle.pungi_spelling.proofs.TableScans.{table_reads}
use Rattle.pungi_tree.specs.StmtFlat.{optional_flat, init_flat, var_decl_flat, vars_flat, more_vars_flat, decl_flat}
use Rattle.pungi_tree.specs.StmtFlat.{for_start_flat, stmt_flat, stmts_flat}
use Rattle.pungi_tree.specs.StmtLevels.{open_if, is_statement, optional_ok, init_ok, var_ok, vars_ok, some_vars_ok}
use Rattle.pungi_tree.specs.StmtLevels.{decl_ok, start_ok, stmt_ok, stmts_ok}
use Rattle.pungi_tree.specs.Syntax.{Expr, Init, value, table, VarDecl, var_decl, Decl, decl, ForStart, start_decl}
use Rattle.pungi_tree.specs.Syntax.{start_expr, Stmt, block, declare, do_expr, if_only, if_else, while, do_while, for}
use Rattle.pungi_tree.specs.Syntax.{switch, case, default, label, goto, break, continue, return, Stmts, no_stmts}
use Rattle.pungi_tree.specs.Syntax.{stmt_and}
use Rattle.pungi_tree.specs.ExprLevels.{expr_at, spec_ok, declr_ok}
use Rattle.pungi_tree.specs.Operators.{is_qualifier, all_keys}
use Rattle.pungi_tree.specs.TypeWords.{is_word}
use Rattle.pungi_tree.specs.Tokens.{mark}

optional_reads : (T : List Name) (a : ℕ) (e : Option Expr) → optional_ok T e ≡ true → Scans a a (optional_flat e)
optional_reads T a None h = none a
optional_reads T a (Some e) h = expr_reads T 0 a e h

init_reads : (T : List Name) (a : ℕ) (i : Option Init) → init_ok T i ≡ true → Scans a a (init_flat i)
init_reads T a None h = none a
init_reads T a (Some (value e)) h = plain (refl, refl, refl) (expr_reads T 1 a e h)
init_reads T a (Some (table ts)) h =
    plain (refl, refl, refl) (one a (suc a) a _ _ (refl, refl, refl) (two (table_reads a ts [] h)
    (one (suc a) a a _ _ (refl, refl, refl) (none a))))

var_reads : (T : List Name) (a : ℕ) (v : VarDecl) → var_ok T v ≡ true → Scans a a (var_decl_flat v)
var_reads T a (var_decl d i) h =
    two (declr_reads T a d (first (declr_ok T d) _ h)) (init_reads T a i (second (declr_ok T d) _ h))

more_vars_read : (T : List Name) (a : ℕ) (vs : List VarDecl) → vars_ok T vs ≡ true → Scans a a (more_vars_flat vs)
more_vars_read T a [] h = none a
more_vars_read T a (v ∷ vs) h =
    plain (refl, refl, refl) (two (var_reads T a v (first (var_ok T v) _ h))
    (more_vars_read T a vs (second (var_ok T v) _ h)))

pub vars_read : (T : List Name) (a : ℕ) (vs : List VarDecl) → some_vars_ok T vs ≡ true → Scans a a (vars_flat vs)
vars_read T a [] h = none a
vars_read T a (v ∷ vs) h =
    two (var_reads T a v (first (var_ok T v) _ h)) (more_vars_read T a vs (second (var_ok T v) _ h))

decl_reads : (T : List Name) (a : ℕ) (d : Decl) → decl_ok T d ≡ true → Scans (suc a) (suc a) (decl_flat d)
decl_reads T a (decl qs s vs) h =
    two (qualifiers_read (suc a) qs (first (all_keys is_qualifier qs) _ h))
    (two (spec_reads T (suc a) s (first (spec_ok T s) _ (second (all_keys is_qualifier qs) _ h)))
    (two (vars_read T (suc a) vs (second (spec_ok T s) _ (second (all_keys is_qualifier qs) _ h)))
    (semicolon (none (suc a)))))

ended : (a : ℕ) (T : List Name) (e : Option Expr) → optional_ok T e ≡ true
    → Scans (suc a) (suc a) (optional_flat e ++ mark puncts.Semicolon ∷ [])
ended a T e h = two (optional_reads T (suc a) e h) (semicolon (none (suc a)))

start_reads : (T : List Name) (a : ℕ) (s : ForStart) → start_ok T s ≡ true → Scans (suc a) (suc a) (for_start_flat s)
start_reads T a (start_decl d) h = decl_reads T a d h
start_reads T a (start_expr e) h = ended a T e h

mutual
  pub stmt_reads : (T : List Name) (a : ℕ) (s : Stmt) → stmt_ok T s ≡ true → Scans (suc a) (suc a) (stmt_flat s)
  stmt_reads T a (block p ss q) h =
      one (suc a) (suc (suc a)) (suc a) _ _ (refl, refl, refl) (two (stmts_read T (suc a) ss h)
      (one (suc (suc a)) (suc a) (suc a) _ _ (refl, refl, refl) (none (suc a))))
  stmt_reads T a (declare p d) h = decl_reads T a d h
  stmt_reads T a (do_expr p e) h = ended a T e h
  stmt_reads T a (if_only p e s) h =
      plain (refl, refl, refl) (plain (refl, refl, refl) (two (expr_reads T 0 (suc a) e (first (expr_at T 0 e) _ h))
      (plain (refl, refl, refl) (stmt_reads T a s (second (is_statement s) _ (second (expr_at T 0 e) _ h))))))
  stmt_reads T a (if_else p e s t) h =
      plain (refl, refl, refl) (plain (refl, refl, refl) (two (expr_reads T 0 (suc a) e (first (expr_at T 0 e) _ h))
      (plain (refl, refl, refl)
      (two (stmt_reads T a s (first (stmt_ok T s) _ (second (is_statement s) _ (second (expr_at T 0 e) _ h))))
      (plain (refl, refl, refl) (stmt_reads T a t (second (is_statement t) _
      (second (not (open_if s)) _ (second (stmt_ok T s) _ (second (is_statement s) _
      (second (expr_at T 0 e) _ h)))))))))))
  stmt_reads T a (while p e s) h =
      plain (refl, refl, refl) (plain (refl, refl, refl) (two (expr_reads T 0 (suc a) e (first (expr_at T 0 e) _ h))
      (plain (refl, refl, refl) (stmt_reads T a s (second (is_statement s) _ (second (expr_at T 0 e) _ h))))))
  stmt_reads T a (do_while p s e) h =
      plain (refl, refl, refl) (two (stmt_reads T a s (first (stmt_ok T s) _ (second (is_statement s) _ h)))
      (plain (refl, refl, refl) (plain (refl, refl, refl)
      (two (expr_reads T 0 (suc a) e (second (stmt_ok T s) _ (second (is_statement s) _ h)))
      (plain (refl, refl, refl) (semicolon (none (suc a))))))))
  stmt_reads T a (for p x y z s) h =
      plain (refl, refl, refl) (plain (refl, refl, refl) (two (start_reads T a x (first (start_ok T x) _ h))
      (two (optional_reads T (suc a) y (first (optional_ok T y) _ (second (start_ok T x) _ h))) (semicolon
      (two (optional_reads T (suc a) z (first (optional_ok T z) _ (second (optional_ok T y) _
      (second (start_ok T x) _ h)))) (plain (refl, refl, refl) (stmt_reads T a s
      (second (is_statement s) _ (second (optional_ok T z) _ (second (optional_ok T y) _
      (second (start_ok T x) _ h)))))))))))
  stmt_reads T a (switch p e s) h =
      plain (refl, refl, refl) (plain (refl, refl, refl) (two (expr_reads T 0 (suc a) e (first (expr_at T 0 e) _ h))
      (plain (refl, refl, refl) (stmt_reads T a s (second (is_statement s) _ (second (expr_at T 0 e) _ h))))))
  stmt_reads T a (case p e s) h =
      plain (refl, refl, refl) (two (expr_reads T 2 (suc a) e (first (expr_at T 2 e) _ h))
      (plain (refl, refl, refl) (stmt_reads T a s (second (is_statement s) _ (second (expr_at T 2 e) _ h)))))
  stmt_reads T a (default p s) h = plain (refl, refl, refl) (plain (refl, refl, refl)
      (stmt_reads T a s (second (is_statement s) _ h)))
  stmt_reads T a (label p n s) h = plain (refl, refl, refl) (plain (refl, refl, refl)
      (stmt_reads T a s (second (is_statement s) _ (second (is_word T n) _ h))))
  stmt_reads T a (goto p n q) h = plain (refl, refl, refl) (plain (refl, refl, refl) (semicolon (none (suc a))))
  stmt_reads T a (break p) h = plain (refl, refl, refl) (semicolon (none (suc a)))
  stmt_reads T a (continue p) h = plain (refl, refl, refl) (semicolon (none (suc a)))
  stmt_reads T a (return p e) h = plain (refl, refl, refl) (ended a T e h)

  pub stmts_read : (T : List Name) (a : ℕ) (ss : Stmts) → stmts_ok T ss ≡ true → Scans (suc a) (suc a) (stmts_flat ss)
  stmts_read T a no_stmts h = none (suc a)
  stmts_read T a (stmt_and s ss) h = two (stmt_reads T a s (first (stmt_ok T s) _ h))
      (stmts_read T a ss (second (stmt_ok T s) _ h))
