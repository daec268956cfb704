-- Where a statement calls a function of the set, a rule holds in it.
use Rattle.std.proofs.Common.{ℕ, List, [], ◌∷◌, Option, Some, None}
use Rattle.pungi_base.specs.declared.key.Key.{Key}
use Rattle.pungi_base.specs.declared.pos.Pos.{Pos}
use Rattle.pungi_tree.specs.Syntax.{Expr, Spec, Init, value, table, VarDecl, var_decl, Decl, decl, ForStart, start_decl}
use Rattle.pungi_tree.specs.Syntax.{start_expr, Stmt, block, declare, do_expr, if_only, if_else, while, do_while, for}
use Rattle.pungi_tree.specs.Syntax.{switch, case, default, label, goto, break, continue, return, Stmts, no_stmts}
use Rattle.pungi_tree.specs.Syntax.{stmt_and}
use Rattle.pungi_types.specs.declared.kind.ValueKind.{ValueKind}
use Rattle.pungi_types.specs.declared.local.Local.{Local}
use Rattle.pungi_types.specs.Files.{declr_pos}
use Rattle.pungi_types.specs.Kinds.{declared_kind}
use Rattle.pungi_types.specs.Stmts.{Frame, after_var, after_stmt, start_frame, first_value_findings, vars_findings}
use Rattle.pungi_types.specs.Stmts.{decl_findings, condition_findings, option_findings, option_condition}
use Rattle.pungi_types.specs.Stmts.{return_findings, switched_findings, in_part, after_part, in_loop, in_switch}
use Rattle.pungi_types.specs.Stmts.{in_block, in_label, start_findings, stmt_findings, stmts_findings}
use Rattle.pungi_check.specs.Calls.{expr_calls, option_calls, init_calls, vars_calls, decl_calls, start_calls}
use Rattle.pungi_check.specs.Calls.{stmt_calls, stmts_calls}
use Rattle.pungi_check.proofs.Places.{World, env_at, place, refused_call, after_stmt-place, start_frame-place}
use Rattle.pungi_check.proofs.Agreement.{Finds, none, first, second, both}
use Rattle.pungi_check.proofs.FindsExprs.{expr-finds}

initial-finds : (x : World) (t : List ℕ) (ls : List Local) (k : Option ValueKind) (p : Pos) (v : Option Init)
    → Finds (refused_call x t) (init_calls v) (first_value_findings (env_at x t ls) k p v)
initial-finds x t ls k p None = none (refused_call x t) _
initial-finds x t ls k p (Some (table ts)) = none (refused_call x t) _
initial-finds x t ls k p (Some (value e)) = first (refused_call x t) _ _ _ (expr-finds x t ls e)

vars-finds : (x : World) (t : List ℕ) (f : Frame) (qs : List Key) (sp : Spec) (vs : List VarDecl)
    → Finds (refused_call x t) (vars_calls vs) (vars_findings (place x t f) qs sp vs)
vars-finds x t f qs sp [] = none (refused_call x t) _
vars-finds x t f qs sp (var_decl d v ∷ vs) =
    let q = refused_call x t in
    let g = after_var (place x [] f) sp (var_decl d v) in
    both q _ _ _ _ (second q _ _ _ (second q _ _ _ (initial-finds x t g.env.locals (declared_kind x.file.items sp d)
    (declr_pos d) v))) (vars-finds x t g qs sp vs)

decl-finds : (x : World) (t : List ℕ) (f : Frame) (d : Decl)
    → Finds (refused_call x t) (decl_calls d) (decl_findings (place x t f) d)
decl-finds x t f (decl qs sp vs) = vars-finds x t f qs sp vs

condition-finds : (x : World) (t : List ℕ) (ls : List Local) (p : Pos) (e : Expr)
    → Finds (refused_call x t) (expr_calls e) (condition_findings (env_at x t ls) p e)
condition-finds x t ls p e = first (refused_call x t) _ _ _ (expr-finds x t ls e)

option-finds : (x : World) (t : List ℕ) (ls : List Local) (e : Option Expr)
    → Finds (refused_call x t) (option_calls e) (option_findings (env_at x t ls) e)
option-finds x t ls None = none (refused_call x t) _
option-finds x t ls (Some e) = expr-finds x t ls e

option_condition-finds : (x : World) (t : List ℕ) (ls : List Local) (p : Pos) (e : Option Expr)
    → Finds (refused_call x t) (option_calls e) (option_condition (env_at x t ls) p e)
option_condition-finds x t ls p None = none (refused_call x t) _
option_condition-finds x t ls p (Some e) = condition-finds x t ls p e

return-finds : (x : World) (t : List ℕ) (ls : List Local) (r : Option ValueKind) (p : Pos) (e : Option Expr)
    → Finds (refused_call x t) (option_calls e) (return_findings (env_at x t ls) r p e)
return-finds x t ls r p None = none (refused_call x t) _
return-finds x t ls r p (Some e) = first (refused_call x t) _ _ _ (expr-finds x t ls e)

switched-finds : (x : World) (t : List ℕ) (ls : List Local) (p : Pos) (e : Expr)
    → Finds (refused_call x t) (expr_calls e) (switched_findings (env_at x t ls) p e)
switched-finds x t ls p e = first (refused_call x t) _ _ _ (expr-finds x t ls e)

start-finds : (x : World) (t : List ℕ) (f : Frame) (a : ForStart)
    → Finds (refused_call x t) (start_calls a) (start_findings (place x t f) a)
start-finds x t f (start_decl d) = decl-finds x t (record f { block = [] }) d
start-finds x t f (start_expr e) = option-finds x t f.env.locals e

mutual
  pub stmt-finds : (x : World) (t : List ℕ) (f : Frame) (a : Stmt)
      → Finds (refused_call x t) (stmt_calls a) (stmt_findings (place x t f) a)
  stmt-finds x t f (block p ss q) = stmts-finds x t (in_block f ss) ss
  stmt-finds x t f (declare p d) = decl-finds x t f d
  stmt-finds x t f (do_expr p e) = option-finds x t f.env.locals e
  stmt-finds x t f (if_only p e a) = both (refused_call x t) _ _ _ _ (condition-finds x t f.env.locals p e)
      (stmt-finds x t (in_part f) a)
  stmt-finds x t f (if_else p e a b) =
      both (refused_call x t) _ _ _ _ (condition-finds x t f.env.locals p e)
      (both (refused_call x t) _ _ _ _ (stmt-finds x t (in_part f) a) (stmt-finds x t (after_part (in_part f) a)
      b))
  stmt-finds x t f (while p e a) = both (refused_call x t) _ _ _ _ (condition-finds x t f.env.locals p e)
      (stmt-finds x t (in_loop f) a)
  stmt-finds x t f (do_while p a e) = both (refused_call x t) _ _ _ _ (stmt-finds x t (in_loop f) a)
      (condition-finds x t f.env.locals p e)
  stmt-finds x t f (for p a b c d) =
      let q = refused_call x t in
      let g = start_frame (place x [] f) a in
      rw (start_frame-place x t f a)
      (both q _ _ _ _ (start-finds x t f a) (both q _ _ _ _ (option_condition-finds x t g.env.locals p b)
      (both q _ _ _ _ (option-finds x t g.env.locals c) (stmt-finds x t (in_loop g) d))))
  stmt-finds x t f (switch p e a) =
      both (refused_call x t) _ _ _ _ (switched-finds x t f.env.locals p e) (second (refused_call x t) _ _ _
      (stmt-finds x t (in_switch f) a))
  stmt-finds x t f (case p e a) = second (refused_call x t) _ _ _ (both (refused_call x t) _ _ _ _
      (expr-finds x t f.env.locals e) (stmt-finds x t (in_label f) a))
  stmt-finds x t f (default p a) = second (refused_call x t) _ _ _ (stmt-finds x t (in_label f) a)
  stmt-finds x t f (label p n a) = stmt-finds x t (in_label f) a
  stmt-finds x t f (goto p n q) = none (refused_call x t) _
  stmt-finds x t f (break p) = none (refused_call x t) _
  stmt-finds x t f (continue p) = none (refused_call x t) _
  stmt-finds x t f (return p e) = return-finds x t f.env.locals f.result p e

  pub stmts-finds : (x : World) (t : List ℕ) (f : Frame) (ss : Stmts)
      → Finds (refused_call x t) (stmts_calls ss) (stmts_findings (place x t f) ss)
  stmts-finds x t f no_stmts = none (refused_call x t) _
  stmts-finds x t f (stmt_and a ss) =
      rw (after_stmt-place x t f a) (both (refused_call x t) _ _ _ _ (stmt-finds x t f a)
      (stmts-finds x t (after_stmt (place x [] f) a) ss))
