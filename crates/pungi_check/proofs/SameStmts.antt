-- What is found in statements is the same under two sets of refused functions that agree on the words that they call.
use Rattle.std.proofs.Common.{◌≡◌, ℕ, List, [], ◌∷◌, ◌++◌, Option, Some, None, refl}
use Rattle.pungi_base.specs.declared.key.Key.{Key}
use Rattle.pungi_base.specs.declared.pos.Pos.{Pos}
use Rattle.pungi_tree.specs.Syntax.{Expr, Spec, Init, value, table, VarDecl, var_decl, Decl, decl, ForStart, start_decl}
use Rattle.pungi_tree.specs.Syntax.{start_expr, Stmt, block, declare, do_expr, if_only, if_else, while, do_while, for}
use Rattle.pungi_tree.specs.Syntax.{switch, case, default, label, goto, break, continue, return, Stmts, no_stmts}
use Rattle.pungi_tree.specs.Syntax.{stmt_and}
use Rattle.pungi_types.specs.declared.kind.ValueKind.{ValueKind}
use Rattle.pungi_types.specs.declared.local.Local.{Local}
use Rattle.pungi_types.specs.Files.{declr_pos}
use Rattle.pungi_types.specs.Findings.{Findings, ◌and◌}
use Rattle.pungi_types.specs.Kinds.{declared_kind}
use Rattle.pungi_types.specs.Stmts.{Frame, after_var, after_stmt, start_frame, first_value_findings, vars_findings}
use Rattle.pungi_types.specs.Stmts.{decl_findings, condition_findings, option_findings, option_condition}
use Rattle.pungi_types.specs.Stmts.{return_findings, switched_findings, in_part, after_part, in_loop, in_switch}
use Rattle.pungi_types.specs.Stmts.{in_block, in_label, start_findings, stmt_findings, stmts_findings}
use Rattle.pungi_check.specs.Calls.{expr_calls, option_calls, init_calls, vars_calls, decl_calls, start_calls}
use Rattle.pungi_check.specs.Calls.{stmt_calls, stmts_calls}
use Rattle.pungi_check.proofs.Places.{World, env_at, place, after_stmt-place, start_frame-place}
use Rattle.pungi_check.proofs.Agreement.{Agree, left, right}
use Rattle.pungi_check.proofs.SameKinds.{kind-same}
use Rattle.pungi_check.proofs.SameExprs.{expr-same}

pub ands-same : (a b c d : Findings) → a ≡ b → c ≡ d → (a and c) ≡ (b and d)
ands-same a b c d h k = cc

initial-same : (x : World) (s t : List ℕ) (ls : List Local) (k : Option ValueKind) (p : Pos) (v : Option Init)
    → Agree x s t (init_calls v) → first_value_findings (env_at x s ls) k p v
    ≡ first_value_findings (env_at x t ls) k p v
initial-same x s t ls k p None h = refl
initial-same x s t ls k p (Some (table ts)) h = refl
initial-same x s t ls k p (Some (value e)) h = cc (kind-same x s t ls e h, expr-same x s t ls e h)

vars-same : (x : World) (s t : List ℕ) (f : Frame) (qs : List Key) (sp : Spec) (vs : List VarDecl)
    → Agree x s t (vars_calls vs) → vars_findings (place x s f) qs sp vs ≡ vars_findings (place x t f) qs sp vs
vars-same x s t f qs sp [] h = refl
vars-same x s t f qs sp (var_decl d v ∷ vs) h =
    let g = after_var (place x [] f) sp (var_decl d v) in
    ands-same _ _ _ _
    (ands-same _ _ _ _ refl (ands-same _ _ _ _ refl (initial-same x s t g.env.locals
    (declared_kind x.file.items sp d) (declr_pos d) v (left x s t (init_calls v) (vars_calls vs) h))))
    (vars-same x s t g qs sp vs (right x s t (init_calls v) (vars_calls vs) h))

decl-same : (x : World) (s t : List ℕ) (f : Frame) (d : Decl) → Agree x s t (decl_calls d)
    → decl_findings (place x s f) d ≡ decl_findings (place x t f) d
decl-same x s t f (decl qs sp vs) h = vars-same x s t f qs sp vs h

condition-same : (x : World) (s t : List ℕ) (ls : List Local) (p : Pos) (e : Expr) → Agree x s t (expr_calls e)
    → condition_findings (env_at x s ls) p e ≡ condition_findings (env_at x t ls) p e
condition-same x s t ls p e h = cc (kind-same x s t ls e h, expr-same x s t ls e h)

option-same : (x : World) (s t : List ℕ) (ls : List Local) (e : Option Expr) → Agree x s t (option_calls e)
    → option_findings (env_at x s ls) e ≡ option_findings (env_at x t ls) e
option-same x s t ls None h = refl
option-same x s t ls (Some e) h = expr-same x s t ls e h

option_condition-same : (x : World) (s t : List ℕ) (ls : List Local) (p : Pos) (e : Option Expr)
    → Agree x s t (option_calls e) → option_condition (env_at x s ls) p e ≡ option_condition (env_at x t ls) p e
option_condition-same x s t ls p None h = refl
option_condition-same x s t ls p (Some e) h = condition-same x s t ls p e h

return-same : (x : World) (s t : List ℕ) (ls : List Local) (r : Option ValueKind) (p : Pos) (e : Option Expr)
    → Agree x s t (option_calls e) → return_findings (env_at x s ls) r p e ≡ return_findings (env_at x t ls) r p e
return-same x s t ls r p None h = refl
return-same x s t ls r p (Some e) h = cc (kind-same x s t ls e h, expr-same x s t ls e h)

switched-same : (x : World) (s t : List ℕ) (ls : List Local) (p : Pos) (e : Expr) → Agree x s t (expr_calls e)
    → switched_findings (env_at x s ls) p e ≡ switched_findings (env_at x t ls) p e
switched-same x s t ls p e h = cc (kind-same x s t ls e h, expr-same x s t ls e h)

start-same : (x : World) (s t : List ℕ) (f : Frame) (a : ForStart) → Agree x s t (start_calls a)
    → start_findings (place x s f) a ≡ start_findings (place x t f) a
start-same x s t f (start_decl d) h = decl-same x s t (record f { block = [] }) d h
start-same x s t f (start_expr e) h = option-same x s t f.env.locals e h

mutual
  pub stmt-same : (x : World) (s t : List ℕ) (f : Frame) (a : Stmt) → Agree x s t (stmt_calls a)
      → stmt_findings (place x s f) a ≡ stmt_findings (place x t f) a
  stmt-same x s t f (block p ss q) h = stmts-same x s t (in_block f ss) ss h
  stmt-same x s t f (declare p d) h = decl-same x s t f d h
  stmt-same x s t f (do_expr p e) h = option-same x s t f.env.locals e h
  stmt-same x s t f (if_only p e a) h =
      cc (
        condition-same x s t f.env.locals p e (left x s t (expr_calls e) (stmt_calls a) h),
        stmt-same x s t
            (in_part f) a (right x s t (expr_calls e) (stmt_calls a) h),
      )
  stmt-same x s t f (if_else p e a b) h =
      let g = right x s t (expr_calls e) (stmt_calls a ++ stmt_calls b) h in
      cc (
        condition-same x s t f.env.locals p e (left x s t (expr_calls e) (stmt_calls a ++ stmt_calls b) h),
        stmt-same x s t (in_part f) a (left x s t (stmt_calls a) (stmt_calls b) g),
        stmt-same x s t (after_part (in_part f) a) b (right x s t (stmt_calls a) (stmt_calls b) g),
      )
  stmt-same x s t f (while p e a) h =
      cc (
        condition-same x s t f.env.locals p e (left x s t (expr_calls e) (stmt_calls a) h),
        stmt-same x s t
            (in_loop f) a (right x s t (expr_calls e) (stmt_calls a) h),
      )
  stmt-same x s t f (do_while p a e) h =
      cc (
        stmt-same x s t (in_loop f) a (left x s t (stmt_calls a) (expr_calls e) h),
        condition-same x s t
            f.env.locals p e (right x s t (stmt_calls a) (expr_calls e) h),
      )
  stmt-same x s t f (for p a b c d) h =
      let g = start_frame (place x [] f) a in
      let h1 = right x s t (start_calls a) (option_calls b ++ (option_calls c ++ stmt_calls d)) h in
      let h2 = right x s t (option_calls b) (option_calls c ++ stmt_calls d) h1 in
      let e1 = start_frame-place x s f a in
      let e2 = start_frame-place x t f a in
      let q1 = start-same x s t f a (left x s t (start_calls a) (option_calls b ++ (option_calls c ++ stmt_calls d))
      h) in
      let q2 = option_condition-same x s t g.env.locals p b (left x s t (option_calls b)
      (option_calls c ++ stmt_calls d) h1) in
      let q3 = option-same x s t g.env.locals c (left x s t (option_calls c) (stmt_calls d) h2) in
      let q4 = stmt-same x s t (in_loop g) d (right x s t (option_calls c) (stmt_calls d) h2) in
      rw (e1, e2) (cc (q1, q2, q3, q4))
  stmt-same x s t f (switch p e a) h =
      cc (
        switched-same x s t f.env.locals p e (left x s t (expr_calls e) (stmt_calls a) h),
        stmt-same x s t
            (in_switch f) a (right x s t (expr_calls e) (stmt_calls a) h),
      )
  stmt-same x s t f (case p e a) h =
      cc (
        expr-same x s t f.env.locals e (left x s t (expr_calls e) (stmt_calls a) h),
        stmt-same x s t (in_label f)
            a (right x s t (expr_calls e) (stmt_calls a) h),
      )
  stmt-same x s t f (default p a) h = cc (stmt-same x s t (in_label f) a h)
  stmt-same x s t f (label p n a) h = stmt-same x s t (in_label f) a h
  stmt-same x s t f (goto p n q) h = refl
  stmt-same x s t f (break p) h = refl
  stmt-same x s t f (continue p) h = refl
  stmt-same x s t f (return p e) h = return-same x s t f.env.locals f.result p e h

  pub stmts-same : (x : World) (s t : List ℕ) (f : Frame) (ss : Stmts) → Agree x s t (stmts_calls ss)
      → stmts_findings (place x s f) ss ≡ stmts_findings (place x t f) ss
  stmts-same x s t f no_stmts h = refl
  stmts-same x s t f (stmt_and a ss) h =
      let q1 = stmt-same x s t f a (left x s t (stmt_calls a) (stmts_calls ss) h) in
      let q2 = stmts-same x s t (after_stmt (place x [] f) a) ss (right x s t (stmt_calls a) (stmts_calls ss) h) in
      rw (after_stmt-place x s f a, after_stmt-place x t f a) (cc (q1, q2))
