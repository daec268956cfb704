-- A statement in which no rule holds is of the kinds that it needs.
use Rattle.std.proofs.Common.{◌≡◌, ◌∙◌, ℕ, zero, suc, ◌+◌, ◌≤◌, pos, negsuc, arith, Bool, true, false, List, [], length}
use Rattle.std.proofs.Common.{Option, Some, None, refl, sym, ap, subst}
use Rattle.std.specs.Prelude.{◌&&◌, not, neg_ℤ, int_lt, is_some, if◌then◌else◌}
use Rattle.pungi_base.specs.declared.kind.Kind.{Kind}
use Rattle.pungi_base.specs.declared.pos.Pos.{Pos}
use Rattle.pungi_tree.specs.Syntax.{Expr, word, int, char, unary, decl, ForStart, start_decl, start_expr, Stmt, block}
use Rattle.pungi_tree.specs.Syntax.{declare, do_expr, if_only, if_else, while, do_while, for, switch, case, default}
use Rattle.pungi_tree.specs.Syntax.{label, goto, break, continue, return, Stmts, no_stmts, stmt_and, Item}
use Rattle.pungi_api.specs.declared.param.Param.{Param}
use Rattle.pungi_types.specs.declared.kind.ValueKind.{ValueKind}
use Rattle.pungi_types.specs.declared.kind.ValueKind.TheVariants as kinds
use Rattle.pungi_types.specs.Findings.{Findings, nothing_found}
use Rattle.pungi_types.specs.Names.{Env}
use Rattle.pungi_types.specs.Operators.{prefix_of, is_integer, is_void, fits}
use Rattle.pungi_types.specs.Calls.{is_address, names_type_object}
use Rattle.pungi_types.specs.Exprs.{kind_of, is_bad_int, expr_findings}
use Rattle.pungi_types.specs.Labels.{byte, unsigned_constant, negate, is_minus, constant_of, switch_findings}
use Rattle.pungi_types.specs.Labels.{stmt_locals}
use Rattle.pungi_resolve.specs.Exprs.{resolve, convert}
use Rattle.pungi_resolved.specs.Values.{Value}
use Rattle.pungi_resolve.specs.Stmts.{Site, with_start, site_after, site_past, start_declared, start_value}
use Rattle.pungi_resolve.specs.Stmts.{option_value, return_value, case_value, action, actions}
use Rattle.pungi_types.specs.Stmts.{Frame, condition_findings, option_findings, option_condition, is_wrong_return}
use Rattle.pungi_types.specs.Stmts.{return_findings, is_no_integer, switched_findings, in_part, in_loop, in_switch}
use Rattle.pungi_types.specs.Stmts.{in_block, in_label, start_frame, after_part, after_stmt, start_findings}
use Rattle.pungi_types.specs.Stmts.{stmt_findings, stmts_findings}
use Rattle.pungi_code.specs.WellFormed.{is_constant}
use Rattle.pungi_resolve.proofs.Clean.{Clean, left, right, not_when, or_right, and_true}
use Rattle.pungi_resolve.proofs.UsedValues.{one-asked}
use Rattle.pungi_resolve.proofs.SoundExprs.{expr-good, node, unless}
use Rattle.pungi_resolve.proofs.SoundStmts.{site, start-site, stmt-site}
use Rattle.pungi_layout.specs.kinds.Typed.{Known, IsNumber, IsTyped, IsOptionTyped, AreDeclaredTyped}
use Rattle.pungi_layout.specs.kinds.Typed.{IsReturned, IsStmtTyped, AreStmtsTyped}
use Rattle.pungi_layout.specs.code.VarKinds.{stmt_declared, stmts_declared}
use Rattle.pungi_lower.proofs.kinds.Parts.{Around, in_file, kin_number, Going, convert_going}
use Rattle.pungi_layout.proofs.well_formed.Instructions.{le_true}
use Rattle.pungi_lower.proofs.kinds.Words.{bounded, byte_low, fits_pos, not_less}
use Rattle.pungi_lower.proofs.kinds.Locals.{start_count, stmt_count, AreHeld, held_front, held_behind, Knows}
use Rattle.pungi_lower.proofs.kinds.Locals.{vars_kinds}
use Rattle.pungi_lower.proofs.kinds.Exprs.{expr_kinds}
use Rattle.pungi_lower.proofs.sound.Stmts.{known-fit}

-- .. the constants of cases
negative_fits : (n : ℕ) → n ≤ 9223372036854775807 → is_constant (neg_ℤ (pos n)) ≡ true
negative_fits zero h = refl
negative_fits (suc n) h = and_true _ _ (le_true n 9223372036854775806 (omega (arith, h))) refl

-- what stands after a `-`, where it is a constant
behind_minus : (env : Env) (e : Expr) → Clean (expr_findings env e)
    → is_constant (case_value (negate (unsigned_constant e))) ≡ true
behind_minus env (int p (pos n) l u) c =
    let bad = not_when (is_bad_int (pos n) u) p 14 (node env (int p (pos n) l u) c).fourteen in
    let small = not_less 9223372036854775807 n (or_right (int_lt (pos n) (pos 0)) _ (or_right u _ bad)) in
    elim (int_lt (pos n) (pos 0)) as (λ b. is_constant (case_value
    (negate (if b then None else Some (pos n)))) ≡ true) [ true ↦ refl | false ↦ negative_fits n small ]
behind_minus env (int p (negsuc n) l u) c = refl
behind_minus env (char p x) c = let l = byte_low x in negative_fits (byte x) (omega (arith, l))
behind_minus env _ c = refl

no_address : (a : Bool) → (a && false) ≡ false
no_address true = refl
no_address false = refl

-- no name of a type stands where a constant does
operand_clean : (env : Env) (p : Pos) (k : Kind) (e : Expr) → names_type_object env e ≡ false
    → Clean (expr_findings env (unary p k e)) → Clean (expr_findings env e)
operand_clean env p k e h c =
    let skipped = is_address (prefix_of k) && names_type_object env e in
    let fs : Findings = (if skipped then nothing_found else expr_findings env e) in
    unless skipped (expr_findings env e) (left fs _ c) (ap (λ (b : Bool). is_address (prefix_of k) && b) h
    ∙ no_address (is_address (prefix_of k)))

minus_fits : (env : Env) (p : Pos) (k : Kind) (e : Expr) → Clean (expr_findings env (unary p k e))
    → is_constant (case_value (negate (unsigned_constant e))) ≡ true
minus_fits env p k (word q w) c = refl
minus_fits env p k (int q v l u) c = behind_minus env (int q v l u) (operand_clean env p k (int q v l u) refl c)
minus_fits env p k (char q x) c = behind_minus env (char q x) (operand_clean env p k (char q x) refl c)
minus_fits env p k _ c = refl

-- a case is a constant
case_fits : (env : Env) (e : Expr) → Clean (expr_findings env e)
    → is_constant (case_value (constant_of e)) ≡ true
case_fits env (unary p k e) c =
    elim (is_minus k) as (λ b. is_constant (case_value (if b then negate (unsigned_constant e) else None))
    ≡ true) [
      | true ↦ minus_fits env p k e c
      | false ↦ refl
    ]
case_fits env (int p v l u) c =
    let h = bounded v u (not_when (is_bad_int v u) p 14 (node env (int p v l u) c).fourteen) in
    elim (int_lt v (pos 0)) as (λ b. is_constant (case_value (if b then None else Some v)) ≡ true)
    [ true ↦ refl | false ↦ h.long ]
case_fits env (char p x) c = let l = byte_low x in fits_pos kinds.Long (byte x) (omega (arith, l))
case_fits env _ c = refl

-- .. expressions of a statement
expr_typed : (around : Around) (vars : List Param) (env : Env) → Knows around vars env → (e : Expr)
    → Clean (expr_findings env e) → IsTyped (in_file around env.file.items) vars (resolve env e)
expr_typed around vars env h e c =
    (expr_kinds around vars env h.kinds h.held h.rows h.callees e c).value.typed

option_typed : (around : Around) (vars : List Param) (env : Env) → Knows around vars env → (e : Option Expr)
    → Clean (option_findings env e) → IsOptionTyped (in_file around env.file.items) vars (option_value env e)
option_typed around vars env h None c = tt
option_typed around vars env h (Some e) c = expr_typed around vars env h e c

condition_typed : (around : Around) (vars : List Param) (env : Env) → Knows around vars env → (p : Pos)
    → (e : Option Expr) → Clean (option_condition env p e)
    → IsOptionTyped (in_file around env.file.items) vars (option_value env e)
condition_typed around vars env h p None c = tt
condition_typed around vars env h p (Some e) c = expr_typed around vars env h e (left (expr_findings env e) _ c)

still_integer : (k : Option ValueKind) → is_some k ≡ true → (is_some k && not (is_integer k)) ≡ false
    → is_integer k ≡ true
still_integer (Some kinds.Int) s h = refl
still_integer (Some kinds.Long) s h = refl
still_integer (Some kinds.Size) s h = refl
still_integer _ s h = absurd (cc)

switched_number : (around : Around) (vars : List Param) (env : Env) → Knows around vars env → (p : Pos) (e : Expr)
    → Clean (switched_findings env p e) → IsNumber (resolve env e)
switched_number around vars env h p e c =
    let d = left (expr_findings env e) _ c in
    let i = still_integer (kind_of env e) (expr-good env h.kinds e d).known
    (one-asked env is_no_integer p e (right (expr_findings env e) _ c)) in
    kin_number (kind_of env e) (resolve env e) i (expr_kinds around vars env h.kinds h.held h.rows h.callees e
    d).value.kin

-- a result of a kind, or none
still_void : (k : Option ValueKind) → is_some k ≡ true → (is_some k && not (is_void k)) ≡ false → is_void k ≡ true
still_void None s h = absurd (cc)
still_void (Some kinds.Void) s h = refl
still_void (Some _) s h = absurd (cc)

going_returned : (file : Known) (vars : List Param) (k : Option ValueKind) (v : Value) → Going file vars k v
    → IsReturned file vars k (Some v)
going_returned file vars None v g = absurd g.goes
going_returned file vars (Some k) v g = (g.goes.0, (g.goes.1, g.typed))

return_typed : (around : Around) (vars : List Param) (f : Frame) → Knows around vars f.env
    → f.result ≡ around.result → (p : Pos) (e : Option Expr) → Clean (return_findings f.env f.result p e)
    → IsReturned (in_file around f.env.file.items) vars f.result (return_value (site f) p e)
return_typed around vars f h r p None c =
    still_void f.result (ap is_some r ∙ h.result) (not_when (is_some f.result && not (is_void f.result)) p 10 c)
return_typed around vars f h r p (Some e) c =
    let d = left (expr_findings f.env e) _ c in
    let ten = one-asked f.env (is_wrong_return f.result) p e (right (expr_findings f.env e) _ c) in
    let fit = known-fit (is_some f.result) (is_some (kind_of f.env e)) (is_void f.result)
    (fits f.result (kind_of f.env e)) true (ap is_some r ∙ h.result) (expr-good f.env h.kinds e d).known ten in
    going_returned (in_file around f.env.file.items) vars f.result (convert p f.result (kind_of f.env e)
    (resolve f.env e)) (convert_going (in_file around f.env.file.items) vars p f.result (kind_of f.env e)
    (resolve f.env e) fit (expr_kinds around vars f.env h.kinds h.held h.rows h.callees e d).value)

-- .. statements
-- where the statement after one stands
record Behind (around : Around) (vars : List Param) (f : Frame) (s : Stmt) : Type 0 where
  names : Knows around vars (after_stmt f s).env
  file : (after_stmt f s).env.file.items ≡ f.env.file.items
  next : (after_stmt f s).next ≡ f.next + stmt_locals s
  result : (after_stmt f s).result ≡ f.result

known_behind : (around : Around) (vars : List Param) (f : Frame) (s : Stmt) → Knows around vars f.env
    → AreHeld vars f.next (stmt_declared (action (site f) s)) → Clean (stmt_findings f s) → Behind around vars f s
known_behind around vars f (declare p (decl qs s vs)) h b c =
    let d = vars_kinds around vars f qs s vs h b c in
    record { names = d.names; file = d.file; next = d.next; result = d.result }
known_behind around vars f _ h b c = record { names = h; file = refl; next = refl; result = refl }

-- what begins a `for`
record Started (around : Around) (vars : List Param) (f : Frame) (a : ForStart) : Type 0 where
  names : Knows around vars (start_frame f a).env
  file : (start_frame f a).env.file.items ≡ f.env.file.items
  next : (start_frame f a).next ≡ f.next + length (start_declared (site f) a)
  result : (start_frame f a).result ≡ f.result
  locals : AreDeclaredTyped (in_file around f.env.file.items) vars (start_declared (site f) a)
  first : IsOptionTyped (in_file around f.env.file.items) vars (start_value f.env a)

known_start : (around : Around) (vars : List Param) (f : Frame) (a : ForStart) → Knows around vars f.env
    → AreHeld vars f.next (start_declared (site f) a) → Clean (start_findings f a) → Started around vars f a
known_start around vars f (start_decl (decl qs s vs)) h b c =
    let d = vars_kinds around vars (record f { block = [] }) qs s vs h b c in
    let e = start_count (site f) (start_decl (decl qs s vs)) in
    record {
      names = d.names;
      file = d.file;
      next = omega (arith, d.next, e);
      result = d.result;
      locals = d.typed;
      first = tt;
    }
known_start around vars f (start_expr e) h b c =
    record {
      names = h;
      file = refl;
      next = omega arith;
      result = refl;
      locals = tt;
      first = option_typed around vars f.env h e c;
    }

-- a `for`, given what is known of its body
abbrev BodyKinds : Around → List Param → Stmt → Type 0
BodyKinds around vars s =
    (g : Frame) → Knows around vars g.env → g.result ≡ around.result
    → AreHeld vars g.next (stmt_declared (action (site g) s)) → Clean (stmt_findings g s)
    → IsStmtTyped (in_file around g.env.file.items) vars (action (site g) s)

for_kinds : (around : Around) (vars : List Param) (f : Frame) (p : Pos) (a : ForStart) (t d : Option Expr) (s : Stmt)
    → Knows around vars f.env → f.result ≡ around.result
    → AreHeld vars f.next (stmt_declared (action (site f) (for p a t d s)))
    → Clean (stmt_findings f (for p a t d s)) → BodyKinds around vars s
    → IsStmtTyped (in_file around f.env.file.items) vars (action (site f) (for p a t d s))
for_kinds around vars f p a t d s h r b c body =
    let g = start_frame f a in
    let x = with_start (site f) a in
    let rs = start_declared (site f) a in
    let inner = stmt_declared (action x s) in
    let i = known_start around vars f a h (held_front vars f.next rs inner b) (left (start_findings f a) _ c) in
    let two = right (start_findings f a) _ c in
    let three = right (option_condition g.env p t) _ two in
    let Held : Site → Type 0 = λ y. AreHeld vars g.next (stmt_declared (action y s)) in
    let held : Held (site g) = subst Held (sym (start-site f a)) (held_behind vars f.next g.next rs inner b
    (omega (arith, i.next))) in
    let Parts : Site → Type 0 = λ y. IsOptionTyped (in_file around g.env.file.items) vars (option_value y.env t)
    × IsOptionTyped (in_file around g.env.file.items) vars (option_value y.env d)
    × IsStmtTyped (in_file around g.env.file.items) vars (action y s) in
    let parts : Parts x = subst Parts (start-site f a) (
      condition_typed around vars g.env i.names p t (left (option_condition g.env p t) _ two),
      option_typed around vars g.env i.names d (left (option_findings g.env d) _ three),
      body (in_loop g) i.names (i.result ∙ r) held (right (option_findings g.env d) _ three),
    ) in
    let Filed : List Item → Type 0 = λ fl. IsOptionTyped (in_file around fl) vars (option_value x.env t)
    × IsOptionTyped (in_file around fl) vars (option_value x.env d)
    × IsStmtTyped (in_file around fl) vars (action x s) in
    let filed : Filed f.env.file.items = subst Filed i.file parts in
    (i.locals, i.first, filed.0, filed.1, filed.2)

mutual
  pub stmt_kinds : (around : Around) (vars : List Param) (f : Frame) (s : Stmt) → Knows around vars f.env
      → f.result ≡ around.result → AreHeld vars f.next (stmt_declared (action (site f) s))
      → Clean (stmt_findings f s) → IsStmtTyped (in_file around f.env.file.items) vars (action (site f) s)
  stmt_kinds around vars f (block p ss q) h r b c = stmts_kinds around vars (in_block f ss) ss h r b c
  stmt_kinds around vars f (declare p (decl qs s vs)) h r b c = (vars_kinds around vars f qs s vs h b c).typed
  stmt_kinds around vars f (do_expr p e) h r b c = option_typed around vars f.env h e c
  stmt_kinds around vars f (if_only p e s) h r b c = (
    expr_typed around vars f.env h e (left (expr_findings f.env e) _ (left (condition_findings f.env p e) _ c)),
    stmt_kinds around vars (in_part f) s h r b (right (condition_findings f.env p e) _ c),
  )
  stmt_kinds around vars f (if_else p e s t) h r b c =
      let rest = right (condition_findings f.env p e) _ c in
      let a1 = action (site f) s in
      let a2 = action (site_past (site f) s) t in
      let k = stmt_count (site f) s in (
        expr_typed around vars f.env h e (left (expr_findings f.env e) _ (left (condition_findings f.env p e) _ c)),
        stmt_kinds around vars (in_part f) s h r (held_front vars f.next (stmt_declared a1) (stmt_declared a2) b)
            (left (stmt_findings (in_part f) s) _ rest),
        stmt_kinds around vars (after_part (in_part f) s) t h r (held_behind vars f.next (f.next + stmt_locals s)
            (stmt_declared a1) (stmt_declared a2) b (omega (arith, k))) (right (stmt_findings (in_part f) s) _ rest),
      )
  stmt_kinds around vars f (while p e s) h r b c = (
    expr_typed around vars f.env h e (left (expr_findings f.env e) _ (left (condition_findings f.env p e) _ c)),
    stmt_kinds around vars (in_loop f) s h r b (right (condition_findings f.env p e) _ c),
  )
  stmt_kinds around vars f (do_while p s e) h r b c = (
    expr_typed around vars f.env h e (left (expr_findings f.env e) _ (right (stmt_findings (in_loop f) s) _ c)),
    stmt_kinds around vars (in_loop f) s h r b (left (stmt_findings (in_loop f) s) _ c),
  )
  stmt_kinds around vars f (for p a t d s) h r b c = for_kinds around vars f p a t d s h r b c
      (λ g k x y z. stmt_kinds around vars g s k x y z)
  stmt_kinds around vars f (switch p e s) h r b c =
      let one = left (switched_findings f.env p e) _ c in (
        switched_number around vars f.env h p e one,
        expr_typed around vars f.env h e (left (expr_findings f.env e) _ one),
        stmt_kinds around vars (in_switch f) s h r b (right (switch_findings s) _
            (right (switched_findings f.env p e) _ c)),
      )
  stmt_kinds around vars f (case p e s) h r b c =
      let rest = right _ _ c in (
        case_fits f.env e (left (expr_findings f.env e) _ rest),
        stmt_kinds around vars (in_label f) s h r b (right (expr_findings f.env e) _ rest),
      )
  stmt_kinds around vars f (default p s) h r b c = stmt_kinds around vars (in_label f) s h r b (right _ _ c)
  stmt_kinds around vars f (label p w s) h r b c = stmt_kinds around vars (in_label f) s h r b c
  stmt_kinds around vars f (goto p w q) h r b c = tt
  stmt_kinds around vars f (break p) h r b c = tt
  stmt_kinds around vars f (continue p) h r b c = tt
  stmt_kinds around vars f (return p e) h r b c = (r, return_typed around vars f h r p e c)

  pub stmts_kinds : (around : Around) (vars : List Param) (f : Frame) (ss : Stmts) → Knows around vars f.env
      → f.result ≡ around.result → AreHeld vars f.next (stmts_declared (actions (site f) ss))
      → Clean (stmts_findings f ss) → AreStmtsTyped (in_file around f.env.file.items) vars (actions (site f) ss)
  stmts_kinds around vars f no_stmts h r b c = tt
  stmts_kinds around vars f (stmt_and s ss) h r b c =
      let one = left (stmt_findings f s) _ c in
      let first = action (site f) s in
      let rest = actions (site_after (site f) s) ss in
      let held = held_front vars f.next (stmt_declared first) (stmts_declared rest) b in
      let g = after_stmt f s in
      let k = known_behind around vars f s h held one in
      let count = stmt_count (site f) s in
      let Held : Site → Type 0 = λ y. AreHeld vars g.next (stmts_declared (actions y ss)) in
      let more : Held (site g) = subst Held (sym (stmt-site f s)) (held_behind vars f.next g.next
      (stmt_declared first) (stmts_declared rest) b (omega (arith, k.next, count))) in
      let Rest : Site → Type 0 = λ y. AreStmtsTyped (in_file around g.env.file.items) vars (actions y ss) in
      let typed : Rest (site_after (site f) s) = subst Rest (stmt-site f s) (stmts_kinds around vars g ss k.names
      (k.result ∙ r) more (right (stmt_findings f s) _ c)) in (
        stmt_kinds around vars f s h r held one,
        subst (λ (fl : List Item). AreStmtsTyped (in_file around fl) vars (actions (site_after (site f) s) ss)) k.file
            typed,
      )
