-- A statement in which no rule holds is sound for the layout.
use Rattle.std.proofs.Common.{◌≡◌, ◌∙◌, ℕ, ◌+◌, ◌<◌, ◌≤◌, arith, Bool, true, false, List, [], ◌∷◌, length, Option, Some}
use Rattle.std.proofs.Common.{None, refl, ap, subst}
use Rattle.std.specs.Prelude.{◌&&◌, ◌||◌, ◌==◌, not, is_some, if◌then◌else◌}
use Rattle.pungi_base.specs.declared.key.Key.{Key}
use Rattle.pungi_base.specs.declared.pos.Pos.{Pos}
use Rattle.pungi_tree.specs.Syntax.{Expr, Spec, Declr, Init, value, table, VarDecl, var_decl, decl, ForStart}
use Rattle.pungi_tree.specs.Syntax.{start_decl, start_expr, Stmt, block, declare, do_expr, if_only, if_else, while}
use Rattle.pungi_tree.specs.Syntax.{do_while, for, switch, case, default, label, goto, break, continue, return, Stmts}
use Rattle.pungi_tree.specs.Syntax.{no_stmts, stmt_and}
use Rattle.pungi_types.specs.declared.kind.ValueKind.{ValueKind}
use Rattle.pungi_types.specs.declared.kind.ValueKind.TheVariants as kinds
use Rattle.pungi_types.specs.declared.local.Local.{Local}
use Rattle.pungi_types.specs.Files.{declr_name, declr_pos}
use Rattle.pungi_types.specs.Kinds.{declared_kind}
use Rattle.pungi_types.specs.Names.{Env, local_in}
use Rattle.pungi_types.specs.Operators.{is_void, is_integer, fits}
use Rattle.pungi_types.specs.Exprs.{kind_of, expr_findings}
use Rattle.pungi_types.specs.Labels.{switch_findings, stmt_locals, stmts_locals, start_locals}
use Rattle.pungi_resolve.specs.Exprs.{resolve}
use Rattle.pungi_resolve.specs.Stmts.{Site, with_start, initial_value, declared_locals, start_declared, start_value}
use Rattle.pungi_resolve.specs.Stmts.{option_value, return_value, action, actions}
use Rattle.pungi_types.specs.Stmts.{Frame, with_local, spec_pos, has_file_storage, declared_n1, declared_n8}
use Rattle.pungi_types.specs.Stmts.{is_wrong_initial, first_value_findings, after_var, after_vars, var_findings}
use Rattle.pungi_types.specs.Stmts.{vars_findings, condition_findings, option_findings, option_condition}
use Rattle.pungi_types.specs.Stmts.{is_wrong_return, return_findings, is_no_integer, switched_findings, in_part}
use Rattle.pungi_types.specs.Stmts.{in_loop, in_switch, in_block, in_label, start_frame, after_part, after_stmt}
use Rattle.pungi_types.specs.Stmts.{start_findings, stmt_findings, stmts_findings}
use Rattle.pungi_resolve.proofs.Clean.{Clean, left, right, not_when, or_left}
use Rattle.pungi_resolve.proofs.Known.{HasKinds, one_more, declared-not_void}
use Rattle.pungi_resolve.proofs.UsedValues.{one-asked}
use Rattle.pungi_resolve.proofs.SoundExprs.{expr-good}
use Rattle.pungi_resolve.proofs.SoundStmts.{site, value_kind, vars-sound, start-site, stmt-site, names-behind}
use Rattle.pungi_layout.specs.code.Sound.{IsWanted, IsOptionSound, IsOptionWanted, AreDeclared, IsStmtSound}
use Rattle.pungi_layout.specs.code.Sound.{AreStmtsSound}
use Rattle.pungi_lower.proofs.sound.Parts.{IsBelow, HasNumbers, Works, convert-works}
use Rattle.pungi_lower.proofs.sound.Calls.{fits-not_void}
use Rattle.pungi_lower.proofs.sound.Exprs.{expr-works}

-- .. one more local
pub one_more-numbered : (n : ℕ) (env : Env) (l : Local) → l.number < n → HasNumbers n env
    → HasNumbers n (with_local env l)
one_more-numbered n env l lt h = record {
  locals = λ w. elim (l.name.0 == w) as (λ b. IsBelow n (if b then Some l else local_in env.locals w))
      [ true ↦ lt | false ↦ h.locals w ];
}

-- .. expressions of a statement
-- two kinds that are known fit each other where no rule holds
pub known-fit : (s t v f x : Bool) → s ≡ true → t ≡ true → (v || ((s && t) && not f)) ≡ false → f ≡ true
known-fit true true false true x a b h = refl
known-fit _ _ _ _ x a b h = absurd (cc)

wanted-by : (n : ℕ) (env : Env) (e : Expr) → Works n env e → is_void (kind_of env e) ≡ false
    → IsWanted n (resolve env e)
wanted-by n env e w v = (w.gives v, w.sound)

condition-works : (n : ℕ) (env : Env) → HasKinds env → HasNumbers n env → (p : Pos) (e : Expr)
    → Clean (condition_findings env p e) → IsWanted n (resolve env e)
condition-works n env h b p e c =
    wanted-by n env e (expr-works n env h b e (left (expr_findings env e) _ c))
    (one-asked env is_void p e (right (expr_findings env e) _ c))

option-works : (n : ℕ) (env : Env) → HasKinds env → HasNumbers n env → (e : Option Expr)
    → Clean (option_findings env e) → IsOptionSound n (option_value env e)
option-works n env h b None c = tt
option-works n env h b (Some e) c = (expr-works n env h b e c).sound

option_condition-works : (n : ℕ) (env : Env) → HasKinds env → HasNumbers n env → (p : Pos) (e : Option Expr)
    → Clean (option_condition env p e) → IsOptionWanted n (option_value env e)
option_condition-works n env h b p None c = tt
option_condition-works n env h b p (Some e) c = condition-works n env h b p e c

integer-not_void : (k : Option ValueKind) → is_some k ≡ true → (is_some k && not (is_integer k)) ≡ false
    → is_void k ≡ false
integer-not_void (Some kinds.Void) s h = absurd (cc)
integer-not_void _ s h = refl

switched-works : (n : ℕ) (env : Env) → HasKinds env → HasNumbers n env → (p : Pos) (e : Expr)
    → Clean (switched_findings env p e) → IsWanted n (resolve env e)
switched-works n env h b p e c =
    let d = left (expr_findings env e) _ c in
    wanted-by n env e (expr-works n env h b e d)
    (integer-not_void (kind_of env e) (expr-good env h e d).known (one-asked env is_no_integer p e
    (right (expr_findings env e) _ c)))

return-works : (n : ℕ) (f : Frame) → HasKinds f.env → HasNumbers n f.env → is_some f.result ≡ true
    → (p : Pos) (e : Option Expr) → Clean (return_findings f.env f.result p e)
    → IsOptionWanted n (return_value (site f) p e)
return-works n f h b r p None c = tt
return-works n f h b r p (Some e) c =
    let d = left (expr_findings f.env e) _ c in
    let w = expr-works n f.env h b e d in
    let ten = one-asked f.env (is_wrong_return f.result) p e (right (expr_findings f.env e) _ c) in
    let t = known-fit (is_some f.result) (is_some (kind_of f.env e)) (is_void f.result)
    (fits f.result (kind_of f.env e)) true r (expr-good f.env h e d).known ten in
    let g = convert-works n p f.result (kind_of f.env e) (resolve f.env e)
    (w.gives (fits-not_void f.result (kind_of f.env e) t)) w.sound in
    (g.gives refl, g.sound)

-- .. declarations
initial-works : (n : ℕ) (f : Frame) (s : Spec) (d : Declr) (i : Option Init)
    → HasKinds (after_var f s (var_decl d i)).env → HasNumbers n (after_var f s (var_decl d i)).env
    → Clean (first_value_findings (after_var f s (var_decl d i)).env (declared_kind f.env.file.items s d)
    (declr_pos d) i) → IsOptionWanted n (initial_value (site f) s (var_decl d i))
initial-works n f s d None h b c = tt
initial-works n f s d (Some (table ts)) h b c = tt
initial-works n f s d (Some (value e)) h b c =
    let env = (after_var f s (var_decl d None)).env in
    let w = expr-works n env h b e (left (expr_findings env e) _ c) in
    let v = or_left (is_void (kind_of env e)) _ (one-asked env (is_wrong_initial
    (declared_kind f.env.file.items s d)) (declr_pos d) e (right (expr_findings env e) _ c)) in
    let g = convert-works n (declr_pos d) (declared_kind f.env.file.items s d) (kind_of env e) (resolve env e)
    (w.gives v) w.sound in
    (g.gives refl, g.sound)

-- variables, and the numbers after them
pub record Numbered (n : ℕ) (f : Frame) (s : Spec) (vs : List VarDecl) : Type 0 where
  pub names : HasNumbers n (after_vars f s vs).env
  pub next : (after_vars f s vs).next ≡ f.next + length vs
  pub sound : AreDeclared n (declared_locals (site f) s vs)

pub vars-work : (n : ℕ) (f : Frame) (qs : List Key) (s : Spec) (vs : List VarDecl) → HasKinds f.env
    → HasNumbers n f.env → f.next + length vs ≤ n → Clean (vars_findings f qs s vs) → Numbered n f s vs
vars-work n f qs s [] h b le c = record { names = b; next = omega arith; sound = tt }
vars-work n f qs s (var_decl d i ∷ vs) h b le c =
    let one = left (var_findings f qs s (var_decl d i)) _ c in
    let n1 = not_when _ (spec_pos s) 1 (left (declared_n1 qs s (declared_kind f.env.file.items s d)) _ one) in
    let k = value_kind (declared_kind f.env.file.items s d) (or_left _ (has_file_storage qs) n1)
    (declared-not_void f.env.file.items s d) in
    let l : Local = record { name = declr_name d; number = f.next; kind = declared_kind f.env.file.items s d } in
    let g = one_more f.env l k h in
    let lt : f.next < n = omega (arith, le) in
    let u = one_more-numbered n f.env l lt b in
    let rest = vars-work n (after_var f s (var_decl d i)) qs s vs g u (omega (arith, le))
    (right (var_findings f qs s (var_decl d i)) _ c) in
    let two = right (declared_n8 f.env f.block (declr_name d) (declr_pos d)) _
    (right (declared_n1 qs s (declared_kind f.env.file.items s d)) _ one) in
    record {
      names = rest.names;
      next = omega (arith, rest.next);
      sound = (
        lt,
        initial-works n f s d i g u two,
        rest.sound,
      );
    }

-- what begins a `for`, and the names after it
record Started (n : ℕ) (f : Frame) (a : ForStart) : Type 0 where
  kinds : HasKinds (start_frame f a).env
  names : HasNumbers n (start_frame f a).env
  next : (start_frame f a).next ≡ f.next + start_locals a
  result : (start_frame f a).result ≡ f.result
  locals : AreDeclared n (start_declared (site f) a)
  first : IsOptionSound n (start_value f.env a)

same-result : (f : Frame) (s : Spec) (vs : List VarDecl) → (after_vars f s vs).result ≡ f.result
same-result f s [] = refl
same-result f s (var_decl d i ∷ vs) = same-result (after_var f s (var_decl d i)) s vs

start-works : (n : ℕ) (f : Frame) → HasKinds f.env → HasNumbers n f.env → (a : ForStart)
    → f.next + start_locals a ≤ n → Clean (start_findings f a) → Started n f a
start-works n f h b (start_decl (decl qs s vs)) le c =
    let k = vars-sound (record f { block = [] }) qs s vs h c in
    let d = vars-work n (record f { block = [] }) qs s vs h b le c in
    record {
      kinds = k.names;
      names = d.names;
      next = d.next;
      result = same-result (record f { block = [] }) s vs;
      locals = d.sound;
      first = tt;
    }
start-works n f h b (start_expr e) le c =
    record {
      kinds = h;
      names = b;
      next = omega arith;
      result = refl;
      locals = tt;
      first = option-works n f.env h b
          e c;
    }

-- .. statements
-- where the statement after one stands
record Behind (n : ℕ) (f : Frame) (s : Stmt) : Type 0 where
  names : HasNumbers n (after_stmt f s).env
  next : (after_stmt f s).next ≡ f.next + stmt_locals s
  result : (after_stmt f s).result ≡ f.result

numbers-behind : (n : ℕ) (f : Frame) → HasKinds f.env → HasNumbers n f.env → (s : Stmt) → f.next + stmt_locals s ≤ n
    → Clean (stmt_findings f s) → Behind n f s
numbers-behind n f h b (declare p (decl qs s vs)) le c =
    let d = vars-work n f qs s vs h b le c in
    record { names = d.names; next = d.next; result = same-result f s vs }
numbers-behind n f h b _ le c = record { names = b; next = refl; result = refl }

mutual
  pub stmt-works : (n : ℕ) (f : Frame) → HasKinds f.env → HasNumbers n f.env → is_some f.result ≡ true → (s : Stmt)
      → f.next + stmt_locals s ≤ n → Clean (stmt_findings f s) → IsStmtSound n (action (site f) s)
  stmt-works n f h b r (block p ss q) le c = stmts-work n (in_block f ss) h b r ss le c
  stmt-works n f h b r (declare p (decl qs s vs)) le c = (vars-work n f qs s vs h b le c).sound
  stmt-works n f h b r (do_expr p e) le c = option-works n f.env h b e c
  stmt-works n f h b r (if_only p e s) le c = (
    condition-works n f.env h b p e (left (condition_findings f.env p e) _ c),
    stmt-works n (in_part f) h b r s
        le (right (condition_findings f.env p e) _ c),
  )
  stmt-works n f h b r (if_else p e s t) le c =
      let rest = right (condition_findings f.env p e) _ c in (
        condition-works n f.env h b p e (left (condition_findings f.env p e) _ c),
        stmt-works n (in_part f) h b r s (omega (arith, le)) (left (stmt_findings (in_part f) s) _ rest),
        stmt-works n (after_part (in_part f) s) h b r t (omega (arith, le)) (right (stmt_findings (in_part f) s) _
            rest),
      )
  stmt-works n f h b r (while p e s) le c = (
    condition-works n f.env h b p e (left (condition_findings f.env p e) _ c),
    stmt-works n (in_loop f) h b r s
        le (right (condition_findings f.env p e) _ c),
  )
  stmt-works n f h b r (do_while p s e) le c = (
    condition-works n f.env h b p e (right (stmt_findings (in_loop f) s) _ c),
    stmt-works n (in_loop f) h b r s
        le (left (stmt_findings (in_loop f) s) _ c),
  )
  stmt-works n f h b r (for p a t d s) le c =
      let g = start_frame f a in
      let i = start-works n f h b a (omega (arith, le)) (left (start_findings f a) _ c) in
      let two = right (start_findings f a) _ c in
      let three = right (option_condition g.env p t) _ two in
      let P : Site → Type 0 = λ x. IsOptionWanted n (option_value x.env t) × IsOptionSound n (option_value x.env d)
      × IsStmtSound n (action x s) in
      let parts : P (with_start (site f) a) = subst P (start-site f a) (
        option_condition-works n g.env i.kinds i.names p t (left (option_condition g.env p t) _ two),
        option-works n g.env i.kinds i.names d (left (option_findings g.env d) _ three),
        stmt-works n (in_loop g) i.kinds i.names (ap is_some i.result ∙ r) s (omega (arith, le, i.next))
            (right (option_findings g.env d) _ three),
      ) in
      (i.locals, i.first, parts.0, parts.1, parts.2)
  stmt-works n f h b r (switch p e s) le c = (
    switched-works n f.env h b p e (left (switched_findings f.env p e) _ c),
    stmt-works n (in_switch f) h b r s
        le (right (switch_findings s) _ (right (switched_findings f.env p e) _ c)),
  )
  stmt-works n f h b r (case p e s) le c = stmt-works n (in_label f) h b r s le
      (right (expr_findings f.env e) _ (right _ _ c))
  stmt-works n f h b r (default p s) le c = stmt-works n (in_label f) h b r s le (right _ _ c)
  stmt-works n f h b r (label p w s) le c = stmt-works n (in_label f) h b r s le c
  stmt-works n f h b r (goto p w q) le c = tt
  stmt-works n f h b r (break p) le c = tt
  stmt-works n f h b r (continue p) le c = tt
  stmt-works n f h b r (return p e) le c = return-works n f h b r p e c

  pub stmts-work : (n : ℕ) (f : Frame) → HasKinds f.env → HasNumbers n f.env → is_some f.result ≡ true
      → (ss : Stmts) → f.next + stmts_locals ss ≤ n → Clean (stmts_findings f ss)
      → AreStmtsSound n (actions (site f) ss)
  stmts-work n f h b r no_stmts le c = tt
  stmts-work n f h b r (stmt_and s ss) le c =
      let one = left (stmt_findings f s) _ c in
      let g = numbers-behind n f h b s (omega (arith, le)) one in
      let P : Site → Type 0 = λ x. AreStmtsSound n (actions x ss) in (
        stmt-works n f h b r s (omega (arith, le)) one,
        subst P (stmt-site f s) (stmts-work n (after_stmt f s) (names-behind f h s one) g.names
            (ap is_some g.result ∙ r) ss (omega (arith, le, g.next)) (right (stmt_findings f s) _ c)),
      )
