-- The locals that a statement declares, in order, and their variables.
use Rattle.std.proofs.Common.{◌≡◌, ◌∙◌, ℕ, suc, ◌+◌, arith, true, false, List, [], ◌∷◌, ◌++◌, length, length-append}
use Rattle.std.proofs.Common.{Option, Some, None, refl, ap, subst}
use Rattle.std.specs.Prelude.{◌==◌, is_some, if◌then◌else◌}
use Rattle.pungi_base.specs.declared.key.Key.{Key}
use Rattle.pungi_tree.specs.Syntax.{Spec, Declr, Init, value, table, VarDecl, var_decl, decl, ForStart, start_decl}
use Rattle.pungi_tree.specs.Syntax.{start_expr, Stmt, block, declare, do_expr, if_only, if_else, while, do_while, for}
use Rattle.pungi_tree.specs.Syntax.{switch, case, default, label, goto, break, continue, return, Stmts, no_stmts}
use Rattle.pungi_tree.specs.Syntax.{stmt_and}
use Rattle.pungi_api.specs.declared.param.Param.{Param}
use Rattle.pungi_types.specs.declared.kind.ValueKind.{ValueKind}
use Rattle.pungi_types.specs.declared.kind.ValueKind.TheVariants as kinds
use Rattle.pungi_types.specs.declared.local.Local.{Local}
use Rattle.pungi_types.specs.Files.{declr_name, declr_pos}
use Rattle.pungi_types.specs.Kinds.{declared_kind}
use Rattle.pungi_types.specs.Names.{Env, local_in}
use Rattle.pungi_types.specs.Operators.{is_void, fits}
use Rattle.pungi_types.specs.Exprs.{kind_of, expr_findings}
use Rattle.pungi_types.specs.Labels.{stmt_locals, stmts_locals, start_locals}
use Rattle.pungi_resolve.specs.Exprs.{resolve, convert}
use Rattle.pungi_resolved.specs.Values.{Value}
use Rattle.pungi_resolve.specs.Stmts.{Site, with_var, with_start, site_past, site_after, initial_value, declared_locals}
use Rattle.pungi_resolve.specs.Stmts.{start_declared, action, actions}
use Rattle.pungi_resolved.specs.Actions.{DeclaredLocal}
use Rattle.pungi_types.specs.Stmts.{Frame, with_local, spec_pos, has_file_storage, declared_n1, declared_n8}
use Rattle.pungi_types.specs.Stmts.{is_wrong_initial, first_value_findings, after_var, after_vars, var_findings}
use Rattle.pungi_types.specs.Stmts.{vars_findings}
use Rattle.pungi_meaning.specs.Values.{slot_kind}
use Rattle.pungi_resolve.proofs.Clean.{Clean, left, right, not_when, is_there, or_left}
use Rattle.pungi_resolve.proofs.Known.{HasKinds, one_more, declared-not_void}
use Rattle.pungi_resolve.proofs.UsedValues.{one-asked}
use Rattle.pungi_resolve.proofs.SoundExprs.{expr-good}
use Rattle.pungi_resolve.proofs.SoundStmts.{site, value_kind}
use Rattle.pungi_layout.specs.kinds.Typed.{Known, is_kept, IsHeld, IsInitial, IsDeclaredTyped}
use Rattle.pungi_layout.specs.kinds.Typed.{AreDeclaredTyped}
use Rattle.pungi_layout.specs.code.CallKinds.{held_kind}
use Rattle.pungi_layout.specs.code.VarKinds.{kind_held, stmt_declared, stmts_declared}
use Rattle.pungi_lower.proofs.kinds.Parts.{Around, in_file, Going, convert_going}
use Rattle.pungi_lower.proofs.kinds.Words.{may_be_kept, declared_kept, IsKindHeld, IsLocalHeld, HasVars}
use Rattle.pungi_lower.proofs.kinds.Calls.{HasRows}
use Rattle.pungi_lower.proofs.kinds.Callees.{HasCallees}
use Rattle.pungi_lower.proofs.kinds.Exprs.{expr_kinds}
use Rattle.pungi_lower.proofs.sound.Stmts.{known-fit}

-- .. how many there are
declared_count : (f : Site) (s : Spec) (vs : List VarDecl) → length (declared_locals f s vs) ≡ length vs
declared_count f s [] = refl
declared_count f s (var_decl d i ∷ vs) = ap suc (declared_count (with_var f s (var_decl d i)) s vs)

pub start_count : (f : Site) (a : ForStart) → length (start_declared f a) ≡ start_locals a
start_count f (start_decl (decl qs s vs)) = declared_count f s vs
start_count f (start_expr e) = refl

mutual
  pub stmt_count : (f : Site) (s : Stmt) → length (stmt_declared (action f s)) ≡ stmt_locals s
  stmt_count f (block p ss q) = stmts_count f ss
  stmt_count f (declare p (decl qs s vs)) = declared_count f s vs
  stmt_count f (do_expr p e) = refl
  stmt_count f (if_only p e s) = stmt_count f s
  stmt_count f (if_else p e s t) =
      let a = length-append (stmt_declared (action f s)) (stmt_declared (action (site_past f s) t)) in
      let b = stmt_count f s in
      let c = stmt_count (site_past f s) t in
      omega (arith, a, b, c)
  stmt_count f (while p e s) = stmt_count f s
  stmt_count f (do_while p s e) = stmt_count f s
  stmt_count f (for p a b c s) =
      let d = length-append (start_declared f a) (stmt_declared (action (with_start f a) s)) in
      let e = start_count f a in
      let g = stmt_count (with_start f a) s in
      omega (arith, d, e, g)
  stmt_count f (switch p e s) = stmt_count f s
  stmt_count f (case p e s) = stmt_count f s
  stmt_count f (default p s) = stmt_count f s
  stmt_count f (label p n s) = stmt_count f s
  stmt_count f (goto p n q) = refl
  stmt_count f (break p) = refl
  stmt_count f (continue p) = refl
  stmt_count f (return p e) = refl

  pub stmts_count : (f : Site) (ss : Stmts) → length (stmts_declared (actions f ss)) ≡ stmts_locals ss
  stmts_count f no_stmts = refl
  stmts_count f (stmt_and s ss) =
      let a = length-append (stmt_declared (action f s)) (stmts_declared (actions (site_after f s) ss)) in
      let b = stmt_count f s in
      let c = stmts_count (site_after f s) ss in
      omega (arith, a, b, c)

-- .. their variables
-- from this one on the variables hold what these locals hold
abbrev pub AreHeld : List Param → ℕ → List DeclaredLocal → Type 0
AreHeld vars n [] = Unit {0}
AreHeld vars n (r ∷ rs) = IsHeld vars n (kind_held r) × AreHeld vars (n + 1) rs

pub held_front : (vars : List Param) (n : ℕ) (rs qs : List DeclaredLocal) → AreHeld vars n (rs ++ qs)
    → AreHeld vars n rs
held_front vars n [] qs h = tt
held_front vars n (r ∷ rs) qs h = (h.0, held_front vars (n + 1) rs qs h.1)

pub held_behind : (vars : List Param) (n m : ℕ) (rs qs : List DeclaredLocal) → AreHeld vars n (rs ++ qs)
    → n + length rs ≡ m → AreHeld vars m qs
held_behind vars n m [] qs h e = let k : n ≡ m = omega (arith, e) in subst (λ (x : ℕ). AreHeld vars x qs) k h
held_behind vars n m (r ∷ rs) qs h e = held_behind vars (n + 1) m rs qs h.1 (omega (arith, e))

kept_slot : (k : ValueKind) → is_kept k ≡ true → held_kind (Some k) ≡ slot_kind k
kept_slot kinds.Int h = refl
kept_slot kinds.Long h = refl
kept_slot kinds.Size h = refl
kept_slot kinds.Text h = refl
kept_slot (kinds.Object s) h = refl
kept_slot _ h = absurd (cc)

pub kind_of_held : (vars : List Param) (x : ℕ) (k : Option ValueKind) → may_be_kept k ≡ true
    → IsHeld vars x (held_kind k) → IsKindHeld vars x k
kind_of_held vars x None m h = tt
kind_of_held vars x (Some k) m h = (m, (h.0, h.1 ∙ kept_slot k m))

-- what is known of the names in force, and of the result
pub record Knows (around : Around) (vars : List Param) (env : Env) : Type 0 where
  pub kinds : HasKinds env
  pub held : HasVars vars env
  pub rows : HasRows env
  pub callees : HasCallees around env
  pub result : is_some around.result ≡ true

pub one_more_held : (vars : List Param) (env : Env) (l : Local) → IsKindHeld vars l.number l.kind → HasVars vars env
    → HasVars vars (with_local env l)
one_more_held vars env l k h = record {
  locals = λ w. elim (l.name.0 == w) as (λ b. IsLocalHeld vars (if b then Some l else local_in env.locals w))
      [ true ↦ k | false ↦ h.locals w ];
}

-- .. a first value
initial_for : (file : Known) (vars : List Param) (k : ValueKind) (v : Value) → Going file vars (Some k) v
    → IsInitial file vars k (Some v)
initial_for file vars k v g = (g.goes.1, g.typed)

-- of a local whose kind is known
abbrev IsFirst : Known → List Param → Option ValueKind → Option Value → Type 0
IsFirst file vars None v = Unit {0}
IsFirst file vars (Some k) v = IsInitial file vars k v

first_going : (file : Known) (vars : List Param) (k : Option ValueKind) (v : Value) → Going file vars k v
    → IsFirst file vars k (Some v)
first_going file vars None v g = tt
first_going file vars (Some k) v g = initial_for file vars k v g

first_none : (file : Known) (vars : List Param) (k : Option ValueKind) → IsFirst file vars k None
first_none file vars None = tt
first_none file vars (Some k) = tt

initial_typed : (around : Around) (vars : List Param) (f : Frame) (s : Spec) (d : Declr) (i : Option Init)
    → Knows around vars (after_var f s (var_decl d i)).env → is_some (declared_kind f.env.file.items s d) ≡ true
    → Clean (first_value_findings (after_var f s (var_decl d i)).env (declared_kind f.env.file.items s d)
    (declr_pos d) i)
    → IsFirst (in_file around f.env.file.items) vars (declared_kind f.env.file.items s d) (initial_value (site f) s
    (var_decl d i))
initial_typed around vars f s d None h t c =
    first_none (in_file around f.env.file.items) vars (declared_kind f.env.file.items s d)
initial_typed around vars f s d (Some (table ts)) h t c =
    first_none (in_file around f.env.file.items) vars (declared_kind f.env.file.items s d)
initial_typed around vars f s d (Some (value e)) h t c =
    let env = (after_var f s (var_decl d None)).env in
    let k = declared_kind f.env.file.items s d in
    let one = left (expr_findings env e) _ c in
    let x = expr_kinds around vars env h.kinds h.held h.rows h.callees e one in
    let ten = one-asked env (is_wrong_initial k) (declr_pos d) e (right (expr_findings env e) _ c) in
    let fit = known-fit (is_some k) (is_some (kind_of env e)) (is_void (kind_of env e)) (fits k (kind_of env e))
    true t (expr-good env h.kinds e one).known ten in
    let g = convert_going (in_file around f.env.file.items) vars (declr_pos d) k (kind_of env e) (resolve env e) fit
    x.value in
    first_going (in_file around f.env.file.items) vars k (convert (declr_pos d) k (kind_of env e) (resolve env e)) g

declared_typed : (file : Known) (vars : List Param) (x : ℕ) (k : Option ValueKind) (v : Option Value)
    → is_some k ≡ true → IsKindHeld vars x k → IsFirst file vars k v → IsDeclaredTyped file vars x k v
declared_typed file vars x None v s h i = absurd (cc)
declared_typed file vars x (Some k) v s h i = (h.0, h.1, i)

-- .. declarations
-- variables, and the names after them
pub record Declared (around : Around) (vars : List Param) (f : Frame) (s : Spec) (vs : List VarDecl) : Type 0 where
  pub names : Knows around vars (after_vars f s vs).env
  pub file : (after_vars f s vs).env.file.items ≡ f.env.file.items
  pub next : (after_vars f s vs).next ≡ f.next + length vs
  pub result : (after_vars f s vs).result ≡ f.result
  pub typed : AreDeclaredTyped (in_file around f.env.file.items) vars (declared_locals (site f) s vs)

pub vars_kinds : (around : Around) (vars : List Param) (f : Frame) (qs : List Key) (s : Spec) (vs : List VarDecl)
    → Knows around vars f.env → AreHeld vars f.next (declared_locals (site f) s vs)
    → Clean (vars_findings f qs s vs) → Declared around vars f s vs
vars_kinds around vars f qs s [] h b c =
    record { names = h; file = refl; next = omega arith; result = refl; typed = tt }
vars_kinds around vars f qs s (var_decl d i ∷ vs) h b c =
    let k = declared_kind f.env.file.items s d in
    let one = left (var_findings f qs s (var_decl d i)) _ c in
    let n1 = or_left _ (has_file_storage qs) (not_when _ (spec_pos s) 1 (left (declared_n1 qs s k) _ one)) in
    let held = kind_of_held vars f.next k (declared_kept f.env.file.items s d) b.0 in
    let l : Local = record { name = declr_name d; number = f.next; kind = k } in
    let g : Knows around vars (after_var f s (var_decl d i)).env = record {
      kinds = one_more f.env l (value_kind k n1 (declared-not_void f.env.file.items s d)) h.kinds;
      held = one_more_held vars f.env l held h.held;
      rows = h.rows;
      callees = h.callees;
      result = h.result;
    } in
    let rest = vars_kinds around vars (after_var f s (var_decl d i)) qs s vs g b.1
    (right (var_findings f qs s (var_decl d i)) _ c) in
    let two = right (declared_n8 f.env f.block (declr_name d) (declr_pos d)) _ (right (declared_n1 qs s k) _ one) in
    record {
      names = rest.names;
      file = rest.file;
      next = omega (arith, rest.next);
      result = rest.result;
      typed = (
        declared_typed (in_file around f.env.file.items) vars f.next k (initial_value (site f) s (var_decl d i))
            (is_there k n1) held (initial_typed around vars f s d i g (is_there k n1) two),
        rest.typed,
      );
    }
