-- A function in which no rule holds is of the kinds that it needs, and its code is well-formed.
use Rattle.std.proofs.Common.{◌≡◌, ◌∙◌, ℕ, suc, ◌+◌, ◌<◌, arith, true, false, List, [], ◌∷◌, ◌++◌, length, map, Option}
use Rattle.std.proofs.Common.{Some, None}
use Rattle.std.proofs.Common.{refl, sym, ap, subst}
use Rattle.std.specs.Prelude.{◌==◌, is_none, if◌then◌else◌}
use Rattle.std.specs.List.{list_all}
use Rattle.pungi_base.specs.declared.key.Key.{Key}
use Rattle.pungi_base.specs.declared.pos.Pos.{Pos}
use Rattle.pungi_tree.specs.Syntax.{Spec, Params, params, param_decl, ParamDecls, no_params, param_and, ParamDeclr}
use Rattle.pungi_tree.specs.Syntax.{named, bare, unused, Stmt, block, Item}
use Rattle.pungi_api.specs.Rows.{row_in, is_row, are_rows}
use Rattle.pungi_api.specs.declared.param.Param.{Param}
use Rattle.pungi_api.specs.declared.row.Row.{Row}
use Rattle.pungi_types.specs.declared.kind.ValueKind.{ValueKind}
use Rattle.pungi_types.specs.declared.kind.ValueKind.TheVariants as kinds
use Rattle.pungi_types.specs.declared.local.Local.{Local}
use Rattle.pungi_types.specs.Files.{Definition, declr_name}
use Rattle.pungi_types.specs.Names.{Env, local_in, statics_in}
use Rattle.pungi_types.specs.Calls.{param_kind}
use Rattle.pungi_types.specs.Functions.{result_kind, first_frame, after_param, after_params, params_frame}
use Rattle.pungi_types.specs.Functions.{name_findings}
use Rattle.pungi_types.specs.Functions.{param_findings, params_findings, dots_findings, body_findings, result_findings}
use Rattle.pungi_types.specs.Functions.{params_count, body_locals}
use Rattle.pungi_types.specs.Labels.{label_findings, param_count}
use Rattle.pungi_resolve.specs.Functions.{params_kinds, param_kinds, first_site, resolved_in}
use Rattle.pungi_resolve.specs.Stmts.{Site, with_params, params_site, body_action}
use Rattle.pungi_resolved.specs.Actions.{DeclaredLocal}
use Rattle.pungi_types.specs.Stmts.{Frame, spec_pos, has_file_storage, declared_n1, in_block}
use Rattle.pungi_code.specs.WellFormed.{IsWellFormedAmong, has_statics, is_slot_kind}
use Rattle.pungi_resolve.specs.Passed.{IsPassed}
use Rattle.pungi_resolve.proofs.Clean.{Clean, left, right, not_when, or_left, and_true, and_left, and_right}
use Rattle.pungi_resolve.proofs.Known.{one_more, declared-not_void}
use Rattle.pungi_resolve.proofs.SoundStmts.{site, value_kind}
use Rattle.pungi_resolve.proofs.SoundFunctions.{text-clean, result-known, names-passed, params-site}
use Rattle.pungi_layout.specs.code.Levels.{stmt_levels}
use Rattle.pungi_layout.specs.kinds.Typed.{IsHeld, IsStmtTyped}
use Rattle.pungi_layout.specs.kinds.Laws.{known, ReturnsWell}
use Rattle.pungi_layout.specs.code.CallKinds.{held_kind}
use Rattle.pungi_layout.specs.code.FunctionCode.{code_of, callees_of, HasLocals, HasParams}
use Rattle.pungi_layout.specs.code.VarKinds.{kind_held, stmt_declared, temp_kinds, var_kinds}
use Rattle.pungi_layout.proofs.well_formed.FunctionCode.{well-formed}
use Rattle.pungi_lower.specs.TypedLaws.{functions_in}
use Rattle.pungi_lower.proofs.kinds.Parts.{Around, in_file}
use Rattle.pungi_lower.proofs.kinds.Words.{param_kept, IsLocalHeld, HasVars}
use Rattle.pungi_lower.proofs.kinds.Arguments.{is_placed, ArePlaced}
use Rattle.pungi_lower.proofs.kinds.Callable.{all_placed, callees-passed}
use Rattle.pungi_lower.proofs.kinds.Locals.{stmts_count, AreHeld, kind_of_held, Knows, one_more_held}
use Rattle.pungi_lower.proofs.kinds.Stmts.{stmts_kinds}
use Rattle.pungi_lower.proofs.sound.Functions.{within-limits, params-long, nodes-bounded, size-bounded}

-- .. variables in a row
-- from this one on the variables hold these
abbrev Seg : List Param → ℕ → List Param → Type 0
Seg vars n [] = Unit {0}
Seg vars n (k ∷ ks) = IsHeld vars n k × Seg vars (n + 1) ks

seg_behind : (x : Param) (vars : List Param) (n : ℕ) (ks : List Param) → Seg vars n ks → Seg (x ∷ vars) (suc n) ks
seg_behind x vars n [] h = tt
seg_behind x vars n (k ∷ ks) h =
    let e : suc (n + 1) ≡ suc n + 1 = omega arith in
    let lt : suc n < suc (length vars) = omega (arith, h.0.0) in
    ((lt, h.0.1), subst (λ (m : ℕ). Seg (x ∷ vars) m ks) e (seg_behind x vars (n + 1) ks h.1))

seg_front : (ks post : List Param) → Seg (ks ++ post) 0 ks
seg_front [] post = tt
seg_front (k ∷ ks) post = ((omega arith, refl), seg_behind k (ks ++ post) 0 ks (seg_front ks post))

seg_of : (pre ks post : List Param) → Seg (pre ++ (ks ++ post)) (length pre) ks
seg_of [] ks post = seg_front ks post
seg_of (x ∷ pre) ks post = seg_behind x (pre ++ (ks ++ post)) (length pre) ks (seg_of pre ks post)

seg_declared : (vars : List Param) (n : ℕ) (rs : List DeclaredLocal) → Seg vars n (map kind_held rs) → AreHeld vars n rs
seg_declared vars n [] h = tt
seg_declared vars n (r ∷ rs) h = (h.0, seg_declared vars (n + 1) rs h.1)

-- .. parameters
record Behind (around : Around) (vars : List Param) (f g : Frame) (m : ℕ) : Type 0 where
  names : Knows around vars g.env
  file : g.env.file.items ≡ f.env.file.items
  next : g.next ≡ f.next + m
  result : g.result ≡ f.result

param_behind : (around : Around) (vars : List Param) (f : Frame) (qs : List Key) (s : Spec) (d : ParamDeclr)
    → Knows around vars f.env → IsHeld vars f.next (held_kind (param_kind f.env.file.items s d))
    → is_none (param_kind f.env.file.items s d) ≡ false
    → Behind around vars f (after_param f (param_decl qs s d)) 1
param_behind around vars f qs s (named d) h b k =
    let kind = param_kind f.env.file.items s (named d) in
    let l : Local = record { name = declr_name d; number = f.next; kind = kind } in
    record {
      names = record {
        kinds = one_more f.env l (value_kind kind k (declared-not_void f.env.file.items s d)) h.kinds;
        held = one_more_held vars f.env l (kind_of_held vars f.next kind (param_kept f.env.file.items s (named d))
            b) h.held;
        rows = h.rows;
        callees = h.callees;
        result = h.result;
      };
      file = refl;
      next = refl;
      result = refl;
    }
param_behind around vars f qs s (bare stars) h b k = record { names = h; file = refl; next = refl; result = refl }
param_behind around vars f qs s (unused stars n p) h b k = record { names = h; file = refl; next = refl; result = refl }

params_behind : (around : Around) (vars : List Param) (f : Frame) (ds : ParamDecls) → Knows around vars f.env
    → Seg vars f.next (map held_kind (param_kinds f.env.file.items ds)) → Clean (param_findings f ds)
    → Behind around vars f (after_params f ds) (param_count ds)
params_behind around vars f no_params h b c = record { names = h; file = refl; next = omega arith; result = refl }
params_behind around vars f (param_and (param_decl qs s d) ds) h b c =
    let n1 = not_when _ (spec_pos s) 1 (left (declared_n1 qs s (param_kind f.env.file.items s d)) _ c) in
    let k = or_left (is_none (param_kind f.env.file.items s d)) (has_file_storage qs) n1 in
    let g = after_param f (param_decl qs s d) in
    let one = param_behind around vars f qs s d h b.0 k in
    let more : Seg vars g.next (map held_kind (param_kinds g.env.file.items ds)) =
    subst (λ (m : ℕ). Seg vars m (map held_kind (param_kinds g.env.file.items ds))) (sym one.next)
    (subst (λ (fl : List Item). Seg vars (f.next + 1) (map held_kind (param_kinds fl ds))) (sym one.file) b.1) in
    let rest = params_behind around vars g ds one.names more (right (name_findings f d) _
    (right (declared_n1 qs s (param_kind f.env.file.items s d)) _ c)) in
    record {
      names = rest.names;
      file = rest.file ∙ one.file;
      next = omega (arith, rest.next, one.next);
      result
          = rest.result ∙ one.result;
    }

-- .. the body
body_kinds : (around : Around) (vars : List Param) (p : Pos) (f : Frame) (s : Stmt)
    → Knows around vars f.env → f.result ≡ around.result
    → AreHeld vars f.next (stmt_declared (body_action p (site f) s)) → Clean (body_findings f s)
    → IsStmtTyped (in_file around f.env.file.items) vars (body_action p (site f) s)
body_kinds around vars p f (block q ss t) h r b c =
    stmts_kinds around vars (record (in_block f ss) { block = f.block }) ss h r b c
body_kinds around vars p f _ h r b c = tt

of_params : (around : Around) (vars : List Param) (f : Frame) (p : Pos) (s : Stmt) (ps : Params)
    → Knows around vars f.env → f.result ≡ around.result
    → Seg vars f.next (map held_kind (params_kinds f.env.file.items ps))
    → AreHeld vars (f.next + params_count ps) (stmt_declared (body_action p (params_site (site f) ps) s))
    → Clean (params_findings f ps) → Clean (body_findings (params_frame f ps) s)
    → IsStmtTyped (in_file around f.env.file.items) vars (body_action p (params_site (site f) ps) s)
of_params around vars f p s (params ds v dots) h r b held c d =
    let g = after_params f ds in
    let k = params_behind around vars f ds h b (right (dots_findings dots) _ c) in
    let e = params-site f ds in
    let Held : Site → Type 0 = λ x. AreHeld vars g.next (stmt_declared (body_action p x s)) in
    let there : Held (site g) = subst Held (sym e) (subst (λ (m : ℕ). AreHeld vars m
    (stmt_declared (body_action p (with_params (site f) ds) s))) (sym k.next) held) in
    let typed = body_kinds around vars p g s k.names (k.result ∙ r) there d in
    subst (λ (fl : List Item). IsStmtTyped (in_file around fl) vars (body_action p (with_params (site f) ds) s)) k.file
    (subst (λ (x : Site). IsStmtTyped (in_file around g.env.file.items) vars (body_action p x s)) e typed)

-- .. the whole
rows-are : (table : List (ℕ × Row)) (w : ℕ) (r : Row) → are_rows table ≡ true → row_in table w ≡ Some r
    → is_row r ≡ true
rows-are [] w r h e = absurd (cc)
rows-are (x ∷ table) w r h e =
    elim (w == x.0) as (λ b. ((w == x.0) ≡ b) → (if b then Some x.1 else row_in table w) ≡ Some r → is_row r ≡ true) [
      | true ↦ λ t k. let same : x.1 ≡ r = cc in subst (λ (y : Row). is_row y ≡ true) same
          (and_left (is_row x.1) (are_rows table) h)
      | false ↦ λ t k. rows-are table w r (and_right (is_row x.1) (are_rows table) h) k
    ] refl e

none_held : (vars : List Param) (env : Env) → env.locals ≡ [] → HasVars vars env
none_held vars env e = record { locals = λ w. subst (λ (ls : List Local). IsLocalHeld vars (local_in ls w)) (sym e) tt }

map_long : {A B : Type 0} (g : A → B) (xs : List A) → length (map g xs) ≡ length xs
map_long g [] = refl
map_long g (x ∷ xs) = ap suc (map_long g xs)

body_count : (p : Pos) (f : Site) (s : Stmt) → length (stmt_declared (body_action p f s)) ≡ body_locals s
body_count p f (block q ss r) = stmts_count f ss
body_count p f _ = refl

-- the locals of a function are its parameters and what it declares
pub function-locals : (env : Env) (d : Definition) → HasLocals (resolved_in env d)
function-locals env d =
    let a = params-long env d in
    let b = body_count d.pos (params_site (first_site env d) d.params) d.body in
    omega (arith, a, b)

-- each parameter has a variable of a slot's kind
placed_slot : (k : Option ValueKind) → is_placed k ≡ true → is_slot_kind (held_kind k) ≡ true
placed_slot None h = absurd (cc)
placed_slot (Some kinds.Int) h = refl
placed_slot (Some kinds.Long) h = refl
placed_slot (Some kinds.Size) h = refl
placed_slot (Some kinds.Text) h = refl
placed_slot (Some (kinds.Object s)) h = refl
placed_slot (Some _) h = absurd (cc)

placed_slots : (ks : List (Option ValueKind)) → ArePlaced ks → list_all is_slot_kind (map held_kind ks) ≡ true
placed_slots [] h = refl
placed_slots (k ∷ ks) h =
    and_true (is_slot_kind (held_kind k)) (list_all is_slot_kind (map held_kind ks)) (placed_slot k h.0)
    (placed_slots ks h.1)

function-params : (env : Env) (d : Definition) → IsPassed env d → HasParams (resolved_in env d)
function-params env d h =
    let c = right (result_findings env d) _ (text-clean env d h.passed) in
    placed_slots (params_kinds env.file.items d.params) (all_placed (first_frame env d) d.params
    (left (params_findings (first_frame env d) d.params) _ c))

-- what is known around the statements of a function in which no rule holds
abbrev around_function : Env → Definition → Around
around_function env d = record { callees = callees_of (functions_in env); result = result_kind env d }

-- a function in which no rule holds
pub function-kinds : (env : Env) (d : Definition) → IsPassed env d → are_rows env.file.rows ≡ true
    → IsStmtTyped (known env.file.items (statics_in env.file.items) (callees_of (functions_in env))
    (resolved_in env d)) (var_kinds (resolved_in env d)) (resolved_in env d).body
function-kinds env d h rows =
    let f = resolved_in env d in
    let frame = first_frame env d in
    let c = right (result_findings env d) _ (text-clean env d h.passed) in
    let pre = map held_kind f.params in
    let own = map kind_held (stmt_declared f.body) in
    let temps = temp_kinds (stmt_levels f.body) in
    let e : length pre ≡ 0 + params_count d.params = let l = map_long held_kind f.params in let k = params-long env
    d in omega (arith, l, k) in
    let held = seg_declared (var_kinds f) (length pre) (stmt_declared f.body) (seg_of pre own temps) in
    of_params (around_function env d) (var_kinds f) frame d.pos d.body d.params (record {
      kinds = names-passed env d h;
      held = none_held (var_kinds f) env h.outside;
      rows = λ w r k. rows-are env.file.rows w r rows k;
      callees = callees-passed env d (result_kind env d) h;
      result = result-known env d h.passed;
    })
    refl (seg_front pre (own ++ temps)) (subst (λ (m : ℕ). AreHeld (var_kinds f) m (stmt_declared f.body)) e held)
    (left (params_findings frame d.params) _ c) (right (label_findings [] d.body) _
    (right (params_findings frame d.params) _ c))

-- its code is well-formed among those of its file, returns what its result is, and names only static objects that are
-- there
pub function-well-formed : (env : Env) (d : Definition) → IsPassed env d → are_rows env.file.rows ≡ true
    → IsWellFormedAmong (callees_of (functions_in env)) (code_of (resolved_in env d))
    × (ReturnsWell (code_of (resolved_in env d))
    × (has_statics (statics_in env.file.items) (code_of (resolved_in env d)) ≡ true))
function-well-formed env d h rows =
    let l = within-limits env d h.passed in
    well-formed (resolved_in env d) env.file.items (statics_in env.file.items) (callees_of (functions_in env))
    (function-locals env d) (function-params env d h) (function-kinds env d h rows) l.locals (nodes-bounded env d h)
    (size-bounded env d h)
