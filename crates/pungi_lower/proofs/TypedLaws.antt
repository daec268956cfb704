-- What the layout makes of the functions of a file in which no rule holds.
use Rattle.std.proofs.Common.{◌≡◌, ℕ, ◌*◌, ◌≤◌, arith, true, List, length, sym, ap, subst}
use Rattle.std.specs.Prelude.{◌^◌}
use Rattle.pungi_tree.specs.Syntax.{Item}
use Rattle.pungi_types.specs.Files.{SourceFile}
use Rattle.pungi_types.specs.Names.{statics_in}
use Rattle.pungi_types.specs.Nodes.{function_nodes}
use Rattle.pungi_resolve.specs.Functions.{resolved_in}
use Rattle.pungi_resolved.specs.Functions.{ResolvedFunction}
use Rattle.pungi_code.specs.WellFormed.{CallKinds, IsWellFormedAmong, AgreeOnKinds, has_statics, place_of}
use Rattle.pungi_layout.specs.code.Sound.{IsStmtSound, stmt_nodes}
use Rattle.pungi_layout.specs.code.StmtCode.{body_code}
use Rattle.pungi_layout.specs.kinds.Typed.{IsStmtTyped}
use Rattle.pungi_layout.specs.kinds.Laws.{known, ReturnsWell}
use Rattle.pungi_layout.specs.code.FunctionCode.{code_of, callees_of}
use Rattle.pungi_lower.specs.TypedLaws.{functions_in, IsSoundIfPassed, IsSmallIfPassed, IsWellFormedIfPassed}
use Rattle.pungi_lower.specs.TypedLaws.{AgreeIfPassed}
use Rattle.pungi_layout.specs.code.VarKinds.{var_kinds}
use Rattle.pungi_lower.proofs.sound.Functions.{function-works, params-among, nodes-bounded}
use Rattle.pungi_lower.proofs.sound.Sizes.{code-few, code-bounded}
use Rattle.pungi_lower.proofs.kinds.Functions.{function-kinds, function-well-formed}
use Rattle.pungi_layout.proofs.well_formed.Slots.{agree, body_slots, at_slot}

pub sound_if_passed : (f : ResolvedFunction) → IsSoundIfPassed f
sound_if_passed f =
    λ env d h e. subst (λ (r : ResolvedFunction). IsStmtSound r.locals r.body) (sym e) (function-works env d h)

pub small_if_passed : (f : ResolvedFunction) → IsSmallIfPassed f
small_if_passed f = λ env d h e.
    let n = nodes-bounded env d h in
    let P : ResolvedFunction → Type 0 = λ r. (length r.params ≤ r.locals) × (5 * stmt_nodes r.body ≤ 2 ^ 16)
    × (length (body_code r) ≤ 4 * function_nodes d) × (length (body_code r) ≤ 2 ^ 14) in
    subst P (sym e) (params-among env d, omega (arith, n), code-few env d, code-bounded env d h)

pub well_formed_if_passed : (f : ResolvedFunction) → IsWellFormedIfPassed f
well_formed_if_passed f = λ env d h rows e.
    subst (λ (r : ResolvedFunction). IsWellFormedAmong (callees_of (functions_in env)) (code_of r)
    × (ReturnsWell (code_of r) × (has_statics (statics_in env.file.items) (code_of r) ≡ true))) (sym e)
    (function-well-formed env d h rows)

-- the instructions of two functions of a file
slots-agree : (items other : List Item) (callees others : ℕ → CallKinds) (f g : ResolvedFunction) → items ≡ other
    → IsStmtTyped (known items (statics_in items) callees f) (var_kinds f) f.body
    → IsStmtTyped (known other (statics_in other) others g) (var_kinds g) g.body
    → AgreeOnKinds (code_of f) (code_of g)
slots-agree items other callees others f g e h k i j l m x y =
    let one = known items (statics_in items) callees f in
    let two = known items (statics_in items) others g in
    let typed : IsStmtTyped two (var_kinds g) g.body = subst (λ (fl : List Item). IsStmtTyped
    (known fl (statics_in fl) others g) (var_kinds g) g.body) (sym e) k in
    agree items (place_of l.instr) (place_of m.instr) (at_slot one (var_kinds f) f.locals (body_code f)
    (body_slots one (var_kinds f) f h) i l x) (at_slot two (var_kinds g) g.locals (body_code g)
    (body_slots two (var_kinds g) g typed) j m y)

pub agree_if_passed : (f g : ResolvedFunction) → AgreeIfPassed f g
agree_if_passed f g = λ env other d e same h k rows more x y.
    let c = slots-agree env.file.items other.file.items (callees_of (functions_in env))
    (callees_of (functions_in other)) (resolved_in env d) (resolved_in other e)
    (ap (λ (file : SourceFile). file.items) same) (function-kinds env d h rows) (function-kinds other e k more) in
    subst (λ (r : ResolvedFunction). AgreeOnKinds (code_of r) (code_of g)) (sym x)
    (subst (λ (r : ResolvedFunction). AgreeOnKinds (code_of (resolved_in env d)) (code_of r)) (sym y) c)
