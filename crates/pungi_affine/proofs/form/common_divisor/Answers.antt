use Rattle.std.proofs.Common.{◌∙◌, ℕ, ℤ, pos, List, arith, ap, subst, sym, ◌≡◌, take}
use Rattle.std.proofs.lemmas.Int.{ints, to_z-of_z, to_z_pos}
use Rattle.std.proofs.lemmas.List.{take_all}
use Rattle.std.specs.Int.RustNames.{unsigned_abs}
use mir.Syntax.{w128}
use Rattle.pungi_affine.specs.Divisors.{IsShared, IsContent}
use Rattle.pungi_affine.specs.Parts.{wide_lines}
use Rattle.pungi_affine.specs.declared.part.WideRow.{WideRow}
use Rattle.pungi_affine.proofs.Products.{long_fits}
use Rattle.pungi_affine.proofs.Shared.{shared_none, shared_one, shared_rows, shared_bounds}
use Rattle.pungi_affine.proofs.form.common_divisor.Goals as goal

pub loop-row-init : goal.loop-row-init
loop-row-init c =
    shared_none c.args.form.now.scale c.unsigned_abs-common.result (c.unsigned_abs-common.ensures.value
    ∙ ap unsigned_abs (to_z-of_z w128 c.args.form.now.scale (long_fits c.args.form.now.scale c.requires.long)))

pub loop-row-preserved : goal.loop-row-preserved
loop-row-preserved c =
    shared_rows c.args.form.now.scale c.as_slice-rows.result.now c.loop-row.row-index c.row-item.result
    c.loop-row.common c.content.result c.gcd-common.result c.loop-row-test.true c.row-item.is c.loop-row.invariant
    (subst (λ (xs : List ℤ). IsContent xs c.content.result) c.as_slice.ensures.value c.content.ensures)
    c.gcd-common.ensures

pub overflow_cast-result : goal.overflow_cast-result
overflow_cast-result c =
    let h = shared_bounds c.args.form.now.scale _ c.loop-row.common c.requires.scale c.loop-row.invariant in
    let f = c.requires.long in
    grind (arith, ints, h, f)

pub returns-clause-positive : goal.returns-clause-positive
returns-clause-positive c =
    let h = shared_bounds c.args.form.now.scale _ c.loop-row.common c.requires.scale c.loop-row.invariant in
    let f = c.requires.long in
    omega (arith, ints, h, f)

pub returns-clause-shared : goal.returns-clause-shared
returns-clause-shared c =
    let h = shared_bounds c.args.form.now.scale _ c.loop-row.common c.requires.scale c.loop-row.invariant in
    let f = c.requires.long in
    let e = to_z_pos w128 c.loop-row.common (omega (arith, ints, h, f)) in
    let all : take c.loop-row.row-index c.as_slice-rows.result.now
    ≡ c.args.form.now.rows.items = take_all c.loop-row.row-index c.as_slice-rows.result.now (omega arith)
    ∙ c.as_slice-rows.ensures.value in
    subst (λ (z : ℤ). IsShared c.args.form.now.scale (wide_lines c.args.form.now.rows.items) z) (sym e)
    (subst (λ (rs : List WideRow). IsShared c.args.form.now.scale (wide_lines rs) (pos c.loop-row.common)) all
    c.loop-row.invariant)

pub returns-then-common-eq1-clause-shared : goal.returns-then-common-eq1-clause-shared
returns-then-common-eq1-clause-shared c =
    let one : IsShared c.args.form.now.scale (wide_lines (take c.loop-row.row-index c.as_slice-rows.result.now)) (pos 1)
    = subst (λ (n : ℕ). IsShared c.args.form.now.scale (wide_lines
    (take c.loop-row.row-index c.as_slice-rows.result.now)) (pos n)) c.if-common-eq1.true c.loop-row.invariant in
    subst (λ (rs : List WideRow). IsShared c.args.form.now.scale (wide_lines rs) (pos 1)) c.as_slice-rows.ensures.value
    (shared_one c.args.form.now.scale c.as_slice-rows.result.now c.loop-row.row-index one)
