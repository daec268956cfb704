use Rattle.std.proofs.Common.{ℤ, rules}
use Rattle.std.proofs.lemmas.Int.{to_z-of_z}
use mir.Syntax.{w128}
use mir.Val.{SFits}
use Rattle.pungi_affine.specs.Parts.{wide_lines}
use Rattle.pungi_affine.proofs.Quotients.{quotient_least}
use Rattle.pungi_affine.proofs.form.divided_form.Goals as goal

pub returns : goal.returns
returns c =
    let g : ℤ = c.args.g in
    let f : SFits w128 g = search rules in
    let e : SFits w128 c.divided_scale.result = search rules in
    let q = rw (to_z-of_z w128 g f, c.as_slice.ensures.value) at c.in_ok-rows.ensures in
    let s = rw (to_z-of_z w128 g f) at c.divided_scale.ensures in
    rw (to_z-of_z w128 c.divided_scale.result e)
    (quotient_least c.args.width c.args.form.now.scale (wide_lines c.args.form.now.rows.items) c.requires.form g
    c.divided_scale.result c.requires.g s (wide_lines c.in_ok-rows.rows.items) q
    c.requires.shared)
