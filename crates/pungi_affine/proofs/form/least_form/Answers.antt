use Rattle.std.proofs.Common.{◌≡◌, ◌∙◌, ℤ, pos, refl, subst, sym, ap, rules, arith}
use Rattle.std.proofs.lemmas.Int.{ints, to_z-of_z}
use mir.Syntax.{w128}
use mir.Val.{SFits, to_z}
use Rattle.pungi_affine.specs.Divisors.{IsShared}
use Rattle.pungi_affine.specs.Parts.{wide_lines}
use Rattle.pungi_affine.proofs.Quotients.{quotient_least}
use Rattle.pungi_affine.proofs.form.least_form.Goals as goal

pub returns-then-g-eq1 : goal.returns-then-g-eq1
returns-then-g-eq1 c =
    let g : ℤ = c.common_divisor-g.result in
    let f : SFits w128 g = search rules in
    let one : g ≡ pos 1 = sym (to_z-of_z w128 g f) ∙ ap (to_z w128) c.if-g-eq1.true in
    quotient_least c.args.width c.args.form.scale (wide_lines c.args.form.rows.items) c.requires (pos 1)
    c.args.form.scale (omega (arith, ints)) (omega (arith, ints)) (wide_lines c.args.form.rows.items) (record {
      count = refl;
      each = λ k lt. record { pivot = refl; lengths = refl; exact = λ i i_lt. omega (arith, ints) };
    })
    (subst (λ (z : ℤ). IsShared c.args.form.scale (wide_lines c.args.form.rows.items) z) one
    c.common_divisor-g.ensures.shared)
