use Rattle.std.proofs.Common.{◌≡◌, ◌∙◌, ℤ, ◌*ℤ◌, rules, ap, sym, subst}
use Rattle.std.proofs.lemmas.Int.{to_z-of_z}
use mir.Syntax.{w64, w128}
use mir.Val.{SFits, to_z}
use Rattle.pungi_domain.specs.Ring.{mul_comm}
use Rattle.pungi_affine.specs.Forms.{IsBox}
use Rattle.pungi_affine.proofs.AddLemmas.{factor_within}
use Rattle.pungi_affine.proofs.Next.{not_zero_if}
use Rattle.pungi_affine.proofs.join.factor_to.Goals as goal

pub returns : goal.returns
returns c =
    let f : SFits w64 c.in_ok-factor.factor = search rules in
    let n : c.narrow-entry.result ≡ c.args.entry = rw (to_z-of_z w128 c.args.entry c.ranges.entry) at c.narrow-entry.ensures in
    let g : SFits w64 c.narrow-entry.result = search rules in
    let m = rw (to_z-of_z w64 c.in_ok-factor.factor f, to_z-of_z w64 c.narrow-entry.result g) at c.in_ok-checked_mul.ensures in
    let h : SFits w64 c.in_ok-checked_mul.field-0 = search rules in
    let e : c.in_ok-factor.factor *ℤ c.args.entry ≡ c.args.d = ap (λ z. c.in_ok-factor.factor *ℤ z) (sym n) ∙ sym m.1
    ∙ sym (to_z-of_z w64 c.in_ok-checked_mul.field-0 h) ∙ ap (λ z. to_z w64 z) c.if-branch-d.false
    ∙ to_z-of_z w64 c.args.d c.ranges.d in
    rw (to_z-of_z w64 c.in_ok-factor.factor f) (
      e,
      factor_within 2147483648 c.args.entry c.in_ok-factor.factor (not_zero_if c.args.entry c.requires.entry)
          (subst (λ (z : ℤ). IsBox z) (sym (mul_comm c.args.entry c.in_ok-factor.factor ∙ e)) c.requires.d),
    )
