use Rattle.std.proofs.Common.{◌≡◌, ◌<◌, ℕ, ℤ, pos, neg_ℤ, ◌<ℤ◌, List, length, arith, rules, subst, ◌∙◌, ap}
use Rattle.std.proofs.lemmas.Int.{ints, to_z-of_z}
use mir.Syntax.{w128}
use mir.Val.{SFits}
use Rattle.pungi_domain.specs.Vectors.{at}
use Rattle.pungi_affine.specs.Divisors.{IsDivisor}
use Rattle.pungi_affine.proofs.PartLemmas.{quotients_part, negated_part}
use Rattle.pungi_affine.proofs.part.reduce.Goals as goal
use Rattle.pungi_affine.proofs.part.reduce.Goals.{then-entries-q-lt0, else-entries-q-lt0}

pub returns : goal.returns
returns c =
    let f : SFits w128 c.divisor-g.result = search rules in
    let taken = rw (to_z-of_z w128 c.divisor-g.result f) at c.take_out.ensures in
    let len : length c.take_out.new.entries ≡ length c.if-entries-q-lt0.entries = search rules in
    let l = c.requires.long c.args.q c.requires.within in
    let n = c.requires.entry in
    elim c.if-entries-q-lt0.branch [
      | then-entries-q-lt0 w ↦ (
          let ys : List ℤ = c.if-entries-q-lt0.entries in
          let e = w.entries-is in
          let neg : (i : ℕ) → i < length ys → at ys i ≡ neg_ℤ (at c.args.entries.now i) = rw (← e) at
          w.negate.ensures in
          let len2 : length ys ≡ length c.args.entries.now = search rules in
          let q_lt : c.args.q < length ys = omega (arith, len2) in
          let m = neg c.args.q q_lt in
          let t = w.if-entries-q-lt0.true in
          let entry : pos 0 <ℤ at ys c.args.q = grind (arith, ints, t, m, l) in
          negated_part c.args.entries.now ys c.take_out.new.entries c.args.q len2 neg
          (quotients_part ys c.take_out.new.entries c.divisor-g.result c.args.q c.divisor-g.ensures.positive
          c.divisor-g.ensures.divisor len q_lt entry taken))
      | else-entries-q-lt0 w ↦ (
          let e = w.entries-is in
          let t = w.if-entries-q-lt0.false in
          let entry : pos 0 <ℤ at c.args.entries.now c.args.q = grind (arith, ints, t, n, l) in
          quotients_part c.args.entries.now c.take_out.new.entries c.divisor-g.result c.args.q
          c.divisor-g.ensures.positive (subst (λ (ys : List ℤ). IsDivisor ys c.divisor-g.result) e
          c.divisor-g.ensures.divisor) (len ∙ ap length e) c.requires.within entry
          (λ i lt. taken i lt ∙ ap (λ ys. at ys i) e))
    ]
