use Rattle.std.proofs.Common.{◌∙◌, ℤ, pos, ◌*ℤ◌, arith, rules, sym, ap, slice_index_or, subst}
use Rattle.std.proofs.lemmas.Int.{to_z-of_z, quot_is, quot_fits}
use mir.Syntax.{w128}
use mir.Val.{SFits}
use Rattle.pungi_domain.specs.Vectors.{at}
use Rattle.pungi_domain.specs.Spans.{Divides}
use Rattle.pungi_affine.proofs.Exact.{quot_exact, taken_out, with_factor}
use Rattle.pungi_affine.proofs.divisor.take_out.Goals as goal

pub loop-entry-preserved : goal.loop-entry-preserved
loop-entry-preserved c =
    let x : ℤ = at c.loop-entry.entries c.loop-entry.entry-index in
    let f : SFits w128 (slice_index_or c.loop-entry.entries c.loop-entry.entry-index (pos 0)) = search rules in
    let left = c.loop-entry.invariant.left c.loop-entry.entry-index (omega arith) in
    let d : Divides c.args.g x = subst (λ (y : ℤ). Divides c.args.g y) (sym left)
    (c.requires.divides c.loop-entry.entry-index (omega arith)) in
    let q = quot_is w128 x c.args.g f c.ranges.g (quot_fits w128 x c.args.g f c.requires.g) in
    let e = ap (λ y. c.args.g *ℤ y) q ∙ quot_exact c.args.g x c.requires.g d in
    let done = rw (to_z-of_z w128 c.args.g c.ranges.g) at c.loop-entry.invariant.done in
    let r = taken_out c.args.entries.now c.loop-entry.entries c.args.g c.loop-entry.entry-index _ (omega arith) e
    done c.loop-entry.invariant.left in
    record { done = with_factor c.args.g _ _ _ _ (to_z-of_z w128 c.args.g c.ranges.g) r.0; left = r.1 }
