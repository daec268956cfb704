use Rattle.std.proofs.Common.{◌∙◌, rules, refl, pos, ap, subst, ℕ, slice_index_or, take}
use Rattle.std.proofs.lemmas.Int.{to_z-of_z}
use Rattle.std.specs.Int.RustNames.{unsigned_abs}
use mir.Syntax.{w128}
use mir.Val.{SFits}
use Rattle.pungi_affine.proofs.Euclid.{content_more, content_one}
use Rattle.pungi_affine.specs.Divisors.{IsCommon, IsContent}
use Rattle.pungi_affine.proofs.divisor.content.Goals as goal

pub loop-entry-preserved : goal.loop-entry-preserved
loop-entry-preserved c =
    let f : SFits w128 (slice_index_or c.args.entries.now c.loop-entry.entry-index (pos 0)) = search rules in
    content_more c.args.entries.now c.loop-entry.entry-index c.loop-entry.common c.gcd-common.result _
    c.loop-entry-test.true refl c.loop-entry.invariant
    (subst (λ (n : ℕ). IsCommon c.loop-entry.common n c.gcd-common.result)
    (c.unsigned_abs.ensures.value ∙ ap unsigned_abs (to_z-of_z w128 _ f)) c.gcd-common.ensures)

pub returns-then-common-eq1 : goal.returns-then-common-eq1
returns-then-common-eq1 c = content_one c.args.entries.now c.loop-entry.entry-index
    (subst (λ (n : ℕ). IsContent (take c.loop-entry.entry-index c.args.entries.now) n) c.if-common-eq1.true
    c.loop-entry.invariant)
