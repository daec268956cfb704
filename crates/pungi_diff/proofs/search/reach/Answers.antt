use Rattle.std.proofs.Common.{arith, inl, inr, pos, ◌≤ℤ◌, ◌<ℤ◌}
use Rattle.std.proofs.lemmas.Int.{ints}
use Rattle.pungi_diff.specs.Constraint.{at}
use Rattle.pungi_diff.proofs.FringeLemmas.{fringe_lowers, fringe_pushed}
use Rattle.pungi_diff.proofs.search.reach.Goals as goal
use Rattle.pungi_diff.proofs.search.reach.Goals.{else-was_idle-via-then-was_idle+else-gap-x-lt0}
use Rattle.pungi_diff.proofs.search.reach.Goals.{else-was_idle-via-else-was_idle}

pub returns-then-gap-x-lt0-clause-fringe : goal.returns-then-gap-x-lt0-clause-fringe
returns-then-gap-x-lt0-clause-fringe c =
    let idle : pos 0 ≤ℤ at c.args.gap.now c.args.k.now.x = omega (arith, ints, c.if-was_idle.true) in
    let below : at c.lower.new.gap c.args.k.now.x <ℤ pos 0 = omega (arith, ints, c.if-gap-x-lt0.true) in
    rw c.push_reserved.ensures.items (fringe_pushed c.args.gap.now c.args.rank.now c.args.fringe.now.items
    c.requires.fringe _ _ _ c.args.k.now _ c.requires.within.3 c.lower.ensures idle below)

pub returns-else-was_idle-clause-fringe : goal.returns-else-was_idle-clause-fringe
returns-else-was_idle-clause-fringe c =
    fringe_lowers c.args.gap.now c.args.rank.now c.args.fringe.now.items c.requires.fringe _ _ _ c.args.k.now _
    c.requires.within.3 c.lower.ensures
    (elim c.else-was_idle.branch [
      | else-was_idle-via-then-was_idle+else-gap-x-lt0 w ↦ inr (omega (arith, ints, w.if-gap-x-lt0.false))
      | else-was_idle-via-else-was_idle w ↦ inl (omega (arith, ints, w.if-was_idle.false))
    ])
