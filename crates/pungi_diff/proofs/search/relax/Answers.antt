use Rattle.std.proofs.Common.{◌≡◌, ◌∙◌, ◌<◌, ◌+◌, ap, length, refl, ℕ}
use Rattle.pungi_diff.specs.declared.constraint.Constraint.{Constraint}
use Rattle.pungi_diff.specs.declared.constraint.TheConstants.{NO_CONSTRAINT}
use Rattle.pungi_diff.specs.Held.{nth}
use Rattle.pungi_diff.proofs.RelaxLemmas.{Relaxing, relax_starts, relax_goes, relax_reaches, relax_whole}
use Rattle.pungi_diff.proofs.search.relax.Goals as goal

pub loop-link-init : goal.loop-link-init
loop-link-init c =
    let start = relax_starts c.args.held.now.list c.args.value.now c.args.rank.now c.args.gap.now c.args.via.now
    c.args.from c.latest-link.result c.requires.small c.requires.gaps c.requires.vias c.latest-link.ensures in
    record { relaxing = start.0; link = start.1; fringe = c.requires.fringe; room = refl }

pub loop-link-preserved : goal.loop-link-preserved
loop-link-preserved c =
    let relaxing : Relaxing c.args.held.now.list c.args.value.now c.args.rank.now c.args.gap.now c.args.via.now
    c.loop-link.gap c.loop-link.via c.args.from (c.in-Some.number + 1) = rw c.in-Some.is at
    c.loop-link.invariant.relaxing in
    let link : (c.in-Some.number < length c.args.held.now.list)
    × ((nth c.args.held.now.list c.in-Some.number).y ≡ c.args.from) = rw c.in-Some.is at
    c.loop-link.invariant.link in
    let y_of : Constraint → ℕ = λ k. k.y in
    let reached = relax_reaches c.args.held.now.list c.args.value.now c.args.rank.now c.args.gap.now c.args.via.now
    c.loop-link.gap c.loop-link.via c.args.from c.in-Some.number c.get.result.now _ _
    relaxing link.0 c.get.ensures (ap y_of c.get.ensures
    ∙ link.1) (rw c.get.ensures (c.requires.range c.in-Some.number NO_CONSTRAINT link.0).0)
    c.requires.from c.requires.done c.requires.solved c.requires.small c.reach.ensures.reaches in
    let turn = relax_goes c.args.held.now.list c.args.value.now c.args.rank.now c.args.gap.now c.args.via.now
    c.reach.new.gap c.reach.new.via c.args.from c.in-Some.number c.earlier-link.result
    link.0 link.1 reached c.earlier-link.ensures in
    record {
      relaxing = turn.0;
      link = turn.1;
      fringe = c.reach.ensures.fringe;
      room = c.reach.ensures.room ∙ c.loop-link.invariant.room;
    }

pub returns-clause-relaxes : goal.returns-clause-relaxes
returns-clause-relaxes c = relax_whole _ _ _ _ _ _ _ _ (rw c.in_default.is at c.loop-link.invariant.relaxing)
