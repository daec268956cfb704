use Rattle.std.proofs.Common.{◌∙◌, arith}
use Rattle.pungi_diff.proofs.RoundLemmas.{walk_goes, walk_ends}
use Rattle.pungi_diff.proofs.round.trace.Goals as goal

pub loop-node-preserved : goal.loop-node-preserved
loop-node-preserved c =
    let r = c.requires.cycles.searching in
    let w = c.loop-node.invariant.walked in
    record {
      walked = rw c.push_reserved.ensures.items (walk_goes c.args.held.now c.args.value.now c.args.rank.now
          c.args.gap.now c.args.new.now _ c.loop-node.node _ r.all_ranks w (r.tree c.loop-node.node w.within w.below
          (λ e. omega (arith, e))));
      room = c.push_reserved.ensures.capacity ∙ c.loop-node.invariant.room;
    }

pub returns-clause-round : goal.returns-clause-round
returns-clause-round c =
    rw c.push_reserved-2.ensures.items (walk_ends _ _ _ _ _ _ _ _ _ c.requires.cycles.searching
    c.requires.cycles.below c.loop-node.invariant.walked (omega arith))
