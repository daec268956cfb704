use Rattle.std.proofs.Common.{◌≡◌, ◌+◌, length, drop, map}
use Rattle.pungi_resolved.specs.ActionView.{action_view}
use Rattle.pungi_meaning.specs.Work.{block_locals}
use Rattle.pungi_emit.proofs.planning.counts.declared_count.Given as goal

abbrev pub invariant-loop-action : goal.invariant-loop-action
invariant-loop-action l =
    l.total + length (block_locals (map action_view (drop l.action-index l.list)))
    ≡ length (block_locals (map action_view l.list))
