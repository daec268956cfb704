use Rattle.std.proofs.Common.{◌≡◌, drop, map}
use Rattle.pungi_resolved.specs.ActionView.{action_view}
use Rattle.pungi_meaning.specs.Work.{block_locals, unset_locals}
use Rattle.pungi_meaning.proofs.stmt.unset_block_locals.Given as goal

abbrev pub invariant-loop-action : goal.invariant-loop-action
invariant-loop-action l =
    unset_locals (block_locals (map action_view (drop l.action-index l.list))) l.locals
    ≡ unset_locals (block_locals (map action_view l.list)) l.initial.locals
