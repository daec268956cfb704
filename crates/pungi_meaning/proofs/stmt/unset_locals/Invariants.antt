use Rattle.std.proofs.Common.{◌≡◌, drop, map}
use Rattle.pungi_resolved.specs.ActionView.{declared_view}
use Rattle.pungi_meaning.specs.Work.{unset_locals}
use Rattle.pungi_meaning.proofs.stmt.unset_locals.Given as goal

abbrev pub invariant-loop-reached : goal.invariant-loop-reached
invariant-loop-reached l =
    unset_locals (map declared_view (drop l.reached-index l.list)) l.locals
    ≡ unset_locals (map declared_view l.list) l.initial.locals
