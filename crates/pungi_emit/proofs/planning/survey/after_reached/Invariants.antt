use Rattle.std.proofs.Common.{◌≡◌, ◌+◌, drop, map}
use Rattle.pungi_resolved.specs.ActionView.{declared_view}
use Rattle.pungi_layout.specs.code.Sizes.{declare_size}
use Rattle.pungi_emit.proofs.planning.survey.after_reached.Given as goal

abbrev pub invariant-loop-reached : goal.invariant-loop-reached
invariant-loop-reached l =
    l.place + declare_size (map declared_view (drop l.reached-index l.list))
    ≡ l.from + declare_size (map declared_view l.list)
