use Rattle.std.proofs.Common.{◌≡◌, drop, map}
use Rattle.pungi_resolved.specs.ActionView.{action_view}
use Rattle.pungi_emit.specs.stmt.Cases.{default_at}
use Rattle.pungi_emit.proofs.stmt.switch.default_or.Given as goal

abbrev pub invariant-loop-i : goal.invariant-loop-i
invariant-loop-i l =
    default_at (map action_view (drop l.i l.list)) (drop l.i l.starts)
    ≡ default_at (map action_view l.list) l.starts
