use Rattle.std.proofs.Common.{◌≡◌, drop, map}
use Rattle.pungi_resolved.specs.ActionView.{action_view}
use Rattle.pungi_meaning.specs.Stmts.{is_default, first_from}
use Rattle.pungi_meaning.proofs.stmt.default_place.Given as goal

abbrev pub invariant-loop-i : goal.invariant-loop-i
invariant-loop-i l =
    first_from is_default l.i (map action_view (drop l.i l.block))
    ≡ first_from is_default 0 (map action_view l.block)
