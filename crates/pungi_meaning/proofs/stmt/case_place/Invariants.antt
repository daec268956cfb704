use Rattle.std.proofs.Common.{◌≡◌, drop, map}
use Rattle.pungi_resolved.specs.ActionView.{action_view}
use Rattle.pungi_meaning.specs.Stmts.{bears_case, first_from}
use Rattle.pungi_meaning.proofs.stmt.case_place.Given as goal

abbrev pub invariant-loop-i : goal.invariant-loop-i
invariant-loop-i l =
    first_from (bears_case l.value) l.i (map action_view (drop l.i l.block))
    ≡ first_from (bears_case l.value) 0 (map action_view l.block)
