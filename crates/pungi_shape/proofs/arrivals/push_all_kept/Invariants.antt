use Rattle.std.proofs.Common.{◌≡◌, ◌++◌, drop}
use Rattle.pungi_shape.specs.Arrivals.{numbers_kept}
use Rattle.pungi_shape.proofs.arrivals.push_all_kept.Given as goal

abbrev pub invariant-loop-i : goal.invariant-loop-i
invariant-loop-i l =
    l.rows ++ numbers_kept (drop l.i l.holdings) (drop l.i l.forms)
    ≡ l.initial.rows ++ numbers_kept l.holdings l.forms
