use Rattle.std.proofs.Common.{◌≡◌, ◌++◌, drop, map}
use Rattle.std.specs.List.{enumerate_from}
use Rattle.pungi_shape.specs.Calls.{does}
use Rattle.pungi_shape.specs.Cases.{passes_on}
use Rattle.pungi_shape.proofs.calls.add_outcomes.Given as goal

-- with the cases that are left these are all cases
abbrev pub invariant-loop-k : goal.invariant-loop-k
invariant-loop-k l =
    l.out ++ map (λ e. passes_on e.0 (does l.g.own l.g l.holdings e.1 l.scene))
    (enumerate_from l.k (drop l.k l.others))
    ≡ l.initial.out ++ map (λ e. passes_on e.0 (does l.g.own l.g l.holdings e.1 l.scene)) (enumerate_from 0 l.others)
