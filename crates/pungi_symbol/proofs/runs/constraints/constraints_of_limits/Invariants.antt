use Rattle.std.proofs.Common.{◌≡◌, ◌<◌, ℕ, ◌++◌, length, map, drop, get_or, All}
use Rattle.pungi_symbol.specs.declared.states.limit.Limit.{Limit}
use Rattle.pungi_symbol.specs.runs.Numbers.{constraint_of, IsIn, AreThere}
use Rattle.pungi_symbol.proofs.runs.constraints.constraints_of_limits.Given as goal

abbrev pub invariant-loop-i : goal.invariant-loop-i
invariant-loop-i l =
    (l.constraints.items ++ map (constraint_of (length l.marks)) (drop l.i l.limits) ≡ map (constraint_of (length l.marks)) l.limits)
    × (All (IsIn l.nodes) l.constraints.items
    × ((j : ℕ) (d : Limit) → j < l.i → AreThere l.marks (get_or l.limits j d)))
