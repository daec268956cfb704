-- Two runs that are alike, where one makes steps and the other instructions.
--   IsOver e                      a run has an end
--   Alike source target most      one ends where and as the other ends, and before it both do the same operations in
--                                 the same order; at most so many steps of the first are one instruction of the second
--                                 apart
use Rattle.std.specs.Prelude.{◌≡◌, ℕ, ◌+◌, ◌*◌, ◌≤◌}
use Rattle.pungi_meaning.specs.Run.{Run, End, Returned, Stopped, NeedsChoice, OutOfFuel}

abbrev pub IsOver : End → Type 0
IsOver (Returned w v p used) = Unit {0}
IsOver (Stopped p) = Unit {0}
IsOver NeedsChoice = Unit {0}
IsOver OutOfFuel = ⊥

pub record Alike (source target : ℕ → Run) (most : ℕ) : Type 0 where
  pub ends : (n : ℕ) → IsOver (source n).end → (m : ℕ) × (target m ≡ source n)
  pub goes_on : (n : ℕ) → (source n).end ≡ OutOfFuel → (m : ℕ) × (n ≤ most * (m + 1)) × (target m ≡ source n)
  pub ends_only : (m : ℕ) → IsOver (target m).end → source (most * (m + 1)) ≡ target m
