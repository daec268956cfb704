-- Constraints that go round, with their sum.
--   Path u ks w              the constraints lead from u to w, each from where the one before it ended
--   total ks                 the sum of their bounds
--   GoesRound held new ks    the new one, alone or with some held, goes round with a sum below 0
--   HasNoSolution ks         no values meet the constraints
--   Walked held .. ks u      the constraints that a search wrote, walked from the y of the new one as far as a node
--                            that is lowered
use Rattle.std.specs.Prelude.{◌≡◌, ◌⊎◌, ◌+◌, ◌<◌, ◌≤◌, length, slice_index, ℕ, ℤ, pos, ◌+ℤ◌, ◌<ℤ◌, List, [], ◌∷◌, ◌++◌}
use Rattle.pungi_diff.specs.Constraint.{at, Solves}
use Rattle.pungi_diff.specs.Search.{lowered}
use Rattle.std.specs.List.{All, Contains}
use Rattle.pungi_diff.specs.declared.constraint.Constraint.{Constraint}

abbrev pub Path : ℕ → List Constraint → ℕ → Type 0
Path u [] w = u ≡ w
Path u (k ∷ ks) w = (k.x ≡ u) × Path k.y ks w

abbrev pub total : List Constraint → ℤ
total [] = pos 0
total (k ∷ ks) = k.c +ℤ total ks

pub record GoesRound (held : List Constraint) (new : Constraint) (ks : List Constraint) : Type 0 where
  pub round : Path new.y ks new.y
  pub among : All (λ k. Contains (held ++ new ∷ []) k) ks
  pub with_new : Contains ks new
  pub below : total ks <ℤ pos 0

abbrev pub HasNoSolution : List Constraint → Type 0
HasNoSolution ks = (v : ℕ → ℤ) → Solves v ks → ⊥

pub record Walked (held : List Constraint) (value : List ℤ) (rank : List ℕ) (gap : List ℤ) (new : Constraint)
    (ks : List Constraint) (u : ℕ) : Type 0 where
  pub path : Path new.y ks u
  pub among : All (Contains held) ks
  pub sum : lowered value gap new.y ≡ lowered value gap u +ℤ total ks
  pub within : u < length value
  pub below : at gap u <ℤ pos 0
  pub short : (length ks ≡ 0) ⊎ ((length ks + slice_index rank u) ≤ length value)
