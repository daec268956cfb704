-- The constraints that are held, and the chain of those on each node, their y.
--   HeldState                       how contracts see them: the nodes, the room, and the list
--   nth list k                      the constraint of a number
--   IsLatest list y m latest        the number of the latest constraint on y among the first m, if one is on it
--   Linked room list .. earlier ..  the chains lead through all constraints, and there is room for as many as promised
use Rattle.std.specs.Prelude.{◌≡◌, ℕ, ◌<◌, ◌≤◌, List, length, Option, None, Some}
use Rattle.std.specs.List.{All, slice_index_or}
use Rattle.pungi_diff.specs.declared.constraint.Constraint.{Constraint}
use Rattle.pungi_diff.specs.declared.constraint.TheConstants.{NO_CONSTRAINT}

pub record HeldState : Type 0 where
  pub nodes : ℕ
  pub room : ℕ
  pub list : List Constraint

abbrev pub nth : List Constraint → ℕ → Constraint
nth list k = slice_index_or list k NO_CONSTRAINT

abbrev pub IsLatest : List Constraint → ℕ → ℕ → Option ℕ → Type 0
IsLatest list y m None = (j : ℕ) → j < m → (nth list j).y ≡ y → ⊥
IsLatest list y m (Some k) = (k < m) × ((nth list k).y ≡ y) × ((j : ℕ) → k < j → j < m → (nth list j).y ≡ y → ⊥)

pub record Linked (room : ℕ) (list : List Constraint) (list_room : ℕ) (latest earlier : List (Option ℕ))
    (earlier_room : ℕ) : Type 0 where
  pub few : room ≤ 65536
  pub holds : length list ≤ room
  pub list_fits : room ≤ list_room
  pub earlier_fits : room ≤ earlier_room
  pub each : length earlier ≡ length list
  pub within : All (λ k. k.y < length latest) list
  pub by_node : (u : ℕ) → u < length latest → IsLatest list u (length list) (slice_index_or latest u None)
  pub by_number : (k : ℕ) → k < length list → IsLatest list (nth list k).y k (slice_index_or earlier k None)
