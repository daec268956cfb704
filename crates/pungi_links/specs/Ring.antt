-- Rings of numbers, each of which has a successor in a list.
--   Stands x xs         x is among xs
--   NoRepeat xs         no number stands twice
--   Leads next a xs b   xs begins at a, each number is followed by its successor, and the successor of the last is b
--   IsRing next a xs    xs is the ring of a, from a on: it leads back to a, and no number stands twice
--   AreRings next       each number is in a ring
--   IsPartition next    each number has one ring, and rings with a common member have the same members
--   walk k next c a     the numbers from c on as far as a, without a, and at most k
--   way next c a        the numbers from c on as far as a, without a
use Rattle.std.specs.Prelude.{◌≡◌, ℕ, ◌<◌, ◌==◌, ◌⊎◌, List, [], ◌∷◌, length, slice_index, if◌then◌else◌}
use Prim.Native.Nat.{zero, suc}

abbrev pub Stands : ℕ → List ℕ → Type 0
Stands x [] = ⊥
Stands x (y ∷ ys) = (x ≡ y) ⊎ Stands x ys

abbrev pub NoRepeat : List ℕ → Type 0
NoRepeat [] = Unit {0}
NoRepeat (x ∷ xs) = (Stands x xs → ⊥) × NoRepeat xs

abbrev pub Leads : List ℕ → ℕ → List ℕ → ℕ → Type 0
Leads next a [] b = a ≡ b
Leads next a (x ∷ xs) b = (x ≡ a) × Leads next (slice_index next a) xs b

pub record IsRing (next : List ℕ) (a : ℕ) (xs : List ℕ) : Type 0 where
  pub leads : Leads next a xs a
  pub some : 0 < length xs
  pub distinct : NoRepeat xs
  pub within : (x : ℕ) → Stands x xs → x < length next

abbrev pub AreRings : List ℕ → Type 0
AreRings next = (a : ℕ) → a < length next → (xs : List ℕ) × IsRing next a xs

pub record IsPartition (next : List ℕ) : Type 0 where
  pub each : AreRings next
  pub one : (a : ℕ) (xs ys : List ℕ) → IsRing next a xs → IsRing next a ys → xs ≡ ys
  pub joint : (a b x : ℕ) (xs ys : List ℕ) → IsRing next a xs → IsRing next b ys → Stands b xs → Stands x xs
      → Stands x ys

abbrev pub walk : ℕ → List ℕ → ℕ → ℕ → List ℕ
walk zero next c a = []
walk (suc k) next c a = if c == a then [] else c ∷ walk k next (slice_index next c) a

abbrev pub way : List ℕ → ℕ → ℕ → List ℕ
way next c a = walk (length next) next c a
