-- A partition of the numbers below some number into rings.
--   Linked next before         the links forward make rings, and those back are their inverse
--   Extends links count more   these links, and from there on each number linked to itself
--   Alone count next           each number below the count is a ring of its own
--   Splices old a b new        the ring of a, from a, is followed by the ring of b, from b; all other rings stay
--   TakesOut old a new         a is alone, its old ring keeps its order, and all other rings stay
--   Copies old count new       the same rings, and each further number is a ring of its own
--   IsSame next a b result     whether b is in the ring of a
use Rattle.std.specs.Prelude.{◌≡◌, ℕ, ◌<◌, ◌≤◌, ◌^◌, List, [], ◌∷◌, ◌++◌, length, slice_index, Bool, IsTrue, ◌↔◌}
use Rattle.pungi_links.specs.Ring.{Stands, IsRing, AreRings, IsPartition}

pub record Linked (next before : List ℕ) : Type 0 where
  pub small : length next ≤ 2 ^ 32
  pub same : length before ≡ length next
  pub next_in : (i : ℕ) → i < length next → slice_index next i < length next
  pub before_in : (i : ℕ) → i < length next → slice_index before i < length next
  pub back : (i : ℕ) → i < length next → slice_index before (slice_index next i) ≡ i
  pub rings : AreRings next

pub record Extends (links : List ℕ) (count : ℕ) (more : List ℕ) : Type 0 where
  pub all : length more ≡ count
  pub old : (i : ℕ) → i < length links → slice_index more i ≡ slice_index links i
  pub new : (i : ℕ) → length links ≤ i → i < count → slice_index more i ≡ i

pub record Alone (count : ℕ) (next : List ℕ) : Type 0 where
  pub all : length next ≡ count
  pub alone : (a : ℕ) → a < count → IsRing next a (a ∷ [])
  pub partition : IsPartition next

pub record Splices (old : List ℕ) (a b : ℕ) (new : List ℕ) : Type 0 where
  pub all : length new ≡ length old
  pub joined : (xs ys : List ℕ) → IsRing old a xs → IsRing old b ys → IsRing new a (xs ++ ys)
  pub others : (c : ℕ) (zs : List ℕ) → IsRing old c zs → (Stands a zs → ⊥) → (Stands b zs → ⊥) → IsRing new c zs
  pub partition : IsPartition new

pub record TakesOut (old : List ℕ) (a : ℕ) (new : List ℕ) : Type 0 where
  pub all : length new ≡ length old
  pub alone : IsRing new a (a ∷ [])
  pub left : (x : ℕ) (xs : List ℕ) → IsRing old a (a ∷ x ∷ xs) → IsRing new x (x ∷ xs)
  pub others : (c : ℕ) (zs : List ℕ) → IsRing old c zs → (Stands a zs → ⊥) → IsRing new c zs
  pub partition : IsPartition new

pub record Copies (old : List ℕ) (count : ℕ) (new : List ℕ) : Type 0 where
  pub all : length new ≡ count
  pub same : (a : ℕ) (xs : List ℕ) → IsRing old a xs → IsRing new a xs
  pub alone : (a : ℕ) → length old ≤ a → a < count → IsRing new a (a ∷ [])
  pub partition : IsPartition new

abbrev pub IsSame : List ℕ → ℕ → ℕ → Bool → Type 0
IsSame next a b result = (xs : List ℕ) → IsRing next a xs → IsTrue result ↔ Stands b xs
