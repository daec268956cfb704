-- Difference-bound constraints between numbered unknowns, the nodes, and values that meet them.
--   at xs u                  the value of a node
--   Meets v k                x - y is at most c
--   Solves v ks              the values meet all constraints
--   InRange n ks             the constraints are between the first n nodes
--   IsStep k                 the bound of a constraint lies between -2^65 and 2^65
--   IsSmall z                what lets every sum of a search fit: between -2^82 and 0
--   Small value gap ks       all values and bounds are so small, and no gap lies below -2^84 or above 0
use Rattle.std.specs.Prelude.{ℕ, ◌<◌, ◌^◌, ℤ, pos, neg_ℤ, ◌+ℤ◌, ◌≤ℤ◌, List, length}
use Rattle.std.specs.List.{All, slice_index_or}
use Rattle.pungi_diff.specs.declared.constraint.Constraint.{Constraint}

abbrev pub at : List ℤ → ℕ → ℤ
at xs u = slice_index_or xs u (pos 0)

abbrev pub Meets : (ℕ → ℤ) → Constraint → Type 0
Meets v k = v k.x ≤ℤ (v k.y +ℤ k.c)

abbrev pub Solves : (ℕ → ℤ) → List Constraint → Type 0
Solves v ks = All (Meets v) ks

abbrev pub InRange : ℕ → List Constraint → Type 0
InRange n ks = All (λ k. (k.x < n) × (k.y < n)) ks

abbrev pub IsStep : Constraint → Type 0
IsStep k = (k.c ≤ℤ pos (2 ^ 65)) × (neg_ℤ (pos (2 ^ 65)) ≤ℤ k.c)

abbrev pub IsSmall : ℤ → Type 0
IsSmall z = (z ≤ℤ pos 0) × (neg_ℤ (pos (2 ^ 82)) ≤ℤ z)

pub record Small (value gap : List ℤ) (ks : List Constraint) : Type 0 where
  pub values : (u : ℕ) → u < length value → IsSmall (at value u)
  pub gaps : (u : ℕ) → u < length value → (at gap u ≤ℤ pos 0) × (neg_ℤ (pos (2 ^ 84)) ≤ℤ at gap u)
  pub steps : All IsStep ks
