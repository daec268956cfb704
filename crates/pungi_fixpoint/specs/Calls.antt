-- What a call makes at a target of z coordinates: of s, the value at its source, with w coordinates, and of x, the
-- value at the called function's exit, with z - w coordinates.
--   source_row w i, exit_row w i    row i of the map that puts the source's vectors, and the exit's, into the target
--   IsBeside least member w z s x t        t has them side by side, by two maps and a union
--   LargeBeside least member w z s x r     making t is large
use Rattle.std.specs.Prelude.{◌⊎◌, ℕ, ◌-◌, nat_lt, ℤ, pos, Bool, List, [], ◌∷◌, cond}
use Rattle.pungi_domain.specs.Builds.{Covers, source_rows, exit_rows}
use Rattle.pungi_domain.specs.Spans.{LargeGrow, LargeMap}
use Rattle.pungi_domain.specs.Vectors.{Vectors, Image, Either}

abbrev pub source_row : ℕ → ℕ → List (ℕ × ℤ)
source_row w i = cond (nat_lt i w) ((i, pos 1) ∷ []) []

abbrev pub exit_row : ℕ → ℕ → List (ℕ × ℤ)
exit_row w i = cond (nat_lt i w) [] ((i - w, pos 1) ∷ [])

abbrev pub IsBeside : {S : Type 0} → Bool → (S → Vectors) → ℕ → ℕ → S → S → S → Type 0
IsBeside {S} least member w z s x t =
    (left : S) × (right : S)
    × Covers least z (Image (source_rows w z) (member s)) (member left)
    × Covers least z (Image (exit_rows w z) (member x)) (member right)
    × Covers least z (Either (member left) (member right)) (member t)

abbrev pub LargeBeside : {S : Type 0} → Bool → (S → Vectors) → ℕ → ℕ → S → S → List ℤ → Type 0
LargeBeside {S} least member w z s x r =
    LargeMap w (source_rows w z) (member s) r
    ⊎ LargeMap (z - w) (exit_rows w z) (member x) r
    ⊎ ((left : S) × (right : S) × Covers least z (Image (source_rows w z) (member s)) (member left)
    × Covers least z (Image (exit_rows w z) (member x)) (member right)
    × LargeGrow z (member left) (member right) r)
