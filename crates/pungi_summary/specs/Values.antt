-- The values of a function's exit classes, with those of an annotation taken in.
--   room_of width rank o       how often a value can still grow
--   exits_room width rank ds   so for all values of a function together
--   file_room width rank exits so for those of all functions
--   FitGrowth width old added  there is a value for each that is to be taken in, with as many coordinates
--   IsGrown least member width d a s    s is the value d after a was taken in
--   AreGrown least member width old added new    the values after others were taken in
--   LargeGrowth width member old added r         taking one in is large
use Rattle.std.specs.Prelude.{◌≡◌, ℕ, ◌+◌, ◌-◌, ℤ, Bool, List, length, Option, None, Some, slice_get}
use Rattle.std.specs.List.{sum_by}
use Rattle.pungi_domain.specs.Builds.{Covers}
use Rattle.pungi_domain.specs.Spans.{LargeGrow}
use Rattle.pungi_domain.specs.Vectors.{Vectors, Either}

abbrev pub room_of : {D : Type 0} → (D → ℕ) → (D → ℕ) → Option D → ℕ
room_of width rank None = 0
room_of width rank (Some d) = width d + 1 - rank d

abbrev pub exits_room : {D : Type 0} → (D → ℕ) → (D → ℕ) → List (Option D) → ℕ
exits_room width rank ds = sum_by (room_of width rank) ds

abbrev pub file_room : {D : Type 0} → (D → ℕ) → (D → ℕ) → List (List (Option D)) → ℕ
file_room width rank exits = sum_by (exits_room width rank) exits

pub record FitGrowth {D : Type 0} (width : D → ℕ) (old : List (Option D)) (added : List D) : Type 0 where
  pub count : length old ≡ length added
  pub widths : (c : ℕ) (a : D) → slice_get added c ≡ Some a
      → (d : D) × (slice_get old c ≡ Some (Some d)) × (width a ≡ width d)

pub record IsGrown {D : Type 0} (least : Bool) (member : D → Vectors) (width : D → ℕ) (d a s : D) : Type 0 where
  pub same_width : width s ≡ width d
  pub covers : Covers least (width d) (Either (member d) (member a)) (member s)

pub record AreGrown {D : Type 0} (least : Bool) (member : D → Vectors) (width : D → ℕ) (old : List (Option D))
    (added : List D) (new : List (Option D)) : Type 0 where
  pub count : length new ≡ length added
  pub each : (c : ℕ) (d a : D) → slice_get old c ≡ Some (Some d) → slice_get added c ≡ Some a
      → (s : D) × (slice_get new c ≡ Some (Some s)) × IsGrown least member width d a s

abbrev pub LargeGrowth : {D : Type 0} → (D → ℕ) → (D → Vectors) → List (Option D) → List D → List ℤ → Type 0
LargeGrowth {D} width member old added r =
    (c : ℕ) × (d : D) × (a : D) × (slice_get old c ≡ Some (Some d)) × (slice_get added c ≡ Some a)
    × LargeGrow (width d) (member d) (member a) r
