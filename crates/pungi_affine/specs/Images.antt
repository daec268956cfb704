-- Images of rows under a matrix.
--   IsTerm es row k z        z is the factor at a place of a row of the matrix times the entry of its source
--   IsImageOf m l xs         xs are the coordinates of the image of the row l
--   AreImagesOf m ls gs      gs are the images of the rows
use Rattle.std.specs.Prelude.{◌≡◌, ℕ, ◌<◌, ◌^◌, ℤ, pos, ◌*ℤ◌, List, length}
use Rattle.std.specs.List.{slice_index_or}
use Rattle.pungi_domain.specs.Vectors.{at, image, IsWithin}
use Rattle.pungi_affine.specs.Forms.{Line, line}
use Rattle.pungi_affine.specs.Sums.{given_at}
use Rattle.pungi_affine.specs.declared.sum.Given.{Given}

pub record IsTerm (es : List ℤ) (row : List (ℕ × ℤ)) (k : ℕ) (z : ℤ) : Type 0 where
  pub value : z ≡ (slice_index_or row k (0, pos 0)).1 *ℤ at es (slice_index_or row k (0, pos 0)).0
  pub within : IsWithin (2 ^ 94) z

pub record IsImageOf (matrix : List (List (ℕ × ℤ))) (l : Line) (xs : List ℤ) : Type 0 where
  pub lengths : length xs ≡ length matrix
  pub each : (i : ℕ) → i < length matrix → (at xs i ≡ image matrix (at l.entries) i) × IsWithin (2 ^ 126) (at xs i)

pub record AreImagesOf (matrix : List (List (ℕ × ℤ))) (ls : List Line) (gs : List Given) : Type 0 where
  pub count : length gs ≡ length ls
  pub each : (k : ℕ) → k < length ls → IsImageOf matrix (line ls k) (given_at gs k)
