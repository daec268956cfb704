-- Unit vectors.
--   IsUnitLine w c l    the row l is 1 at its pivot c, and 0 elsewhere
--   AreUnits w ls       the rows are those of all coordinates
use Rattle.std.specs.Prelude.{◌≡◌, ℕ, ◌<◌, List, length}
use Rattle.pungi_domain.specs.Vectors.{at}
use Rattle.pungi_domain.specs.Spans.{unit}
use Rattle.pungi_affine.specs.Forms.{Line, line}

pub record IsUnitLine (w c : ℕ) (l : Line) : Type 0 where
  pub pivot : l.pivot ≡ c
  pub lengths : length l.entries ≡ w
  pub each : (i : ℕ) → i < w → at l.entries i ≡ unit c i

pub record AreUnits (w : ℕ) (ls : List Line) : Type 0 where
  pub count : length ls ≡ w
  pub each : (k : ℕ) → k < w → IsUnitLine w k (line ls k)
