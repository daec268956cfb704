-- How large an affine program may be.
--   most_places             the most places
--   most_coordinates        the most coordinates of a place
use Rattle.std.specs.Prelude.{ℕ}

abbrev pub most_places : ℕ
most_places = 8192

abbrev pub most_coordinates : ℕ
most_coordinates = 256
