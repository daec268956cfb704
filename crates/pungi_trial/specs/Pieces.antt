-- How a line is put together.
--   pieces_text number pieces    the pieces, each after the number
use Rattle.std.specs.Prelude.{ℕ, List, [], ◌∷◌, ◌++◌}

abbrev pub pieces_text : List ℕ → List (List ℕ) → List ℕ
pieces_text number [] = []
pieces_text number (p ∷ pieces) = number ++ (p ++ pieces_text number pieces)
