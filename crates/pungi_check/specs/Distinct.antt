-- Functions of distinct names.
--   are_new ws ds      no definition has the name of an earlier one, or one of these
use Rattle.std.specs.Prelude.{ℕ, Bool, true, ◌&&◌, not, List, [], ◌∷◌}
use Rattle.pungi_types.specs.Files.{Definition}
use Rattle.pungi_types.specs.Names.{is_among, with_word}

abbrev pub are_new : List ℕ → List Definition → Bool
are_new ws [] = true
are_new ws (d ∷ ds) = not (is_among ws d.name.0) && are_new (with_word ws d.name.0) ds
