-- What is known of the files of the system.
--   left_of file    what is left to read: unknown of a file that is open, and nothing where none is, since a file is
--                   closed at its end
use Rattle.std.specs.Prelude.{ℕ, List, [], Option, None, Some}

abbrev pub left_of : {A : Type 0} → Option A → Option (List ℕ)
left_of None = Some []
left_of (Some file) = None
