-- How large a file may be.
--   file_limit    the most bytes of a file
use Rattle.std.specs.Prelude.{ℕ}

abbrev pub file_limit : ℕ
file_limit = 1048576
