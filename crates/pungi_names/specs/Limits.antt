-- How large a file is whose names are gathered.
--   most_tokens    the most tokens of its items
use Rattle.std.specs.Prelude.{ℕ}

abbrev pub most_tokens : ℕ
most_tokens = 262144
