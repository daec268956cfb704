-- Lengths of spellings, where there may be none.
--   add_to n length   so many bytes more
use Rattle.std.specs.Prelude.{ℕ, ◌+◌, Option, Some, None}

abbrev pub add_to : ℕ → Option ℕ → Option ℕ
add_to n None = None
add_to n (Some length) = Some (n + length)
