-- The calls of a shelf or sink in memory, counted from 1, and those among them that fail.
--   next_call calls           the number of the next call; at its type's end it stays
--   is_failing failing calls  whether the next call is one of those that fail
use Rattle.std.specs.Prelude.{ℕ, ◌+◌, ◌-◌, ◌^◌, ◌==◌, min, Bool, List}
use Rattle.std.specs.List.{list_any}

abbrev pub next_call : ℕ → ℕ
next_call calls = min (calls + 1) (2 ^ 64 - 1)

abbrev pub is_failing : List ℕ → ℕ → Bool
is_failing failing calls = list_any (λ n. n == next_call calls) failing
