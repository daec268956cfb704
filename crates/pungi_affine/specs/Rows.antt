-- Kept rows: the entries from one coordinate on; those before and after them are 0.
--   first_values f n      the values of f at the first n numbers
--   entry_at start xs i   the entry at a coordinate, where xs are those from the coordinate start on
--   row_entries r         all entries of a row
use Rattle.std.specs.Prelude.{ℕ, zero, suc, ◌-◌, ℤ, pos, List, [], ◌∷◌, cond, ltb}
use Rattle.pungi_domain.specs.Vectors.{at}
use Rattle.pungi_affine.specs.declared.row.Row.{Row}

abbrev pub first_values : (ℕ → ℤ) → ℕ → List ℤ
first_values f zero = []
first_values f (suc n) = f 0 ∷ first_values (λ i. f (suc i)) n

abbrev pub entry_at : ℕ → List ℤ → ℕ → ℤ
entry_at start xs i = cond (ltb i start) (pos 0) (at xs (i - start))

unfoldable pub row_entries : Row → List ℤ
row_entries r = first_values (entry_at r.start r.entries.items) r.width
