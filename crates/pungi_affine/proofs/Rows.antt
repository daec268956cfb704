-- Kept rows and all of their entries.
use Rattle.std.proofs.Common.{◌≡◌, ◌∙◌, ℕ, zero, suc, ◌-◌, ◌<◌, ◌≤◌, inl, inr, ℤ, pos, List, [], ◌∷◌, length, take}
use Rattle.std.proofs.Common.{slice_index_or, drop, refl, sym, ap, arith}
use Rattle.std.proofs.lemmas.Bool.{cases_lt}
use Rattle.std.proofs.lemmas.Bool.Decides.{nat_tests}
use Rattle.std.proofs.lemmas.List.{get_or-take, get_or-drop, get_or_past, length-take}
use Rattle.pungi_domain.specs.Vectors.{at}
use Rattle.pungi_affine.specs.Rows.{first_values, entry_at, row_entries}
use Rattle.pungi_affine.specs.declared.row.Row.{Row}

pub any_default : (xs : List ℤ) (i : ℕ) (d e : ℤ) → i < length xs → slice_index_or xs i d ≡ slice_index_or xs i e
any_default [] i d e lt = absurd (omega (arith, lt))
any_default (x ∷ xs) zero d e lt = refl
any_default (x ∷ xs) (suc i) d e lt = any_default xs i d e (omega (arith, lt))

pub first_values_length : (f : ℕ → ℤ) (n : ℕ) → length (first_values f n) ≡ n
first_values_length f zero = refl
first_values_length f (suc n) = ap suc (first_values_length (λ i. f (suc i)) n)

pub first_values_at : (f : ℕ → ℤ) (n i : ℕ) → i < n → at (first_values f n) i ≡ f i
first_values_at f zero i lt = absurd (omega (arith, lt))
first_values_at f (suc n) zero lt = refl
first_values_at f (suc n) (suc i) lt = first_values_at (λ j. f (suc j)) n i (omega (arith, lt))

pub first_values_are : (f : ℕ → ℤ) (xs : List ℤ) → ((i : ℕ) → i < length xs → f i ≡ at xs i)
    → first_values f (length xs) ≡ xs
first_values_are f [] e = refl
first_values_are f (x ∷ xs) e =
    ap (λ y. y ∷ first_values (λ i. f (suc i)) (length xs)) (e 0 (omega arith))
    ∙ ap (λ ys. x ∷ ys) (first_values_are (λ i. f (suc i)) xs (λ i lt. e (suc i) (omega (arith, lt))))

pub entry_before : (start : ℕ) (xs : List ℤ) (i : ℕ) → i < start → entry_at start xs i ≡ pos 0
entry_before start xs i lt = grind (arith, nat_tests)

pub entry_from : (start : ℕ) (xs : List ℤ) (i : ℕ) → start ≤ i → entry_at start xs i ≡ at xs (i - start)
entry_from start xs i le = grind (arith, nat_tests)

pub width_is : (r : Row) → length (row_entries r) ≡ r.width
unfolding row_entries
width_is r = first_values_length (entry_at r.start r.entries.items) r.width

pub entry_is : (r : Row) (i : ℕ) → i < length (row_entries r) → at (row_entries r) i ≡ entry_at r.start r.entries.items i
unfolding row_entries
entry_is r i lt = first_values_at (entry_at r.start r.entries.items) r.width i (let n = width_is r in omega (arith, n, lt))

-- rows with the same numbers
pub same_entries : (r : Row) (s : Row) → r.width ≡ s.width → r.start ≡ s.start → r.entries.items ≡ s.entries.items
    → row_entries r ≡ row_entries s
unfolding row_entries
same_entries r s w b e =
    ap (λ n. first_values (entry_at r.start r.entries.items) n) w
    ∙ ap (λ n. first_values (entry_at n r.entries.items) s.width) b
    ∙ ap (λ xs. first_values (entry_at s.start xs) s.width) e

-- a row made of all its entries
pub kept_entries : (r : Row) (xs : List ℤ) (end : ℕ) → r.width ≡ length xs → r.start ≤ end → end ≤ length xs
    → ((i : ℕ) → i < r.start → at xs i ≡ pos 0) → ((i : ℕ) → end ≤ i → i < length xs → at xs i ≡ pos 0)
    → r.entries.items ≡ take (end - r.start) (drop r.start xs) → row_entries r ≡ xs
unfolding row_entries
kept_entries r xs end w le within before after is =
    ap (λ n. first_values (entry_at r.start r.entries.items) n) w
    ∙ first_values_are (entry_at r.start r.entries.items) xs each
  where
    kept : List ℤ
    kept = take (end - r.start) (drop r.start xs)

    from : (i : ℕ) → r.start ≤ i → i < length xs → at (take (end - r.start) (drop r.start xs)) (i - r.start) ≡ at xs i
    from i ge lt = elim (cases_lt i end) [
      | inl l ↦ get_or-take (end - r.start) (drop r.start xs) (i - r.start) (pos 0) (omega (arith, ge, l))
          ∙ get_or-drop r.start xs (i - r.start) (pos 0) ∙ ap (at xs) (omega (arith, ge))
      | inr g ↦ get_or_past (take (end - r.start) (drop r.start xs)) (i - r.start) (pos 0)
          (let n = length-take (end - r.start) (drop r.start xs) in omega (arith, n, ge, g)) ∙ sym (after i g lt)
    ]

    each : (i : ℕ) → i < length xs → entry_at r.start r.entries.items i ≡ at xs i
    each i lt = elim (cases_lt i r.start) [
      | inl l ↦ entry_before r.start r.entries.items i l ∙ sym (before i l)
      | inr g ↦ entry_from r.start r.entries.items i g ∙ ap (λ ys. at ys (i - r.start)) is ∙ from i g lt
    ]
