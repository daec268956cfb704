-- What rows make of a vector's entries at the pivots, row by row.
use Rattle.std.proofs.Common.{◌≡◌, ℕ, suc, ◌+◌, ◌<◌, ℤ, pos, ◌+ℤ◌, ◌*ℤ◌, List, [], ◌∷◌, ◌++◌, length, take, refl, arith}
use Rattle.std.proofs.Common.{◌∙◌, ap, slice_index_or, Result, Ok, Err}
use Rattle.std.specs.Prelude.{IfOk}
use Rattle.std.proofs.lemmas.Int.{ints}
use Rattle.pungi_domain.specs.Vectors.{at}
use Rattle.pungi_affine.specs.Forms.{Line, line, lines, line_of, fill}
use Rattle.pungi_affine.specs.Rows.{row_entries}
use Rattle.pungi_affine.specs.declared.row.Row.{Row}
use Rattle.pungi_affine.proofs.LineLemmas.{lines_more}
use Rattle.pungi_affine.proofs.Reduced.{zero_mul}

pub fill_push : (v : ℕ → ℤ) (ls : List Line) (l : Line) (i : ℕ)
    → fill v (ls ++ l ∷ []) i ≡ fill v ls i +ℤ (v l.pivot *ℤ at l.entries i)
fill_push v [] l i = omega (arith, ints)
fill_push v (k ∷ ls) l i = (let h = fill_push v ls l i in omega (arith, ints, h))

pub fill_more : (v : ℕ → ℤ) (rs : List Row) (k : ℕ) (row : Row) (i : ℕ) → k < length rs → row ≡ slice_index_or rs k row
    → fill v (lines (take (k + 1) rs)) i ≡ fill v (lines (take k rs)) i +ℤ (v row.pivot *ℤ at (row_entries row) i)
fill_more v rs k row i lt is = rw (lines_more rs k row lt, ← is) (fill_push v (lines (take k rs)) (line_of row) i)

-- where a vector is 0 at the pivots the rows take nothing from it
pub fill_nothing : (v : ℕ → ℤ) (ls : List Line) (i : ℕ) → ((k : ℕ) → k < length ls → v (line ls k).pivot ≡ pos 0)
    → fill v ls i ≡ pos 0
fill_nothing v [] i z = refl
fill_nothing v (l ∷ ls) i z =
    let h = fill_nothing v ls i (λ k lt. z (suc k) (omega (arith, lt))) in
    let e : v l.pivot *ℤ at l.entries i ≡ pos 0 = ap (λ y. y *ℤ at l.entries i) (z 0 (omega arith))
    ∙ zero_mul (at l.entries i) in
    omega (arith, ints, h, e)

pub if_ok_so : {A E : Type 0} (r : Result A E) (P Q : A → Type 0) → ((a : A) → P a → Q a) → IfOk r P → IfOk r Q
if_ok_so (Ok a) P Q to h = to a h
if_ok_so (Err f) P Q to h = h
