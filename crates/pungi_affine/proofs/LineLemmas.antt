-- Rows as lines.
use Rattle.std.proofs.Common.{◌≡◌, ◌∙◌, ℕ, zero, suc, ◌+◌, ◌<◌, List, [], ◌∷◌, ◌++◌, length, map, take, drop}
use Rattle.std.proofs.Common.{slice_index_or, arith, refl, sym, ap, subst}
use Rattle.std.specs.List.{insert, remove}
use Rattle.std.proofs.lemmas.List.{take_more, map-append, length-map}
use Rattle.pungi_affine.specs.Forms.{Line, line, lines, line_of}
use Rattle.pungi_affine.specs.Parts.{wide_line, wide_lines}
use Rattle.pungi_affine.specs.declared.row.Row.{Row}
use Rattle.pungi_affine.specs.declared.part.WideRow.{WideRow}

pub mapped_more : {R : Type 0} (f : R → Line) (rs : List R) (k : ℕ) (d : R) → k < length rs
    → map f (take (k + 1) rs) ≡ map f (take k rs) ++ f (slice_index_or rs k d) ∷ []
mapped_more f rs k d lt = rw (take_more rs k d lt) (map-append f (take k rs) (slice_index_or rs k d ∷ []))

pub mapped_at : {R : Type 0} (f : R → Line) (rs : List R) (k : ℕ) (d : R) → k < length rs
    → line (map f rs) k ≡ f (slice_index_or rs k d)
mapped_at f [] k d lt = absurd (omega arith)
mapped_at f (r ∷ rs) zero d lt = refl
mapped_at f (r ∷ rs) (suc k) d lt = mapped_at f rs k d (omega (arith, lt))

pub mapped_length : {R : Type 0} (f : R → Line) (rs : List R) → length (map f rs) ≡ length rs
mapped_length f rs = length-map rs f

pub mapped_push : {R : Type 0} (f : R → Line) (rs : List R) (r : R) → map f (rs ++ r ∷ []) ≡ map f rs ++ f r ∷ []
mapped_push f rs r = map-append f rs (r ∷ [])

pub lines_more : (rs : List Row) (k : ℕ) (d : Row) → k < length rs
    → lines (take (k + 1) rs) ≡ lines (take k rs) ++ line_of (slice_index_or rs k d) ∷ []
lines_more rs k d lt = mapped_more line_of rs k d lt

pub lines_at : (rs : List Row) (k : ℕ) (d : Row) → k < length rs → line (lines rs) k ≡ line_of (slice_index_or rs k d)
lines_at rs k d lt = mapped_at line_of rs k d lt

pub lines_length : (rs : List Row) → length (lines rs) ≡ length rs
lines_length rs = length-map rs line_of

-- what is known of a row is known of its line, and back
pub to_line : (P : Line → Type 0) (rs : List WideRow) (k : ℕ) (r : WideRow) → k < length rs
    → r ≡ slice_index_or rs k r → P (wide_line r) → P (line (wide_lines rs) k)
to_line P rs k r lt is h = subst P (ap wide_line is ∙ sym (mapped_at wide_line rs k r lt)) h

pub from_line : (P : Line → Type 0) (rs : List WideRow) (k : ℕ) (r : WideRow) → k < length rs
    → r ≡ slice_index_or rs k r → P (line (wide_lines rs) k) → P (wide_line r)
from_line P rs k r lt is h = subst P (mapped_at wide_line rs k r lt ∙ ap wide_line (sym is)) h

pub to_kept : (P : Line → Type 0) (rs : List Row) (k : ℕ) (r : Row) → k < length rs → r ≡ slice_index_or rs k r
    → P (line_of r) → P (line (lines rs) k)
to_kept P rs k r lt is h = subst P (ap line_of is ∙ sym (mapped_at line_of rs k r lt)) h

pub from_kept : (P : Line → Type 0) (rs : List Row) (k : ℕ) (r : Row) → k < length rs → r ≡ slice_index_or rs k r
    → P (line (lines rs) k) → P (line_of r)
from_kept P rs k r lt is h = subst P (mapped_at line_of rs k r lt ∙ ap line_of (sym is)) h

mapped_take : {R : Type 0} (f : R → Line) (n : ℕ) (rs : List R) → map f (take n rs) ≡ take n (map f rs)
mapped_take f zero rs = refl
mapped_take f (suc n) [] = refl
mapped_take f (suc n) (r ∷ rs) = ap (λ ls. f r ∷ ls) (mapped_take f n rs)

mapped_drop : {R : Type 0} (f : R → Line) (n : ℕ) (rs : List R) → map f (drop n rs) ≡ drop n (map f rs)
mapped_drop f zero rs = refl
mapped_drop f (suc n) [] = refl
mapped_drop f (suc n) (r ∷ rs) = mapped_drop f n rs

pub mapped_insert : {R : Type 0} (f : R → Line) (n : ℕ) (rs : List R) (r : R)
    → map f (insert rs n r) ≡ insert (map f rs) n (f r)
mapped_insert f n rs r =
    map-append f (take n rs) (r ∷ drop n rs) ∙ ap (λ ls. ls ++ f r ∷ map f (drop n rs)) (mapped_take f n rs)
    ∙ ap (λ ls. take n (map f rs) ++ f r ∷ ls) (mapped_drop f n rs)

pub mapped_remove : {R : Type 0} (f : R → Line) (n : ℕ) (rs : List R) → map f (remove rs n) ≡ remove (map f rs) n
mapped_remove f n rs =
    map-append f (take n rs) (drop (suc n) rs) ∙ ap (λ ls. ls ++ map f (drop (suc n) rs)) (mapped_take f n rs)
    ∙ ap (λ ls. take n (map f rs) ++ ls) (mapped_drop f (suc n) rs)
