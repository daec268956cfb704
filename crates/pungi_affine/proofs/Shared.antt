-- The common divisor of a scale and of all entries, row by row.
use Rattle.std.proofs.Common.{◌≡◌, ◌∙◌, ℕ, ◌+◌, ◌*◌, ◌<◌, inl, inr, ℤ, pos, ◌*ℤ◌, ◌<ℤ◌, ◌≤ℤ◌, List, [], ◌∷◌, ◌++◌}
use Rattle.std.proofs.Common.{length, take, slice_index_or, sym, ap, subst, arith, zero, suc, refl}
use Rattle.std.proofs.lemmas.Int.{ints}
use Rattle.std.proofs.lemmas.Bool.{cases_lt}
use Rattle.std.proofs.lemmas.List.{get_or_append_left, length-append}
use Rattle.std.proofs.Math.Seq.{get_or-append_seam}
use Rattle.std.proofs.lemmas.Nat.Gcd.{dvd_refl, dvd_trans}
use Rattle.std.specs.Int.RustNames.{unsigned_abs}
use Prim.Native.Nat.{◌∣◌}
use Rattle.pungi_domain.specs.Vectors.{at}
use Rattle.pungi_domain.specs.Spans.{Divides}
use Rattle.pungi_affine.specs.Divisors.{IsContent, IsCommon, IsDivisor, IsShared}
use Rattle.pungi_affine.specs.Forms.{Line, line, no_line}
use Rattle.pungi_affine.specs.Parts.{wide_line, wide_lines}
use Rattle.pungi_affine.specs.WideForms.{AreQuotients, IsQuotientLine}
use Rattle.pungi_affine.specs.declared.part.WideRow.{WideRow}
use Rattle.pungi_affine.proofs.Coprime.{abs_divides, divides_abs, unit_divides, divides_unit, content_divisor}
use Rattle.pungi_affine.proofs.Coprime.{divisor_bounds}
use Rattle.pungi_affine.proofs.LineLemmas.{mapped_more, mapped_push}

pub last_line : (ls : List Line) (l : Line) → line (ls ++ l ∷ []) (length ls) ≡ l
last_line ls l = get_or-append_seam ls l [] no_line

pub front_line : (ls : List Line) (l : Line) (k : ℕ) → k < length ls → line (ls ++ l ∷ []) k ≡ line ls k
front_line ls l k lt = get_or_append_left ls (l ∷ []) no_line k lt

pub more_lines : (ls : List Line) (l : Line) → length (ls ++ l ∷ []) ≡ length ls + 1
more_lines ls l = length-append ls (l ∷ [])

-- what holds of each line and of one more
pub each_more : (P : ℕ → Line → Type 0) (ls : List Line) (l : Line) → ((k : ℕ) → k < length ls → P k (line ls k))
    → P (length ls) l → (k : ℕ) → k < length (ls ++ l ∷ []) → P k (line (ls ++ l ∷ []) k)
each_more P ls l h last k lt = elim (cases_lt k (length ls)) [
  | inl less ↦ subst (λ (x : Line). P k x) (sym (front_line ls l k less)) (h k less)
  | inr ge ↦ (
      let e : length ls ≡ k = (let n = more_lines ls l in omega (arith, n, lt, ge)) in
      subst (λ (j : ℕ). P j (line (ls ++ l ∷ []) j)) e (subst (λ (x : Line). P (length ls) x) (sym (last_line ls l))
      last))
]

pub shared_none : (d : ℤ) (n : ℕ) → n ≡ unsigned_abs d → IsShared d [] (pos n)
shared_none d n e = record {
  scale = abs_divides (pos n) d (subst (λ (k : ℕ). n ∣ k) e (dvd_refl n));
  rows = λ k lt. absurd (omega (arith, lt));
  combines = λ m a h all. divides_unit m (pos n) a (subst (λ (k : ℕ). unsigned_abs m ∣ (unsigned_abs a * k)) (sym e)
      (unit_divides m d a h));
}

pub shared_more : (d : ℤ) (ls : List Line) (l : Line) (a b n : ℕ) → IsShared d ls (pos a) → IsContent l.entries b
    → IsCommon a b n → IsShared d (ls ++ l ∷ []) (pos n)
shared_more d ls l a b n s c h = record {
  scale = further a d h.left s.scale;
  rows = each_more (λ k x. (i : ℕ) → i < length x.entries → Divides (pos n) (at x.entries i)) ls l
      (λ k lt i i_lt. further a (at (line ls k).entries i) h.left (s.rows k lt i i_lt))
      (λ i lt. further b (at l.entries i) h.right (content.divides i lt));
  combines = λ m e h_d h_x.
      let x = s.combines m e h_d (λ k lt. subst (λ (y : Line). (i : ℕ) → i < length y.entries
      → Divides m (e *ℤ at y.entries i)) (front_line ls l k lt) (h_x k (let q = more_lines ls l in omega
      (arith, q, lt)))) in
      let y = content.combines m e (subst (λ (y : Line). (i : ℕ) → i < length y.entries
      → Divides m (e *ℤ at y.entries i)) (last_line ls l) (h_x (length ls) (let q = more_lines ls l in omega
      (arith, q)))) in
      divides_unit m (pos n) e (h.combines (unsigned_abs m) (unsigned_abs e) (unit_divides m (pos a) e x)
      (unit_divides m (pos b) e y));
}
  where
    content : IsDivisor l.entries (pos b)
    content = content_divisor l.entries b c

    further : (k : ℕ) (x : ℤ) → n ∣ k → Divides (pos k) x → Divides (pos n) x
    further k x p q = abs_divides (pos n) x (dvd_trans n p (divides_abs (pos k) x q))

-- the same over rows
pub shared_rows : (d : ℤ) (rs : List WideRow) (k : ℕ) (r : WideRow) (a b n : ℕ) → k < length rs
    → r ≡ slice_index_or rs k r → IsShared d (wide_lines (take k rs)) (pos a) → IsContent r.entries.items b
    → IsCommon a b n → IsShared d (wide_lines (take (k + 1) rs)) (pos n)
shared_rows d rs k r a b n lt is s c h =
    rw (mapped_more wide_line rs k r lt, ← is) (shared_more d (wide_lines (take k rs)) (wide_line r) a b n s c h)

pub shared_bounds : (d : ℤ) (ls : List Line) (n : ℕ) → pos 0 <ℤ d → IsShared d ls (pos n) → (0 < n) × (pos n ≤ℤ d)
shared_bounds d ls n gt s = divisor_bounds n d gt (divides_abs (pos n) d s.scale)

-- where the divisor of the first rows is 1, so is that of all
front_row : (rs : List WideRow) (k j : ℕ) → j < length (wide_lines (take k rs))
    → (j < length (wide_lines rs)) × (line (wide_lines (take k rs)) j ≡ line (wide_lines rs) j)
front_row rs zero j lt = absurd (omega (arith, lt))
front_row [] (suc k) j lt = absurd (omega (arith, lt))
front_row (r ∷ rs) (suc k) zero lt = (omega arith, refl)
front_row (r ∷ rs) (suc k) (suc j) lt = (let h = front_row rs k j (omega (arith, lt)) in let l = h.0 in
    (omega (arith, l), h.1))

pub shared_one : (d : ℤ) (rs : List WideRow) (k : ℕ) → IsShared d (wide_lines (take k rs)) (pos 1)
    → IsShared d (wide_lines rs) (pos 1)
shared_one d rs k s = record {
  scale = s.scale;
  rows = λ j lt i i_lt. record { by = at (line (wide_lines rs) j).entries i; is = omega (arith, ints) };
  combines = λ m e h_d h_x. s.combines m e h_d (λ j lt. let f = front_row rs k j lt in
      subst (λ (y : Line). (i : ℕ) → i < length y.entries → Divides m (e *ℤ at y.entries i)) (sym f.1)
      (h_x j f.0));
}

pub quotients_more : (g : ℤ) (ls ms : List Line) (l m : Line) → AreQuotients g ls ms → IsQuotientLine g l m
    → AreQuotients g (ls ++ l ∷ []) (ms ++ m ∷ [])
quotients_more g ls ms l m q h = record {
  count = (let a = more_lines ls l in let b = more_lines ms m in let e = q.count in omega (arith, a, b, e));
  each = each_more (λ k x. IsQuotientLine g x (line (ms ++ m ∷ []) k)) ls l
      (λ k lt. subst (λ (x : Line). IsQuotientLine g (line ls k) x) (sym (front_line ms m k
      (let e = q.count in omega (arith, e, lt)))) (q.each k lt))
      (subst (λ (x : Line). IsQuotientLine g l x) (sym (ap (λ j. line (ms ++ m ∷ []) j) (sym q.count)
      ∙ last_line ms m)) h);
}

pub quotient_rows : (g : ℤ) (rs qs : List WideRow) (k : ℕ) (r m : WideRow) → k < length rs
    → r ≡ slice_index_or rs k r → AreQuotients g (wide_lines (take k rs)) (wide_lines qs)
    → IsQuotientLine g (wide_line r) (wide_line m)
    → AreQuotients g (wide_lines (take (k + 1) rs)) (wide_lines (qs ++ m ∷ []))
quotient_rows g rs qs k r m lt is q h =
    rw (mapped_more wide_line rs k r lt, ← is, mapped_push wide_line qs m)
    (quotients_more g (wide_lines (take k rs)) (wide_lines qs) (wide_line r) (wide_line m) q h)
