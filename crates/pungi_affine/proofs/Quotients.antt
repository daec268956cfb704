-- A form divided by the common divisor of its numbers.
use Rattle.std.proofs.Common.{◌≡◌, ◌∙◌, ℕ, zero, suc, ◌*◌, ◌<◌, ◌≤◌, inl, inr, ℤ, pos, negsuc, ◌+ℤ◌, ◌*ℤ◌, ◌<ℤ◌, List}
use Rattle.std.proofs.Common.{length, slice_index_or, sym, arith}
use Rattle.std.proofs.lemmas.Int.{ints}
use Rattle.pungi_domain.specs.Vectors.{at}
use Rattle.pungi_domain.specs.Ring.{product_zero, cancel}
use Rattle.pungi_affine.specs.Spans.{InSpan}
use Rattle.pungi_affine.specs.Forms.{Line, line, vectors, IsForm, IsCoprime}
use Rattle.pungi_affine.specs.Divisors.{IsShared}
use Rattle.pungi_affine.specs.Parts.{IsLong}
use Rattle.pungi_affine.specs.WideForms.{AreQuotients, IsWideForm, IsLeastForm}
use Rattle.pungi_affine.proofs.Closure.{in_same, in_sum, in_part, in_trans}
use Rattle.pungi_affine.proofs.Reduced.{zero_mul, vectors_at, vectors_length, row_in}
use Rattle.pungi_affine.proofs.Next.{factor_positive}
use Rattle.pungi_affine.proofs.Coprime.{quotients_coprime, divisor_out}

-- a factor above 0 takes a number no nearer to 0
part_long : (g y : ℤ) → pos 0 <ℤ g → IsLong (g *ℤ y) → IsLong y
part_long (negsuc n) y gt h = absurd (omega (arith, ints, gt))
part_long (pos zero) y gt h = absurd (omega (arith, ints, gt))
part_long (pos (suc m)) (pos n) gt h =
    (let l : n ≤ suc m * n = omega arith in let a = h.0 in omega (arith, ints, l, a), omega (arith, ints))
part_long (pos (suc m)) (negsuc n) gt h =
    (omega (arith, ints), let l : suc n ≤ suc m * suc n = omega arith in let a = h.1 in omega (arith, ints, l, a))

module _ (w : ℕ) (d : ℤ) (ls : List Line) (wide : IsWideForm w d ls) (g d' : ℤ) (gt : pos 0 <ℤ g)
    (scale : g *ℤ d' ≡ d) (ms : List Line) (q : AreQuotients g ls ms) where
  g_not : g ≡ pos 0 → ⊥
  g_not e = absurd (omega (arith, ints, gt, e))

  to_ls : (k : ℕ) → k < length ms → k < length ls
  to_ls k lt = (let e = q.count in omega (arith, e, lt))

  entry : (k i : ℕ) → k < length ls → i < w → g *ℤ at (line ms k).entries i ≡ at (line ls k).entries i
  entry k i lt i_lt = (q.each k lt).exact i (let e = wide.widths k lt in omega (arith, e, i_lt))

  zero_by : (x : ℤ) → g *ℤ x ≡ pos 0 → x ≡ pos 0
  zero_by x e = elim (product_zero g x e) [ inl y ↦ absurd (g_not y) | inr y ↦ y ]

  pivot_in : (k : ℕ) → k < length ls → (line ls k).pivot < w
  pivot_in k lt = wide.form.within k lt

  quotient_form : IsForm w d' ms
  quotient_form = record {
    positive = factor_positive g d' gt (let p = wide.form.positive in omega (arith, ints, p, scale));
    within = λ k lt. rw ((q.each k (to_ls k lt)).pivot) (pivot_in k (to_ls k lt));
    own = λ k lt. rw ((q.each k (to_ls k lt)).pivot) (cancel g (at (line ms k).entries (line ls k).pivot) d' g_not
        (entry k (line ls k).pivot (to_ls k lt) (pivot_in k (to_ls k lt)) ∙ wide.form.own k (to_ls k lt)
        ∙ sym scale));
    others = λ j k j_lt k_lt ne. rw ((q.each j (to_ls j j_lt)).pivot) (zero_by
        (at (line ms k).entries (line ls j).pivot) (entry k (line ls j).pivot (to_ls k k_lt)
        (pivot_in j (to_ls j j_lt)) ∙ wide.form.others j k (to_ls j j_lt) (to_ls k k_lt) ne));
    before = λ k i lt i_lt.
        let e = (q.each k (to_ls k lt)).pivot in
        let p = pivot_in k (to_ls k lt) in
        zero_by (at (line ms k).entries i) (entry k i (to_ls k lt) (omega (arith, e, p, i_lt))
        ∙ wide.form.before k i (to_ls k lt) (omega (arith, e, i_lt)));
  }

  ls_row : (k : ℕ) (e : List ℤ) → k < length (vectors ls) → InSpan w (vectors ms) (at (slice_index_or (vectors ls) k e))
  ls_row k e lt =
      let k_lt : k < length ls = (let n = vectors_length ls in omega (arith, n, lt)) in
      let m_lt : k < length ms = (let n = q.count in omega (arith, n, k_lt)) in
      rw (vectors_at ls k e k_lt) (
      in_same w (vectors ms) (λ i. (g *ℤ at (line ms k).entries i) +ℤ (pos 0 *ℤ at (line ms k).entries i))
      (at (line ls k).entries)
      (λ i i_lt. let f = entry k i k_lt i_lt in let z = zero_mul (at (line ms k).entries i) in omega
      (arith, ints, f, z))
      (in_sum w (vectors ms) g (pos 0) (at (line ms k).entries) (at (line ms k).entries)
      (row_in w d' ms quotient_form k m_lt) (row_in w d' ms quotient_form k m_lt)))

  ms_row : (k : ℕ) (e : List ℤ) → k < length (vectors ms) → InSpan w (vectors ls) (at (slice_index_or (vectors ms) k e))
  ms_row k e lt =
      let m_lt : k < length ms = (let n = vectors_length ms in omega (arith, n, lt)) in
      rw (vectors_at ms k e m_lt) (
      in_part w (vectors ls) g (at (line ms k).entries) g_not (in_same w (vectors ls) (at (line ls k).entries)
      (λ i. g *ℤ at (line ms k).entries i) (λ i i_lt. entry k i (to_ls k m_lt) i_lt)
      (row_in w d ls wide.form k (to_ls k m_lt))))

  quotient_wide : IsWideForm w d' ms
  quotient_wide = record {
    narrow = wide.narrow;
    few = (let e = q.count in let f = wide.few in omega (arith, e, f));
    form = quotient_form;
    order = λ j k lt k_lt. (let h = wide.order j k lt (to_ls k k_lt) in let a
        = (q.each j (to_ls j (omega (arith, lt, k_lt)))).pivot in let b = (q.each k (to_ls k k_lt)).pivot in omega
        (arith, h, a, b));
    scale = part_long g d' gt (rw scale wide.scale);
    widths = λ k lt. (q.each k (to_ls k lt)).lengths ∙ wide.widths k (to_ls k lt);
    long = λ k lt i i_lt.
        let e = (q.each k (to_ls k lt)).lengths in
        part_long g (at (line ms k).entries i) gt (rw ((q.each k (to_ls k lt)).exact i (omega (arith, e, i_lt)))
        (wide.long k (to_ls k lt) i (omega (arith, e, i_lt))));
  }

  quotient_coprime : IsShared d ls g → IsCoprime w d' ms
  quotient_coprime s m e h_d h_x =
      divisor_out g m e gt (s.combines (m *ℤ g) e (quotients_coprime g gt m e d d' (sym scale) h_d)
      (λ k lt i i_lt. quotients_coprime g gt m e (at (line ls k).entries i) (at (line ms k).entries i)
      (sym ((q.each k lt).exact i i_lt))
      (h_x k i (let n = q.count in omega (arith, n, lt)) (let n = wide.widths k lt in omega (arith, n, i_lt)))))

  pub quotient_least : IsShared d ls g → IsLeastForm w ls d' ms
  quotient_least s = record {
    wide = quotient_wide;
    coprime = quotient_coprime s;
    count = q.count;
    members = record {
      to = λ x. in_trans w (vectors ms) (vectors ls) x ls_row;
      back = λ x. in_trans w (vectors ls)
          (vectors ms) x ms_row;
    };
  }
