-- What the kept rows say of the span: its pivots, and the equations that all its vectors meet.
use Rattle.std.proofs.Common.{◌≡◌, ◌∙◌, ℕ, zero, suc, ◌<◌, ◌≤◌, ℤ, pos, List, [], ◌∷◌, refl, length, map, sym, arith}
use Rattle.std.proofs.Common.{slice_index_or}
use Rattle.std.proofs.lemmas.Int.{ints}
use Rattle.std.proofs.lemmas.List.{length-map}
use Rattle.pungi_domain.specs.Vectors.{Vector, at, dot}
use Rattle.pungi_affine.specs.Spans.{InSpan, IsDimension}
use Rattle.pungi_affine.specs.Forms.{Line, line, vectors, IsForm}
use Rattle.pungi_affine.specs.States.{IsKept}
use Rattle.pungi_affine.proofs.Reduced.{pivot_is, pivot_of, distinct, row_in, vectors_at, vectors_length}
use Rattle.pungi_affine.proofs.Dots.{member_meets}

pub none_kept : (w : ℕ) → w ≤ 256 → IsKept w (pos 1) []
none_kept w le = record {
  narrow = le;
  few = omega arith;
  form = record {
    positive = omega (arith, ints);
    within = λ k lt. absurd (omega (arith, lt));
    own = λ k lt. absurd (omega (arith, lt));
    others = λ j k lt. absurd (omega (arith, lt));
    before = λ k i lt. absurd (omega (arith, lt));
  };
  order = λ j k lt k_lt. absurd (omega (arith, k_lt));
  coprime = λ m e h all. record { by = h.by; is = (let x = h.is in omega (arith, ints, x)) };
  scale = (omega (arith, ints), omega (arith, ints));
  widths = λ k lt. absurd (omega (arith, lt));
  small = λ k lt. absurd (omega (arith, lt));
}

pivots : List Line → List ℕ
pivots ls = map (λ l. l.pivot) ls

pivot_at : (ls : List Line) (k : ℕ) → k < length ls → slice_index_or (pivots ls) k 0 ≡ (line ls k).pivot
unfolding pivots
pivot_at [] k lt = absurd (omega arith)
pivot_at (l ∷ ls) zero lt = refl
pivot_at (l ∷ ls) (suc k) lt = pivot_at ls k (omega (arith, lt))

pub dimension_is : (w : ℕ) (d : ℤ) (ls : List Line) → IsForm w d ls → IsDimension w (InSpan w (vectors ls)) (length ls)
unfolding pivots
dimension_is w d ls form = record {
  pivots = pivots ls;
  count = length-map ls (λ l. l.pivot);
  each = λ k lt. rw (pivot_at ls k lt) (pivot_is w d ls form k lt);
  once = λ j k j_lt k_lt e. distinct w d ls form j k j_lt k_lt (sym (pivot_at ls j j_lt) ∙ e ∙ pivot_at ls k k_lt);
  all = λ q p. let f = pivot_of w d ls form q p in (f.0, f.1, pivot_at ls f.0 f.1 ∙ f.2);
}

pub all_meet : (w : ℕ) (ls : List Line) (e : List ℤ) → length e ≡ w
    → ((k : ℕ) → k < length ls → dot e (at (line ls k).entries) ≡ pos 0) → (v : Vector) → InSpan w (vectors ls) v
    → dot e v ≡ pos 0
all_meet w ls e width h v m =
    member_meets w e (vectors ls) v (omega (arith, width)) (λ k d lt. let k_lt : k
    < length ls = (let n = vectors_length ls in omega (arith, n, lt)) in rw (vectors_at ls k d k_lt) (h k k_lt)) m

pub one_fails : (w : ℕ) (d : ℤ) (ls : List Line) (e : List ℤ) (k : ℕ) → IsForm w d ls → k < length ls
    → (dot e (at (line ls k).entries) ≡ pos 0 → ⊥) → (v : Vector) × InSpan w (vectors ls) v × (dot e v ≡ pos 0 → ⊥)
one_fails w d ls e k form lt n = (at (line ls k).entries, row_in w d ls form k lt, n)
