-- What adding a vector makes of a span, by the vector's part.
use Rattle.std.proofs.Common.{◌≡◌, ◌∙◌, ℕ, zero, suc, ◌*◌, ◌<◌, ◌≤◌, ◌^◌, inl, inr, ℤ, pos, negsuc, ◌+ℤ◌, ◌*ℤ◌, List}
use Rattle.std.proofs.Common.{[], ◌∷◌, length, Option, None, Some, refl, sym, ap, subst, arith}
use Rattle.std.proofs.lemmas.Int.{ints, unsigned_abs-mul}
use Rattle.std.specs.Int.RustNames.{unsigned_abs}
use Rattle.pungi_domain.specs.Vectors.{Vector, at, IsWithin}
use Rattle.pungi_domain.specs.Spans.{Zero, Plus, IsOutside, LargeRow, LargeSum}
use Rattle.pungi_domain.specs.Ring.{product_zero}
use Rattle.pungi_affine.specs.Spans.{InSpan, SameMembers}
use Rattle.pungi_affine.specs.Forms.{Line, line, vectors, IsForm, IsCoprime, WithinBox}
use Rattle.pungi_affine.specs.Parts.{IsLong, AreLong, IsPivotPart}
use Rattle.pungi_affine.specs.WideForms.{IsWideForm}
use Rattle.pungi_affine.specs.Mixes.{IsWide, IsResidual}
use Rattle.pungi_affine.specs.Steps.{residual}
use Rattle.pungi_affine.specs.States.{SpanState, SpanMember, IsKept}
use Rattle.pungi_affine.specs.Adds.{AddsTo, IsChange, joined}
use Rattle.pungi_affine.specs.declared.add.Change.{Change}
use Rattle.pungi_affine.specs.declared.add.Change.TheVariants.{Nothing, Plain, Other}
use Rattle.pungi_affine.proofs.Closure.{in_same, in_sum, in_part, in_zero}
use Rattle.pungi_affine.proofs.Reduced.{zero_mul, passes_in, in_passes, row_in, d_not_zero}
use Rattle.pungi_affine.proofs.Members.{same_swap, same_chain, plus_same, plus_span, zero_span, part_same}
use Rattle.pungi_affine.proofs.Members.{large_row_same}
use Rattle.pungi_affine.proofs.Products.{abs_bound, bound_abs}
use Rattle.pungi_affine.proofs.LargeRows.{large_row_of, kept_of, kept_not_large}
use Rattle.pungi_affine.proofs.SpanLemmas.{none_kept}

-- a factor other than 0 takes a number no nearer to 0
pub factor_within : (n : ℕ) (t y : ℤ) → (t ≡ pos 0 → ⊥) → IsWithin n (t *ℤ y) → IsWithin n y
factor_within n t y ne h =
    bound_abs n y (go (unsigned_abs t) refl (rw (← unsigned_abs-mul t y) (abs_bound n (t *ℤ y) h)))
  where
    abs_zero : (a : ℤ) → unsigned_abs a ≡ 0 → a ≡ pos 0
    abs_zero (pos m) e = ap pos e
    abs_zero (negsuc m) e = absurd (omega (arith, e))

    go : (m : ℕ) → unsigned_abs t ≡ m → unsigned_abs t * unsigned_abs y ≤ n → unsigned_abs y ≤ n
    go zero e l = absurd (ne (abs_zero t e))
    go (suc m) e l = (let f : suc m * unsigned_abs y ≤ n = rw (← e) l in let k : unsigned_abs y
        ≤ suc m * unsigned_abs y = omega arith in omega (arith, f, k))

pub long_of : (n : ℕ) (z : ℤ) → n < 2 ^ 127 → IsWithin n z → IsLong z
long_of n z lt h = ((let a = h.0 in omega (arith, ints, lt, a)), (let b = h.1 in omega (arith, ints, lt, b)))

-- a vector that is a member changes nothing
pub member_plus : (w : ℕ) (vs : List (List ℤ)) (v : Vector) → InSpan w vs v
    → SameMembers (Plus w (InSpan w vs) v) (InSpan w vs)
member_plus w vs v m = record {
  to = λ x h. in_part w vs h.times x h.not_zero (in_same w vs (λ i. (pos 1 *ℤ h.part i) +ℤ (h.factor *ℤ v i))
      (λ i. h.times *ℤ x i) (λ i lt. let e = h.exact i lt in omega (arith, ints, e))
      (in_sum w vs (pos 1) h.factor h.part v h.part_in m));
  back = λ x h. record {
    times = pos 1;
    not_zero = λ e. absurd (omega (arith, ints, e));
    part = x;
    part_in = h;
    factor = pos 0;
    exact = λ i lt. let z = zero_mul (v i) in omega (arith, ints, z);
  };
}

-- the span of one part
module _ (w : ℕ) (v : List ℤ) (len : length v ≡ w) (q : ℕ) (p : List ℤ) (part : IsPivotPart v q p) where
  abbrev alone : List Line
  alone = record { pivot = q; entries = p } ∷ []

  p_len : length p ≡ w
  p_len = part.is.lengths ∙ len

  q_in : q < w
  q_in = (let h = part.within in omega (arith, len, h))

  first_only : (k : ℕ) → k < 1 → k ≡ 0
  first_only k lt = omega (arith, lt)

  alone_form : IsForm w (at p q) alone
  alone_form = record {
    positive = part.is.positive;
    within = λ k lt. subst (λ (j : ℕ). (line alone j).pivot < w) (sym (first_only k lt)) q_in;
    own = λ k lt. subst (λ (j : ℕ). at (line alone j).entries (line alone j).pivot ≡ at p q) (sym (first_only k lt))
        refl;
    others = λ j k j_lt k_lt ne. absurd (ne (first_only j j_lt ∙ sym (first_only k k_lt)));
    before = λ k i lt i_lt. subst (λ (j : ℕ). at (line alone j).entries i ≡ pos 0) (sym (first_only k lt))
        (part.before i (subst (λ (j : ℕ). i < (line alone j).pivot) (first_only k lt) i_lt));
  }

  alone_coprime : IsCoprime w (at p q) alone
  alone_coprime m e h all = part.is.coprime m e (λ i lt. all 0 i (omega arith) (omega (arith, len, lt)))

  pub alone_wide : w ≤ 256 → AreLong p → IsWideForm w (at p q) alone
  alone_wide narrow long = record {
    narrow = narrow;
    few = (let h = q_in in omega (arith, h));
    form = alone_form;
    order = λ j k lt k_lt. absurd (omega (arith, lt, k_lt));
    scale = long q (let h = q_in in let l = p_len in omega (arith, h, l));
    widths = λ k lt. subst (λ (j : ℕ). length (line alone j).entries ≡ w) (sym (first_only k lt)) p_len;
    long = λ k lt. subst (λ (j : ℕ). AreLong (line alone j).entries) (sym (first_only k lt)) long;
  }

  exact : (i : ℕ) → i < w → at v i ≡ part.is.times *ℤ at p i
  exact i lt = part.is.exact i (omega (arith, len, lt))

  -- the span of v alone is that of the part
  alone_same : SameMembers (Plus w (Zero w) (at v)) (InSpan w (vectors alone))
  alone_same = same_chain (Plus w (Zero w) (at v)) (Plus w (InSpan w []) (at v)) (InSpan w (vectors alone))
      (plus_same w (Zero w) (InSpan w []) (zero_span w) (at v) (at v) (λ i lt. refl))
      (same_chain (Plus w (InSpan w []) (at v)) (InSpan w (v ∷ [])) (InSpan w (vectors alone)) (plus_span w [] v)
      (part_same w part.is.times v p [] part.is.not_zero exact))

  pub part_plus : (vs : List (List ℤ)) → SameMembers (Plus w (InSpan w vs) (at v)) (InSpan w (p ∷ vs))
  part_plus vs = same_chain (Plus w (InSpan w vs) (at v)) (InSpan w (v ∷ vs)) (InSpan w (p ∷ vs)) (plus_span w vs v)
      (part_same w part.is.times v p vs part.is.not_zero exact)

  pub part_member : (vs : List (List ℤ)) → InSpan w vs (at p) → InSpan w vs (at v)
  part_member vs m = in_same w vs (λ i. (part.is.times *ℤ at p i) +ℤ (pos 0 *ℤ at p i)) (at v)
      (λ i lt. let e = exact i lt in let z = zero_mul (at p i) in omega (arith, ints, e, z))
      (in_sum w vs part.is.times (pos 0) (at p) (at p) m m)

  pub member_part : (vs : List (List ℤ)) → InSpan w vs (at v) → InSpan w vs (at p)
  member_part vs m = in_part w vs part.is.times (at p) part.is.not_zero (in_same w vs (at v)
      (λ i. part.is.times *ℤ at p i) (λ i lt. sym (exact i lt)) m)

  pub alone_large : w ≤ 256 → AreLong p → (o : (i : ℕ) × (i < length p) × IsOutside (at p i))
      → LargeRow w (Plus w (Zero w) (at v)) p
  alone_large narrow long o = large_row_same w (InSpan w (vectors alone)) (Plus w (Zero w) (at v))
      (same_swap (Plus w (Zero w) (at v)) (InSpan w (vectors alone)) alone_same) p
      (large_row_of w (at p q) alone (alone_wide narrow long) alone_coprime 0
      (record { within = omega arith; i = o.0; i_in = o.1; outside = o.2 }) p
      (record {
        lengths = refl;
        times = pos 1;
        not_zero = λ e. absurd (omega (arith, ints, e));
        exact = λ i lt. omega (arith, ints);
        positive = part.is.positive;
        coprime = λ m e all. part.is.coprime m e (λ i lt. all i (let l = part.is.lengths in omega (arith, l, lt)));
      }))

  pub alone_small : w ≤ 256 → AreLong p → WithinBox p → (r : List ℤ) → LargeRow w (Plus w (Zero w) (at v)) r → ⊥
  alone_small narrow long box r h = kept_not_large w (at p q) alone
      (kept_of w (at p q) alone (alone_wide narrow long) alone_coprime (λ k lt. subst
      (λ (j : ℕ). WithinBox (line alone j).entries) (sym (first_only k lt)) box)) r
      (large_row_same w (Plus w (Zero w) (at v)) (InSpan w (vectors alone)) alone_same r h)

-- adding a member is not large
pub member_not_large : (w : ℕ) (d : ℤ) (ls : List Line) (v : Vector) → IsKept w d ls → InSpan w (vectors ls) v
    → ((r : List ℤ) → LargeRow w (Plus w (Zero w) v) r → ⊥) → (r : List ℤ) → LargeSum w (InSpan w (vectors ls)) v r
    → ⊥
member_not_large w d ls v kept m none r (inl h) = none r h
member_not_large w d ls v kept m none r (inr h) =
    kept_not_large w d ls kept r (large_row_same w (Plus w (InSpan w (vectors ls)) v) (InSpan w (vectors ls))
    (member_plus w (vectors ls) v m) r h)

-- nor is adding the vector 0
pub zero_not_large : (w : ℕ) (d : ℤ) (ls : List Line) (v : Vector) → IsKept w d ls → ((i : ℕ) → i < w → v i ≡ pos 0)
    → (r : List ℤ) → LargeSum w (InSpan w (vectors ls)) v r → ⊥
zero_not_large w d ls v kept zeros r h = member_not_large w d ls v kept (in_zero w (vectors ls) v zeros)
    (λ s l. kept_not_large w (pos 1) [] (none_kept w kept.narrow) s
    (large_row_same w (Plus w (Zero w) v) (InSpan w []) (same_chain (Plus w (Zero w) v) (Plus w (InSpan w []) v)
    (InSpan w []) (plus_same w (Zero w) (InSpan w []) (zero_span w) v v (λ i lt. refl))
    (member_plus w [] v (in_zero w [] v zeros))) s l)) r h

-- what is left of a vector shows whether it is a member
pub left_member : (w : ℕ) (d : ℤ) (ls : List Line) (p u : List ℤ) → IsKept w d ls → length p ≡ w
    → IsResidual d ls p u → ((i : ℕ) → i < length u → at u i ≡ pos 0) → InSpan w (vectors ls) (at p)
left_member w d ls p u kept len left zeros = passes_in w d ls kept.form (at p) (λ i lt.
    let i_p : i < length p = omega (arith, len, lt) in
    let e = left.each i i_p in
    let z = zeros i (let n = left.lengths in omega (arith, n, i_p)) in
    omega (arith, ints, e, z))

pub nothing_left : (w : ℕ) (d : ℤ) (ls : List Line) (p : List ℤ) → IsKept w d ls → length p ≡ w
    → ((i : ℕ) → i < length p → residual d ls (at p) i ≡ pos 0) → InSpan w (vectors ls) (at p)
nothing_left w d ls p kept len zeros = passes_in w d ls kept.form (at p) (λ i lt.
    let z = zeros i (omega (arith, len, lt)) in omega (arith, ints, z))

-- a multiple of a row is a member
pub multiple_member : (w : ℕ) (d : ℤ) (ls : List Line) (p : List ℤ) → IsKept w d ls → length p ≡ w
    → (h : (k : ℕ) × (k < length ls) × ((i : ℕ) → i < length p
    → d *ℤ at p i ≡ at p (line ls k).pivot *ℤ at (line ls k).entries i)) → InSpan w (vectors ls) (at p)
multiple_member w d ls p kept len h =
    let row : Vector = at (line ls h.0).entries in
    let m = row_in w d ls kept.form h.0 h.1 in
    in_part w (vectors ls) d (at p) (d_not_zero w d ls kept.form) (in_same w (vectors ls)
    (λ i. (at p (line ls h.0).pivot *ℤ row i) +ℤ (pos 0 *ℤ row i)) (λ i. d *ℤ at p i)
    (λ i lt. let e = h.2 i (omega (arith, len, lt)) in let z = zero_mul (row i) in omega (arith, ints, e, z))
    (in_sum w (vectors ls) (at p (line ls h.0).pivot) (pos 0) row row m m))

pub left_no_member : (w : ℕ) (d : ℤ) (ls : List Line) (p u : List ℤ) (q : ℕ) (n : List ℤ) → IsKept w d ls
    → length p ≡ w → IsResidual d ls p u → IsPivotPart u q n → InSpan w (vectors ls) (at p) → ⊥
left_no_member w d ls p u q n kept len left part m =
    let q_p : q < length p = (let l = left.lengths in let h = part.within in omega (arith, l, h)) in
    let e = left.each q q_p in
    let f = in_passes w d ls kept.form (at p) m q (omega (arith, len, q_p)) in
    let x = part.is.exact q part.within in
    let z : part.is.times *ℤ at n q ≡ pos 0 = omega (arith, ints, e, f, x) in
    let g = part.is.positive in
    elim (product_zero part.is.times (at n q) z) [
      | inl y ↦ part.is.not_zero y
      | inr y ↦ absurd
          (omega (arith, ints, y, g))
    ]

-- how large the entries of parts are
pub part_within : (n : ℕ) (v : List ℤ) (q : ℕ) (p : List ℤ) → IsPivotPart v q p
    → ((i : ℕ) → i < length v → IsWithin n (at v i)) → (i : ℕ) → i < length p → IsWithin n (at p i)
part_within n v q p part h i lt =
    let i_v : i < length v = (let l = part.is.lengths in omega (arith, l, lt)) in
    factor_within n part.is.times (at p i) part.is.not_zero (subst (λ (z : ℤ). IsWithin n z) (part.is.exact i i_v)
    (h i i_v))

pub part_wide : (d : ℤ) (ls : List Line) (v u : List ℤ) (q : ℕ) (p : List ℤ) → IsResidual d ls v u
    → IsPivotPart u q p → (i : ℕ) → i < length p → IsWide (at p i)
part_wide d ls v u q p left part i lt =
    let h = part_within (2 ^ 71) u q p part (λ j l. left.within j (let n = left.lengths in omega (arith, n, l))) i lt in
    ((let a = h.0 in omega (arith, ints, a)), (let b = h.1 in omega (arith, ints, b)))

-- what was added to the part is added to the vector
pub adds_part : (s : SpanState) (v p : List ℤ) (q : ℕ) → length v ≡ s.width → IsPivotPart v q p
    → (o : Option SpanState) → AddsTo s (at p) o → AddsTo s (at v) o
adds_part s v p q len part None h = part_member s.width v len q p part (vectors s.lines) h
adds_part s v p q len part (Some t) h = record {
  width = h.width;
  more = h.more;
  few = h.few;
  members = same_chain (Plus s.width (SpanMember s) (at v)) (Plus s.width (SpanMember s) (at p)) (SpanMember t)
      (same_chain (Plus s.width (SpanMember s) (at v)) (InSpan s.width (p ∷ vectors s.lines))
      (Plus s.width (SpanMember s) (at p)) (part_plus s.width v len q p part (vectors s.lines))
      (same_swap (Plus s.width (SpanMember s) (at p)) (InSpan s.width (p ∷ vectors s.lines))
      (plus_span s.width (vectors s.lines) p)))
      h.members;
  new = λ m. h.new (member_part s.width v len q p part (vectors s.lines) m);
}

pub change_part : (s : SpanState) (v p : List ℤ) (q : ℕ) → length v ≡ s.width → IsPivotPart v q p → (c : Change)
    → IsChange s (at p) c → IsChange s (at v) c
change_part s v p q len part Nothing h = adds_part s v p q len part None h
change_part s v p q len part (Plain r) h = record {
  plain = h.plain;
  adds = λ ms j. adds_part s v p q len part (Some (joined s ms)) (h.adds ms j);
}
change_part s v p q len part (Other t) h = adds_part s v p q len part (Some t) h

pub plus_part : (s : SpanState) (v p : List ℤ) (q : ℕ) → length v ≡ s.width → IsPivotPart v q p
    → SameMembers (Plus s.width (SpanMember s) (at p)) (Plus s.width (SpanMember s) (at v))
plus_part s v p q len part =
    same_chain (Plus s.width (SpanMember s) (at p)) (InSpan s.width (p ∷ vectors s.lines))
    (Plus s.width (SpanMember s) (at v)) (plus_span s.width (vectors s.lines) p)
    (same_swap (Plus s.width (SpanMember s) (at v)) (InSpan s.width (p ∷ vectors s.lines))
    (part_plus s.width v len q p part (vectors s.lines)))
