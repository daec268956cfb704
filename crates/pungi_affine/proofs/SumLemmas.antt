-- Adding vectors to a span, one after the other: a step, and what the steps make together.
use Rattle.std.proofs.Common.{◌≡◌, ◌∙◌, ℕ, zero, suc, ◌+◌, ◌<◌, ◌≤◌, ◌^◌, inl, inr, ℤ, pos, Bool, true, false, List, []}
use Rattle.std.proofs.Common.{◌∷◌, ◌++◌, length, map, take, drop, slice_index_or, refl, sym, ap, subst, arith}
use Rattle.std.proofs.lemmas.Int.{ints}
use Rattle.std.proofs.lemmas.Bool.{false≢true}
use Rattle.std.proofs.lemmas.List.{take_more, map-append, length-map}
use Rattle.pungi_domain.specs.Vectors.{Vector, at, Follows, Either, IsWithin}
use Rattle.pungi_domain.specs.Spans.{Plus, LargeSum, LargeSums, LargeGrow, AreScaledRows}
use Rattle.pungi_affine.specs.Spans.{InSpan, SameMembers}
use Rattle.pungi_affine.specs.Forms.{Line, line, vectors, WithinBox}
use Rattle.pungi_affine.specs.States.{SpanState, SpanMember, IsKept}
use Rattle.pungi_affine.specs.Adds.{Adds}
use Rattle.pungi_affine.specs.Sums.{Sums, IsStep, IsSum, row_vectors, given_vectors, given_at}
use Rattle.pungi_affine.specs.declared.sum.Given.{Given}
use Rattle.pungi_affine.proofs.Closure.{in_zero, in_trans}
use Rattle.pungi_affine.proofs.Reduced.{vectors_at, vectors_length, row_in}
use Rattle.pungi_affine.proofs.Members.{same_self, same_swap, same_chain, plus_same, large_sum_same, large_sums_same}
use Rattle.pungi_affine.proofs.Members.{SameVectors}
use Rattle.pungi_affine.proofs.AddLemmas.{member_plus}
use Rattle.pungi_affine.proofs.Sums.{sums_has, sums_meet, sums_more, large_more, large_on}
use Rattle.pungi_affine.proofs.Scaled.{scaled_rows, only_rows, row_at, row_length}

pub step_none : (s : SpanState) (b : Bool) (v : Vector) → SpanMember s v → IsStep s b v s b
step_none s b v m = record {
  width = refl;
  members = member_plus s.width (vectors s.lines) v m;
  unchanged = λ e. (refl, e);
  rose = λ e. inr (refl, e);
  few = λ h. h;
}

pub step_some : (s : SpanState) (b : Bool) (v : Vector) (t : SpanState) → Adds s v t → IsStep s b v t true
step_some s b v t h = record {
  width = h.width;
  members = h.members;
  unchanged = λ e. absurd (false≢true (sym e));
  rose = λ e. inl (let m = h.more in omega (arith, m));
  few = λ f. h.few;
}

pub sum_none : (s : SpanState) → IsSum s [] s false
sum_none s = record {
  width = refl;
  members = same_self (SpanMember s);
  unchanged = λ e. refl;
  rose = λ e. absurd (false≢true e);
  few = λ h. h;
}

pub sum_step : (s : SpanState) (us : List Vector) (t : SpanState) (b : Bool) (v : Vector) (t' : SpanState)
    (b' : Bool) → IsSum s us t b → IsStep t b v t' b' → IsSum s (us ++ v ∷ []) t' b'
sum_step s us t b v t' b' h k = record {
  width = k.width ∙ h.width;
  members = same_chain (Sums s.width (SpanMember s) (us ++ v ∷ [])) (Plus s.width (Sums s.width (SpanMember s) us)
      v) (SpanMember t')
      (same_swap (Plus s.width (Sums s.width (SpanMember s) us) v) (Sums s.width (SpanMember s) (us ++ v ∷ []))
      (sums_more s.width (SpanMember s) us v))
      (same_chain (Plus s.width (Sums s.width (SpanMember s) us) v) (Plus s.width (SpanMember t) v) (SpanMember t')
      (plus_same s.width (Sums s.width (SpanMember s) us) (SpanMember t) h.members v v (λ i lt. refl))
      (subst (λ (n : ℕ). SameMembers (Plus n (SpanMember t) v) (SpanMember t')) h.width k.members));
  unchanged = λ e. (let u = k.unchanged e in u.0 ∙ h.unchanged u.1);
  rose = λ e. elim (k.rose e) [
    | inl more ↦ (let l = at_least b refl in omega (arith, more, l))
    | inr same ↦ subst (λ (x : SpanState). length s.lines < length x.lines) (sym same.0) (h.rose same.1)
  ];
  few = λ f. k.few (h.few f);
}
  where
    at_least : (c : Bool) → b ≡ c → length s.lines ≤ length t.lines
    at_least true e = (let l = h.rose e in omega (arith, l))
    at_least false e = (let l : length t.lines ≡ length s.lines = ap (λ x. length x.lines) (h.unchanged e) in omega
        (arith, l))

pub small_step : (s : SpanState) (us : List Vector) (t : SpanState) (b : Bool) (v : Vector) → IsSum s us t b
    → ((r : List ℤ) → LargeSums s.width (SpanMember s) us r → ⊥)
    → ((r : List ℤ) → LargeSum t.width (SpanMember t) v r → ⊥) → (r : List ℤ)
    → LargeSums s.width (SpanMember s) (us ++ v ∷ []) r → ⊥
small_step s us t b v h none last r l = elim (large_more s.width (SpanMember s) us v r l) [
  | inl a ↦ none r a
  | inr a ↦ last r (subst (λ (n : ℕ). LargeSum n (SpanMember t) v r) (sym h.width)
      (large_sum_same s.width (Sums s.width (SpanMember s) us) (SpanMember t) h.members v v (λ i lt. refl) r a))
]

pub large_step : (s : SpanState) (us : List Vector) (t : SpanState) (b : Bool) (v : Vector) (vs : List Vector)
    → IsSum s us t b → (r : List ℤ) → LargeSum t.width (SpanMember t) v r
    → LargeSums s.width (SpanMember s) (us ++ v ∷ vs) r
large_step s us t b v vs h r l = large_on s.width (SpanMember s) us v vs r
    (large_sum_same s.width (SpanMember t) (Sums s.width (SpanMember s) us)
    (same_swap (Sums s.width (SpanMember s) us) (SpanMember t) h.members) v v (λ i lt. refl) r
    (subst (λ (n : ℕ). LargeSum n (SpanMember t) v r) h.width l))

-- given vectors
abbrev pub given_vector : Given → Vector
given_vector g = at g.entries.items

pub given_more : (gs : List Given) (k : ℕ) (g : Given) → k < length gs → g ≡ slice_index_or gs k g
    → given_vectors (take (k + 1) gs) ≡ given_vectors (take k gs) ++ given_vector g ∷ []
given_more gs k g lt is = rw (take_more gs k g lt, ← is) (map-append given_vector (take k gs) (g ∷ []))

pub given_split : (gs : List Given) (k : ℕ) (g : Given) → k < length gs → g ≡ slice_index_or gs k g
    → given_vectors (take k gs) ++ given_vector g ∷ given_vectors (drop (k + 1) gs) ≡ given_vectors gs
given_split [] k g lt is = absurd (omega arith)
given_split (x ∷ gs) zero g lt is = ap (λ y. given_vector y ∷ given_vectors gs) is
given_split (x ∷ gs) (suc k) g lt is =
    (let n : suc k + 1 ≡ suc (k + 1) = omega arith in rw n (ap (λ ys. given_vector x ∷ ys)
    (given_split gs k g (omega (arith, lt)) is)))

pub given_is : (gs : List Given) (k : ℕ) (g : Given) → k < length gs → g ≡ slice_index_or gs k g
    → given_at gs k ≡ g.entries.items
given_is [] k g lt is = absurd (omega arith)
given_is (x ∷ gs) zero g lt is = ap (λ y. y.entries.items) (sym is)
given_is (x ∷ gs) (suc k) g lt is = given_is gs k g (omega (arith, lt)) is

-- adding the rows of a span
pub grow_to : (s t : SpanState) → IsKept t.width t.scale t.lines → t.width ≡ s.width → (r : List ℤ)
    → LargeSums s.width (SpanMember s) (row_vectors t.lines) r → LargeGrow s.width (SpanMember s) (SpanMember t) r
grow_to s t kept e r h = (
  row_vectors t.lines,
  subst (λ (n : ℕ). AreScaledRows n (SpanMember t) (row_vectors t.lines)) e
      (scaled_rows t.width t.scale t.lines kept),
  h,
)

pub grow_back : (s t : SpanState) → IsKept t.width t.scale t.lines → t.width ≡ s.width → (r : List ℤ)
    → LargeGrow s.width (SpanMember s) (SpanMember t) r → LargeSums s.width (SpanMember s) (row_vectors t.lines) r
grow_back s t kept e r h =
    let a : AreScaledRows t.width (SpanMember t) h.0 = subst (λ (n : ℕ). AreScaledRows n (SpanMember t) h.0) (sym e)
    h.1 in
    let same = subst (λ (n : ℕ). SameVectors n h.0 (row_vectors t.lines)) e
    (only_rows t.width t.scale t.lines kept h.0 a) in
    large_sums_same s.width (SpanMember s) (SpanMember s) (same_self (SpanMember s)) h.0 (row_vectors t.lines) same
    r h.2

pub grow_taken : (s t u : SpanState) (b : Bool) → t.width ≡ s.width → IsSum s (row_vectors t.lines) u b
    → (v : Vector) → SpanMember t v → SpanMember u v
grow_taken s t u b e h v m =
    in_trans u.width (vectors u.lines) (vectors t.lines) v each (subst (λ (n : ℕ). InSpan n (vectors t.lines) v)
    (e ∙ sym h.width) m)
  where
    each : (k : ℕ) (d : List ℤ) → k < length (vectors t.lines)
        → InSpan u.width (vectors u.lines) (at (slice_index_or (vectors t.lines) k d))
    each k d lt =
        let l : k < length t.lines = (let n = vectors_length t.lines in omega (arith, n, lt)) in
        rw (vectors_at t.lines k d l) (subst (λ (x : Vector). SpanMember u x) (row_at t.lines k l)
        (h.members.to (slice_index_or (row_vectors t.lines) k (λ _. pos 0)) (sums_has s.width (SpanMember s)
        (row_vectors t.lines) k (λ _. pos 0) (in_zero s.width (vectors s.lines) (λ i. pos 0) (λ i lt. refl))
        (let n = row_length t.lines in omega (arith, n, l)))))

pub grow_least : (s t u : SpanState) (b : Bool) → IsKept t.width t.scale t.lines → t.width ≡ s.width
    → IsSum s (row_vectors t.lines) u b → Follows s.width (Either (SpanMember s) (SpanMember t)) (SpanMember u)
grow_least s t u b kept e h es len meets v m =
    sums_meet s.width (SpanMember s) (row_vectors t.lines) es len (λ x p. meets x (inl p))
    (λ k lt. let l : k < length t.lines = (let n = row_length t.lines in omega (arith, n, lt)) in rw
    (row_at t.lines k l) (meets (at (line t.lines k).entries) (inr (row_in t.width t.scale t.lines kept.form k
    l)))) v (h.members.back v m)

-- the rows of a span as given vectors
given_map : (gs : List Given) → given_vectors gs ≡ map at (map (λ g. g.entries.items) gs)
given_map [] = refl
given_map (g ∷ gs) = ap (λ vs. at g.entries.items ∷ vs) (given_map gs)

row_map : (ls : List Line) → row_vectors ls ≡ map at (map (λ l. l.entries) ls)
row_map [] = refl
row_map (l ∷ ls) = ap (λ vs. at l.entries ∷ vs) (row_map ls)

pub given_rows : (gs : List Given) (ls : List Line) → map (λ g. g.entries.items) gs ≡ map (λ l. l.entries) ls
    → given_vectors gs ≡ row_vectors ls
given_rows gs ls e = given_map gs ∙ ap (λ xs. map at xs) e ∙ sym (row_map ls)

pub given_row : (gs : List Given) (ls : List Line) → map (λ g. g.entries.items) gs ≡ map (λ l. l.entries) ls
    → (k : ℕ) → k < length gs → (k < length ls) × (given_at gs k ≡ (line ls k).entries)
given_row gs ls e k lt =
    let n : length gs ≡ length ls = sym (length-map gs (λ g. g.entries.items)) ∙ ap length e
    ∙ length-map ls (λ l. l.entries) in
    let l : k < length ls = omega (arith, n, lt) in
    (l, ap (λ xs. slice_index_or xs k []) e ∙ vectors_at ls k [] l)

pub box_within : (ls : List Line) (k : ℕ) → WithinBox (line ls k).entries → (i : ℕ) → i < length (line ls k).entries
    → IsWithin (2 ^ 126) (at (line ls k).entries i)
box_within ls k h i lt =
    (let b = h i lt in ((let x = b.0 in omega (arith, ints, x)), (let x = b.1 in omega (arith, ints, x))))
