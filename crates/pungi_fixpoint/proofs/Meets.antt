-- Rows that all vectors of a set meet: what a guard and an action make of them.
use Rattle.std.proofs.Common.{◌≡◌, ◌∙◌, ℕ, suc, ◌+◌, ◌-◌, ◌<◌, ◌≤◌, inl, inr, Bool, true, cond, List, [], ◌∷◌, length}
use Rattle.std.proofs.Common.{Option, Some, ℤ, pos, ◌*ℤ◌, refl, ap, subst, arith, All, slice_index_or, nat_lt}
use Rattle.std.proofs.Common.{lt-ltb, le-ltb}
use Rattle.std.proofs.lemmas.Int.{ints}
use Rattle.std.proofs.lemmas.List.FromFn.{get_or-map-range_with_len}
use Rattle.std.proofs.lemmas.Bool.{cond-true, cond-false}
use Rattle.pungi_domain.specs.Annotations.{MeetsAll, MeetsRows, Sends}
use Rattle.pungi_domain.specs.Builds.{Acts, IsMet, source_rows, exit_rows}
use Rattle.pungi_domain.specs.Programs.{FitsAction}
use Rattle.pungi_domain.specs.Ring.{mul_zero}
use Rattle.pungi_domain.specs.Spans.{Zero}
use Rattle.pungi_domain.specs.Vectors.{Vector, Vectors, dot, image, row_sum, IsEquation, Image, Freed, Meeting}
use Rattle.pungi_domain.specs.Vectors.{Either, Follows}
use Rattle.pungi_domain.specs.declared.action.Action.{Action}
use Rattle.pungi_domain.specs.declared.action.Action.TheVariants.{Map, Free, Call}
use Rattle.pungi_domain.specs.declared.equation.Equation.{Equation}
use Rattle.pungi_fixpoint.proofs.Lists.{all_head, all_tail, all_cons}

dot_zero : (e : List ℤ) (v : Vector) → ((i : ℕ) → i < length e → v i ≡ pos 0) → dot e v ≡ pos 0
dot_zero [] v h = refl
dot_zero (c ∷ e) v h =
    let a : c *ℤ v 0 ≡ pos 0 = ap (λ z. c *ℤ z) (h 0 (omega arith)) ∙ mul_zero c in
    let b = dot_zero e (λ i. v (suc i)) (λ i lt. h (suc i) (omega (arith, lt))) in
    omega (arith, ints, a, b)

pub zero_rows : (w : ℕ) (rows : List (List ℤ)) → All (λ r. length r ≡ w) rows → (v : Vector) → Zero w v
    → MeetsRows rows v
zero_rows w rows widths v z = λ k d lt.
    let width = widths k d lt in
    dot_zero (slice_index_or rows k d) v (λ i i_lt. z i (omega (arith, i_lt, width)))

pub follows_rows : (w : ℕ) (G T : Vectors) (rows : List (List ℤ)) → All (λ r. length r ≡ w) rows → Follows w G T
    → ((v : Vector) → G v → MeetsRows rows v) → (v : Vector) → T v → MeetsRows rows v
follows_rows w G T rows widths f h v t = λ k d lt.
    f (slice_index_or rows k d) (widths k d lt) (λ u g. h u g k d lt) v t

-- the members after a guard meet the rows that those before it do, and the guard
pub met_rows : {S : Type 0} (least : Bool) (l : least ≡ true) (member : S → Vectors) (w : ℕ) (es : List Equation)
    (s t : S) (rows : List (List ℤ)) → All (λ r. length r ≡ w) rows → All (λ e. IsEquation w e.coefficients) es
    → IsMet least member w es s t → ((v : Vector) → member s v → MeetsRows rows v) → (v : Vector) → member t v
    → MeetsRows rows v × MeetsAll es v
met_rows least l member w [] s t rows widths eqs m h v tv =
    (h v (subst (λ x. member x v) m tv), λ k d lt. absurd (omega (arith, lt)))
met_rows least l member w (e ∷ es) s t rows widths eqs m h v tv =
    let c = e.coefficients in
    let first = all_head (λ (e : Equation). IsEquation w e.coefficients) e es eqs in
    let wide : All (λ (r : List ℤ). length r ≡ w) (c ∷ rows) = all_cons (λ (r : List ℤ). length r ≡ w) c rows
    first.width widths in
    let after : (u : Vector) → member m.0 u → MeetsRows (c ∷ rows) u = follows_rows w (Meeting c (member s))
    (member m.0) (c ∷ rows) wide (m.1.1 l)
    (λ u g. all_cons (λ (r : List ℤ). dot r u ≡ pos 0) c rows g.1 (h u g.0)) in
    let r = met_rows least l member w es m.0 t (c ∷ rows) wide
    (all_tail (λ (e : Equation). IsEquation w e.coefficients) e es eqs) m.2 after v tv in (
      all_tail (λ (r : List ℤ). dot r v ≡ pos 0) c rows r.0,
      all_cons (λ (e : Equation). dot e.coefficients v ≡ pos 0) e es
          (all_head (λ (r : List ℤ). dot r v ≡ pos 0) c rows r.0) r.1,
    )

-- ---- actions

row : ℕ → List (ℕ × ℤ)
row i = (i, pos 1) ∷ []

row_of : (v : Vector) (i : ℕ) → row_sum (row i) v ≡ v i
unfolding row
row_of v i = omega (arith, ints)

source_row : ℕ → ℕ → List (ℕ × ℤ)
source_row w i = cond (nat_lt i w) ((i, pos 1) ∷ []) []

exit_row : ℕ → ℕ → List (ℕ × ℤ)
exit_row w i = cond (nat_lt i w) [] ((i - w, pos 1) ∷ [])

source_is : (w z i : ℕ) (v : Vector) → i < z → image (source_rows w z) v i ≡ row_sum (source_row w i) v
unfolding source_row
source_is w z i v lt =
    ap (λ (r : List (ℕ × ℤ)). row_sum r v) (get_or-map-range_with_len (source_row w) 0 z i i [] lt (omega arith))

exit_is : (w z i : ℕ) (v : Vector) → i < z → image (exit_rows w z) v i ≡ row_sum (exit_row w i) v
unfolding exit_row
exit_is w z i v lt =
    ap (λ (r : List (ℕ × ℤ)). row_sum r v) (get_or-map-range_with_len (exit_row w) 0 z i i [] lt (omega arith))

source_low : (w z i : ℕ) (v : Vector) → i < z → i < w → image (source_rows w z) v i ≡ v i
unfolding source_row row
source_low w z i v lt low =
    source_is w z i v lt
    ∙ (ap (λ (r : List (ℕ × ℤ)). row_sum r v) (cond-true (nat_lt i w) (row i) [] (lt-ltb i w low)) ∙ row_of v i)

source_high : (w z i : ℕ) (v : Vector) → i < z → w ≤ i → image (source_rows w z) v i ≡ pos 0
unfolding source_row row
source_high w z i v lt high =
    source_is w z i v lt
    ∙ ap (λ (r : List (ℕ × ℤ)). row_sum r v) (cond-false (nat_lt i w) (row i) [] (le-ltb i w high))

exit_low : (w z i : ℕ) (v : Vector) → i < z → i < w → image (exit_rows w z) v i ≡ pos 0
unfolding exit_row row
exit_low w z i v lt low =
    exit_is w z i v lt
    ∙ ap (λ (r : List (ℕ × ℤ)). row_sum r v) (cond-true (nat_lt i w) [] (row (i - w)) (lt-ltb i w low))

exit_high : (w z i : ℕ) (v : Vector) → i < z → w ≤ i → image (exit_rows w z) v i ≡ v (i - w)
unfolding exit_row row
exit_high w z i v lt high =
    exit_is w z i v lt
    ∙ (ap (λ (r : List (ℕ × ℤ)). row_sum r v) (cond-false (nat_lt i w) [] (row (i - w)) (le-ltb i w high))
    ∙ row_of v (i - w))

-- a call sends a vector of the source and the exit vector 0 to the image of the first
sends_source : (calls : ℕ → ℕ → Vectors) (w z f class : ℕ) (onto : List ℕ) → FitsAction w z (Call f class onto)
    → calls f class (λ _. pos 0) → (v u : Vector) → u ≡ image (source_rows w z) v
    → Sends calls w z (Call f class onto) v u
sends_source calls w z f class onto fits zero v u e = (
  λ i lt. ap (λ (x : Vector). x i) e ∙ source_low w z i v (omega (arith, lt, fits.0)) lt,
  (
    λ _. pos 0,
    zero,
    λ i lt.
        let at = fits.2 i (omega (arith, lt, fits.1)) in
        rw at (ap (λ (x : Vector). x (w + i)) e
        ∙ source_high w z (w + i) v (omega (arith, lt, fits.0, fits.1)) (omega arith)),
  ),
)

-- and the vector 0 and one of the exit to the image of the latter
sends_exit : (calls : ℕ → ℕ → Vectors) (w z f class : ℕ) (onto : List ℕ) → FitsAction w z (Call f class onto)
    → (x u : Vector) → calls f class x → u ≡ image (exit_rows w z) x
    → Sends calls w z (Call f class onto) (λ _. pos 0) u
sends_exit calls w z f class onto fits x u there e = (
  λ i lt. ap (λ (y : Vector). y i) e ∙ exit_low w z i x (omega (arith, lt, fits.0)) lt,
  (
    x,
    there,
    λ i lt.
        let at = fits.2 i (omega (arith, lt, fits.1)) in
        let less : (w + i) - w ≡ i = omega arith in
        rw at (ap (λ (y : Vector). y (w + i)) e
        ∙ (exit_high w z (w + i) x (omega (arith, lt, fits.0, fits.1)) (omega arith) ∙ ap x less)),
  ),
)

-- what an action makes of a value meets the rows that all vectors meet to which it sends members
pub acts_rows : {S : Type 0} (least : Bool) (l : least ≡ true) (member : S → Vectors)
    (zero : (s : S) → member s (λ _. pos 0)) (exit : ℕ → ℕ → Option S) (calls : ℕ → ℕ → Vectors)
    (finds : (f c : ℕ) (x : S) → exit f c ≡ Some x → (v : Vector) → member x v → calls f c v) (w z : ℕ) (a : Action)
    (s t : S) (rows : List (List ℤ)) → All (λ r. length r ≡ z) rows → FitsAction w z a
    → Acts least member exit w z a s t
    → ((v u : Vector) → member s v → Sends calls w z a v u → MeetsRows rows u) → (v : Vector) → member t v
    → MeetsRows rows v
acts_rows least l member zero exit calls finds w z (Map m) s t rows widths fits acts sent =
    follows_rows z (Image m.rows (member s)) (member t) rows widths (acts.1 l)
    (λ u g. sent g.0 u g.1 (λ i lt. ap (λ (x : Vector). x i) g.2))
acts_rows least l member zero exit calls finds w z (Free c) s t rows widths fits acts sent =
    follows_rows z (Freed c (member s)) (member t) rows widths (acts.1 l)
    (λ u g. sent g.0 u g.1 (λ i lt ne. g.2 i ne))
acts_rows least l member zero exit calls finds w z (Call f class onto) s t rows widths fits acts sent =
    let x = acts.0 in
    let there = finds f class x acts.1 in
    let parts = acts.2 in
    let left = follows_rows z (Image (source_rows w z) (member s)) (member parts.0) rows widths (parts.2.1 l)
    (λ u g. sent g.0 u g.1 (sends_source calls w z f class onto fits (there _ (zero x)) g.0 u g.2)) in
    let right = follows_rows z (Image (exit_rows w z) (member x)) (member parts.1) rows widths (parts.3.1 l)
    (λ u g. sent (λ _. pos 0) u (zero s) (sends_exit calls w z f class onto fits g.0 u (there g.0 g.1) g.2)) in
    follows_rows z (Either (member parts.0) (member parts.1)) (member t) rows widths (parts.4.1 l)
    (λ u g. elim g [ inl h ↦ left u h | inr h ↦ right u h ])
