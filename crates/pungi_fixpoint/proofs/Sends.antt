-- What an action sends is in what it makes.
--   Same, Sums         the laws of a domain's members
--   met_members        a member that meets the guard is a member of what met it
--   acts_members       what an action sends of a member is a member of what it makes
--   sends_none         a call that finds no value sends nothing
use Rattle.std.proofs.Common.{◌≡◌, ◌⊎◌, inl, inr, ℕ, ◌+◌, ◌-◌, ◌<◌, ◌≤◌, ℤ, pos, ◌+ℤ◌, ◌*ℤ◌, Bool, true, false, List}
use Rattle.std.proofs.Common.{[]}
use Rattle.std.proofs.Common.{◌∷◌, length, Option, refl, sym, ap, subst, ◌∙◌, arith, cond}
use Rattle.std.specs.Prelude.{nat_lt}
use Rattle.std.specs.List.{slice_index_or}
use Rattle.std.proofs.lemmas.Bool.Decides.{nat_tests}
use Rattle.std.proofs.lemmas.Int.{ints}
use Rattle.std.proofs.lemmas.List.Elements.{All-head, All-tail}
use Rattle.std.proofs.lemmas.List.FromFn.{get_or-map-range_with_len}
use Rattle.pungi_domain.specs.Annotations.{MeetsAll, Sends}
use Rattle.pungi_domain.specs.Builds.{Acts, IsMet, source_rows, exit_rows}
use Rattle.pungi_domain.specs.Programs.{FitsAction}
use Rattle.pungi_domain.specs.Vectors.{Vector, Vectors, dot, image, row_sum}
use Rattle.pungi_domain.specs.declared.action.Action.{Action}
use Rattle.pungi_domain.specs.declared.action.Action.TheVariants.{Map, Free, Call}
use Rattle.pungi_domain.specs.declared.equation.Equation.{Equation}
use Rattle.pungi_fixpoint.specs.Calls.{source_row, exit_row}
use Rattle.pungi_fixpoint.specs.Solver.{calls, members}
use Rattle.pungi_fixpoint.specs.Summaries.{exit_of}
use Rattle.pungi_fixpoint.specs.Turns.{HasNoExit}

abbrev pub Same : {D : Type 0} → (D → Vectors) → (D → ℕ) → Type 0
Same {D} member width = (s : D) (u v : Vector) → ((i : ℕ) → i < width s → v i ≡ u i) → member s u → member s v

abbrev pub Sums : {D : Type 0} → (D → Vectors) → Type 0
Sums {D} member = (s : D) (a b : ℤ) (u v : Vector) → member s u → member s v
    → member s (λ i. (a *ℤ u i) +ℤ (b *ℤ v i))

pub met_members : {D : Type 0} (least : Bool) (member : D → Vectors) (w : ℕ) (es : List Equation) (s t : D) (v : Vector)
    → IsMet least member w es s t → member s v → MeetsAll es v → member t v
met_members least member w [] s t v h m a = subst (λ x. member x v) (sym h) m
met_members least member w (e ∷ es) s t v h m a =
    met_members least member w es h.0 t v h.2
    (h.1.0 v (m, All-head (λ (d : Equation). dot d.coefficients v ≡ pos 0) e es a))
    (All-tail (λ (d : Equation). dot d.coefficients v ≡ pos 0) e es a)

source_low : (b : Bool) (i : ℕ) (v : Vector) → b ≡ true → row_sum (cond b ((i, pos 1) ∷ []) []) v ≡ v i
source_low true i v e = omega (arith, ints)
source_low false i v e = absurd (cc)

source_high : (b : Bool) (i : ℕ) (v : Vector) → b ≡ false → row_sum (cond b ((i, pos 1) ∷ []) []) v ≡ pos 0
source_high true i v e = absurd (cc)
source_high false i v e = refl

exit_low : (b : Bool) (i : ℕ) (v : Vector) → b ≡ true → row_sum (cond b [] ((i, pos 1) ∷ [])) v ≡ pos 0
exit_low true i v e = refl
exit_low false i v e = absurd (cc)

exit_high : (b : Bool) (i : ℕ) (v : Vector) → b ≡ false → row_sum (cond b [] ((i, pos 1) ∷ [])) v ≡ v i
exit_high true i v e = absurd (cc)
exit_high false i v e = omega (arith, ints)

source_image : (w z i : ℕ) (v : Vector) → i < z → image (source_rows w z) v i ≡ row_sum (source_row w i) v
source_image w z i v lt = ap (λ r. row_sum r v) (get_or-map-range_with_len (source_row w) 0 z i i [] lt (omega arith))

exit_image : (w z i : ℕ) (v : Vector) → i < z → image (exit_rows w z) v i ≡ row_sum (exit_row w i) v
exit_image w z i v lt = ap (λ r. row_sum r v) (get_or-map-range_with_len (exit_row w) 0 z i i [] lt (omega arith))

is_low : (i w : ℕ) → i < w → nat_lt i w ≡ true
is_low i w h = grind (arith, nat_tests)

is_high : (i w : ℕ) → w ≤ i → nat_lt i w ≡ false
is_high i w h = grind (arith, nat_tests)

is_below : (i w : ℕ) → nat_lt i w ≡ true → i < w
is_below i w e = grind (arith, nat_tests)

is_above : (i w : ℕ) → nat_lt i w ≡ false → w ≤ i
is_above i w e = grind (arith, nat_tests)

low_or_high : (i w : ℕ) (b : Bool) → nat_lt i w ≡ b → (i < w) ⊎ (w ≤ i)
low_or_high i w true e = inl (is_below i w e)
low_or_high i w false e = inr (is_above i w e)

-- the vector that is u below z and v from there on
abbrev both : ℕ → Vector → Vector → Vector
both z u v i = cond (nat_lt i z) (u i) (v i)

both_low : (b : Bool) (x y : ℤ) → b ≡ true → x ≡ cond b x y
both_low true x y e = refl
both_low false x y e = absurd (cc)

both_freed : (b : Bool) (x y : ℤ) → (b ≡ true → x ≡ y) → cond b x y ≡ y
both_freed true x y h = h refl
both_freed false x y h = refl

first_of_two : (x a b : ℤ) → x ≡ a → b ≡ pos 0 → x ≡ (pos 1 *ℤ a) +ℤ (pos 1 *ℤ b)
first_of_two x a b e z = omega (arith, ints, e, z)

second_of_two : (x a b : ℤ) → x ≡ b → a ≡ pos 0 → x ≡ (pos 1 *ℤ a) +ℤ (pos 1 *ℤ b)
second_of_two x a b e z = omega (arith, ints, e, z)

-- below z, the vector that a call sends is the sum of the source's and the exit's
beside_sum : (w z : ℕ) (onto : List ℕ) (v x u : Vector) → w ≤ z → length onto ≡ z - w
    → ((i : ℕ) → i < z - w → slice_index_or onto i 0 ≡ w + i) → ((i : ℕ) → i < w → u i ≡ v i)
    → ((i : ℕ) → i < length onto → u (slice_index_or onto i 0) ≡ x i) → (i : ℕ) → i < z
    → u i ≡ (pos 1 *ℤ image (source_rows w z) v i) +ℤ (pos 1 *ℤ image (exit_rows w z) x i)
beside_sum w z onto v x u le count places low high i lt = elim (low_or_high i w (nat_lt i w) refl) [
  | inl h ↦
      let a = source_image w z i v lt ∙ source_low (nat_lt i w) i v (is_low i w h) in
      let b = exit_image w z i x lt ∙ exit_low (nat_lt i w) (i - w) x (is_low i w h) in
      first_of_two (u i) (image (source_rows w z) v i) (image (exit_rows w z) x i) (low i h ∙ sym a) b
  | inr h ↦
      let a = source_image w z i v lt ∙ source_high (nat_lt i w) i v (is_high i w h) in
      let b = exit_image w z i x lt ∙ exit_high (nat_lt i w) (i - w) x (is_high i w h) in
      let n : i - w < z - w = omega arith in
      let k : i - w < length onto = rw count n in
      let p : slice_index_or onto (i - w) 0 ≡ i = places (i - w) n ∙ omega arith in
      let e : u i ≡ x (i - w) = ap u (sym p) ∙ high (i - w) k in
      second_of_two (u i) (image (source_rows w z) v i) (image (exit_rows w z) x i) (e ∙ sym b) a
]

pub acts_members : {D : Type 0} (least : Bool) (member : D → Vectors) (width : D → ℕ) (exits : List (List (Option D)))
    (w z : ℕ) (a : Action) (m t : D) (v u : Vector) → Same member width → Sums member → FitsAction w z a → width t ≡ z
    → Acts least member (exit_of exits) w z a m t → member m v → Sends (calls member exits) w z a v u → member t u
acts_members least member width exits w z (Map n) m t v u same sums fits wide acts mv sends =
    same t (image n.rows v) u (λ i lt. sends i (subst (λ k. i < k) wide lt)) (acts.0 (image n.rows v) (v, mv, refl))
acts_members least member width exits w z (Free c) m t v u same sums fits wide acts mv sends =
    same t (both z u v) u
    (λ i lt. both_low (nat_lt i z) (u i) (v i) (is_low i z (subst (λ k. i < k) wide lt)))
    (acts.0 (both z u v) (v, mv, λ i ne. both_freed (nat_lt i z) (u i) (v i) (λ e. sends i (is_below i z e) ne)))
acts_members least member width exits w z (Call f class onto) m t v u same sums fits wide acts mv sends =
    let b = acts.2 in
    let y = sends.1.0 in
    let x_in : member acts.0 y = subst (λ o. members member o y) acts.1 sends.1.1 in
    let p = image (source_rows w z) v in
    let q = image (exit_rows w z) y in
    let tp : member t p = b.4.0 p (inl (b.2.0 p (v, mv, refl))) in
    let tq : member t q = b.4.0 q (inr (b.3.0 q (y, x_in, refl))) in
    same t (λ i. (pos 1 *ℤ p i) +ℤ (pos 1 *ℤ q i)) u
    (λ i lt. beside_sum w z onto v y u fits.0 fits.1 fits.2 sends.0 sends.1.2 i (subst (λ k. i < k) wide lt))
    (sums t (pos 1) (pos 1) p q tp tq)

pub sends_none : {D : Type 0} (member : D → Vectors) (exits : List (List (Option D))) (w z : ℕ) (a : Action)
    (v u : Vector) → HasNoExit (exit_of exits) a → Sends (calls member exits) w z a v u → ⊥
sends_none member exits w z (Map n) v u none sends = none
sends_none member exits w z (Free c) v u none sends = none
sends_none member exits w z (Call f class onto) v u none sends =
    subst (λ o. members member o sends.1.0) none sends.1.1
