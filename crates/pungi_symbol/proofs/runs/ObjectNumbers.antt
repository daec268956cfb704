-- The numbers of the objects of classes, filled in from the object that was made last to the first.
use Rattle.std.proofs.Common.{◌≡◌, ◌==◌, ℕ, zero, suc, ◌+◌, ◌<◌, ◌≤◌, Bool, true, false, List, ◌∷◌, length, map}
use Rattle.std.proofs.Common.{get_or, cond, refl, sym, ap, ◌∙◌, arith}
use Rattle.std.specs.Prelude.{drop, slice_set}
use Rattle.std.specs.List.{range_with_len}
use Rattle.std.proofs.lemmas.Bool.{eqb-true, eq-eqb}
use Rattle.std.proofs.Math.Seq.{drop-length}
use Rattle.pungi_symbol.specs.runs.Paths.{object_number}
use Rattle.pungi_symbol.proofs.questions.Arguments.{drop_here}
use Rattle.pungi_symbol.proofs.runs.Ranges.{map_self}

-- ---- numbers one after another

same_map : (f g : ℕ → ℕ) (a n : ℕ) → ((c : ℕ) → a ≤ c → c < a + n → f c ≡ g c)
    → map f (range_with_len a n) ≡ map g (range_with_len a n)
same_map f g a zero h = refl
same_map f g a (suc n) h =
    ap (λ x. x ∷ map f (range_with_len (a + 1) n)) (h a (omega arith) (omega arith))
    ∙ ap (λ l. g a ∷ l) (same_map f g (a + 1) n (λ c le lt. h c (omega (arith, le)) (omega (arith, lt))))

-- two functions that differ at one place
set_map : (f g : ℕ → ℕ) (a n i j : ℕ) → i < n → a + i ≡ j → ((c : ℕ) → a ≤ c → (c ≡ j → ⊥) → f c ≡ g c)
    → slice_set (map f (range_with_len a n)) i (g j) ≡ map g (range_with_len a n)
set_map f g a zero i j lt at other = absurd (omega (arith, lt))
set_map f g a (suc n) zero j lt at other =
    let here : j ≡ a = omega (arith, at) in
    ap (λ k. g k ∷ map f (range_with_len (a + 1) n)) here
    ∙ ap (λ l. g a ∷ l) (same_map f g (a + 1) n
    (λ c le below. other c (omega (arith, le)) (λ e. absurd (omega (arith, le, e, here)))))
set_map f g a (suc n) (suc i) j lt at other =
    ap (λ x. x ∷ slice_set (map f (range_with_len (a + 1) n)) i (g j))
    (other a (omega arith) (λ e. absurd (omega (arith, e, at))))
    ∙ ap (λ l. g a ∷ l) (set_map f g (a + 1) n i j (omega (arith, lt)) (omega (arith, at))
    (λ c le apart. other c (omega (arith, le)) apart))

not_same : (m c : ℕ) → (c ≡ m → ⊥) → (m == c) ≡ false
not_same m c apart = by (m == c) refl
  where
    by : (b : Bool) → (m == c) ≡ b → (m == c) ≡ false
    by true e = absurd (apart (sym (eqb-true m c e)))
    by false e = e

-- ---- the objects that were made, from one on

module _ (n : ℕ) (made : List ℕ) where
  abbrev pub number_from : ℕ → ℕ → ℕ
  number_from i = object_number (n + i) (drop i made)

  abbrev pub numbers_from : ℕ → List ℕ
  numbers_from i = map (number_from i) (range_with_len 0 n)

  pub numbers_none : (i : ℕ) → i ≡ length made → range_with_len 0 n ≡ numbers_from i
  numbers_none i e =
      sym (map_self 0 n) ∙ same_map (λ c. c) (number_from i) 0 n
      (λ c le lt. sym (ap (λ l. object_number (n + i) l c) (ap (λ k. drop k made) e ∙ drop-length made)))

  number_step : (i c : ℕ) → i < length made
      → number_from i c ≡ cond (get_or made i 0 == c) (n + i) (number_from (i + 1) c)
  number_step i c lt =
      let next : n + i + 1 ≡ n + (i + 1) = omega arith in
      ap (λ l. object_number (n + i) l c) (drop_here made i 0 lt)
      ∙ ap (λ k. cond (get_or made i 0 == c) (n + i) (object_number k (drop (i + 1) made) c)) next

  number_other : (i c : ℕ) → i < length made → (c ≡ get_or made i 0 → ⊥) → number_from (i + 1) c ≡ number_from i c
  number_other i c lt apart =
      sym (number_step i c lt ∙ ap (λ b. cond b (n + i) (number_from (i + 1) c)) (not_same (get_or made i 0) c apart))

  pub number_set : (i : ℕ) → i < length made → get_or made i 0 < n
      → slice_set (numbers_from (i + 1)) (get_or made i 0) (n + i) ≡ numbers_from i
  number_set i lt below =
      let m = get_or made i 0 in
      let here : number_from i m ≡ n + i = number_step i m lt
      ∙ ap (λ b. cond b (n + i) (number_from (i + 1) m)) (eq-eqb m m refl) in
      ap (λ v. slice_set (numbers_from (i + 1)) m v) (sym here)
      ∙ set_map (number_from (i + 1)) (number_from i) 0 n m m below (omega arith)
      (λ c le apart. number_other i c lt apart)

  pub number_kept : (i : ℕ) → i < length made → n ≤ get_or made i 0 → numbers_from (i + 1) ≡ numbers_from i
  number_kept i lt past =
      same_map (number_from (i + 1)) (number_from i) 0 n
      (λ c le below. number_other i c lt (λ e. absurd (omega (arith, e, below, past))))
