-- Variables of which the first hold something, and one that is set.
use Rattle.std.proofs.Common.{◌≡◌, ℕ, zero, suc, ◌+◌, ◌-◌, ◌<◌, ◌≤◌, List, [], ◌∷◌, ◌++◌, length, get_or, map, take}
use Rattle.std.specs.Prelude.{replicate}
use Rattle.std.proofs.Common.{refl, sym, ap, ◌∙◌, arith}
use Rattle.std.specs.Prelude.{slice_set}
use Rattle.std.specs.List.{range_with_len}
use Rattle.std.proofs.lemmas.List.{append_assoc, set-append_left, set-append_right, get_or_append_left, length-set}
use Rattle.std.proofs.lemmas.List.{length-append, length-replicate}
use Rattle.std.proofs.Math.Seq.{get_or-append_right}
use Rattle.std.proofs.Math.ListN.{length-map}
use Rattle.pungi_symbol.specs.declared.states.term.Term.{Term}
use Rattle.pungi_symbol.specs.declared.states.term.Term.TheVariants.{Unset, Token}
use Rattle.pungi_symbol.specs.states.Vars.{with_unset}

unset_at : (n i : ℕ) → get_or (replicate n Unset) i Unset ≡ Unset
unset_at zero i = refl
unset_at (suc n) zero = refl
unset_at (suc n) (suc i) = unset_at n i

pub get_first : (n : ℕ) (xs : List Term) (i : ℕ) → i < length xs → get_or (with_unset n xs) i Unset
    ≡ get_or xs i Unset
get_first n xs i lt = get_or_append_left xs (replicate (n - length xs) Unset) Unset i lt

pub get_after : (n : ℕ) (xs : List Term) (i : ℕ) → length xs ≤ i → get_or (with_unset n xs) i Unset ≡ Unset
get_after n xs i le =
    get_or-append_right xs (replicate (n - length xs) Unset) i Unset le ∙ unset_at (n - length xs) (i - length xs)

pub set_first : (n : ℕ) (xs : List Term) (i : ℕ) (c : Term) → i < length xs
    → slice_set (with_unset n xs) i c ≡ with_unset n (slice_set xs i c)
set_first n xs i c lt =
    set-append_left xs (replicate (n - length xs) Unset) i c lt
    ∙ ap (λ m. slice_set xs i c ++ replicate (n - m) Unset) (sym (length-set xs i c))

set_unset : (n i : ℕ) (c : Term) → i < n
    → slice_set (replicate n Unset) i c ≡ replicate i Unset ++ c ∷ replicate (n - (i + 1)) Unset
set_unset zero i c lt = absurd (omega (arith, lt))
set_unset (suc n) zero c lt =
    let e : suc n - (0 + 1) ≡ n = omega arith in ap (λ m. c ∷ replicate m Unset) (sym e)
set_unset (suc n) (suc i) c lt =
    let e : suc n - (suc i + 1) ≡ n - (i + 1) = omega arith in
    ap (λ l. Unset ∷ l) (set_unset n i c (omega (arith, lt)))
    ∙ ap (λ m. Unset ∷ (replicate i Unset ++ c ∷ replicate m Unset)) (sym e)

pub set_after : (n : ℕ) (xs : List Term) (i : ℕ) (c : Term) → length xs ≤ i → i < n
    → slice_set (with_unset n xs) i c ≡ with_unset n ((xs ++ replicate (i - length xs) Unset) ++ c ∷ [])
set_after n xs i c le lt =
    let k = n - length xs in
    let j = i - length xs in
    let long : length ((xs ++ replicate j Unset) ++ c ∷ []) ≡ i + 1 = length-append (xs ++ replicate j Unset) (c ∷ [])
    ∙ ap (λ m. m + 1) (length-append xs (replicate j Unset) ∙ ap (λ m. length xs + m) (length-replicate j Unset)
    ∙ omega (arith, le)) in
    let left : k - (j + 1) ≡ n - length ((xs ++ replicate j Unset) ++ c ∷ []) = omega (arith, long, le, lt) in
    set-append_right xs (replicate k Unset) (length xs) i c refl le
    ∙ ap (λ l. xs ++ l) (set_unset k j c (omega (arith, le, lt)))
    ∙ ap (λ m. xs ++ (replicate j Unset ++ c ∷ replicate m Unset)) left
    ∙ sym (append_assoc (xs ++ replicate j Unset) (c ∷ []) (replicate (n - length ((xs ++ replicate j Unset) ++ c
    ∷ [])) Unset) ∙ append_assoc xs (replicate j Unset) (c ∷ replicate (n - length ((xs ++ replicate j Unset) ++ c
    ∷ [])) Unset))

pub take_all : (xs : List Term) (n : ℕ) → length xs ≤ n → take n xs ≡ xs
take_all [] zero le = refl
take_all [] (suc n) le = refl
take_all (x ∷ xs) zero le = absurd (omega (arith, le))
take_all (x ∷ xs) (suc n) le = ap (λ l. x ∷ l) (take_all xs n (omega (arith, le)))

length_range : (from n : ℕ) → length (range_with_len from n) ≡ n
length_range from zero = refl
length_range from (suc n) = ap suc (length_range (from + 1) n)

-- the arguments are the first ones
pub arguments_first : (n from count : ℕ) → with_unset n (map Token (range_with_len from count))
    ≡ map Token (range_with_len from count) ++ replicate (n - count) Unset
arguments_first n from count =
    ap (λ m. map Token (range_with_len from count) ++ replicate (n - m) Unset)
    (length-map (range_with_len from count) Token ∙ length_range from count)
