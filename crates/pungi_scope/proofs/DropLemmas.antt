-- A list without its first elements.
use Rattle.std.proofs.Common.{◌≡◌, ℕ, suc, zero, ◌+◌, ◌-◌, List, [], ◌∷◌, ◌++◌, length, drop, refl, sym, ap, ◌∙◌}
use Rattle.std.proofs.Common.{add-one, arith, length-append}

pub drop-one : {A : Type 0} (n : ℕ) (xs : List A) → drop 1 (drop n xs) ≡ drop (n + 1) xs
drop-one zero xs = refl
drop-one (suc n) [] = rw add-one refl
drop-one (suc n) (x ∷ xs) =
    drop-one n xs ∙ sym (ap (λ k. drop k (x ∷ xs)) (add-one (suc n)) ∙ ap (λ k. drop k xs) (sym (add-one n)))

dropped : {A : Type 0} (more old : List A) → drop (length more) (more ++ old) ≡ old
dropped [] old = refl
dropped (x ∷ more) old = dropped more old

-- without what was put before
pub drop-back : {A : Type 0} (more old : List A) → drop (length (more ++ old) - length old) (more ++ old) ≡ old
drop-back more old =
    let same : length (more ++ old) - length old ≡ length more = omega (arith, length-append more old) in
    ap (λ k. drop k (more ++ old)) same ∙ dropped more old
