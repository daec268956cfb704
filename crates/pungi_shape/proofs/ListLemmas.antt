-- Lists that are changed item by item.
use Rattle.std.proofs.Common.{◌≡◌, ℕ, zero, suc, ◌+◌, ◌<◌, List, [], ◌∷◌, ◌++◌, length, map, take, drop, get_or, refl}
use Rattle.std.proofs.Common.{ap}
use Rattle.std.proofs.Common.{arith}
use Rattle.std.proofs.Math.ListN.{set}
use Rattle.std.specs.List.{enumerate_from}

-- the first ones are changed already
abbrev pub mapped : {X : Type 0} → (X → X) → ℕ → List X → List X
mapped f i xs = map f (take i xs) ++ drop i xs

pub length-mapped : {X : Type 0} (f : X → X) (i : ℕ) (xs : List X) → length (mapped f i xs) ≡ length xs
length-mapped f zero xs = refl
length-mapped f (suc i) [] = refl
length-mapped f (suc i) (x ∷ xs) = (let h = length-mapped f i xs in omega (arith, h))

pub get_or-mapped : {X : Type 0} (f : X → X) (i : ℕ) (xs : List X) (d : X) → i < length xs
    → get_or (mapped f i xs) i d ≡ get_or xs i d
get_or-mapped f zero xs d lt = refl
get_or-mapped f (suc i) [] d lt = absurd (omega arith)
get_or-mapped f (suc i) (x ∷ xs) d lt = get_or-mapped f i xs d (omega (arith, lt))

-- one more
pub mapped_more : {X : Type 0} (f : X → X) (i : ℕ) (xs : List X) (d : X) → i < length xs
    → set (mapped f i xs) i (f (get_or xs i d)) ≡ mapped f (i + 1) xs
mapped_more f i [] d lt = absurd (omega arith)
mapped_more f zero (x ∷ xs) d lt = refl
mapped_more f (suc i) (x ∷ xs) d lt =
    let e : suc i + 1 ≡ suc (i + 1) = omega arith in
    rw e (ap (λ ys. f x ∷ ys) (mapped_more f i xs d (omega (arith, lt))))

pub mapped_step : {X : Type 0} (f : X → X) (i : ℕ) (xs ys : List X) (d : X) → ys ≡ mapped f i xs → i < length xs
    → set ys i (f (get_or ys i d)) ≡ mapped f (i + 1) xs
mapped_step f i xs ys d e lt = rw (e, get_or-mapped f i xs d lt) (mapped_more f i xs d lt)

pub mapped_end : {X : Type 0} (f : X → X) (i : ℕ) (xs : List X) → length xs ≡ i → mapped f i xs ≡ map f xs
mapped_end f zero [] e = refl
mapped_end f zero (x ∷ xs) e = absurd (omega (arith, e))
mapped_end f (suc i) [] e = absurd (omega (arith, e))
mapped_end f (suc i) (x ∷ xs) e = ap (λ ys. f x ∷ ys) (mapped_end f i xs (omega (arith, e)))

-- the first ones are changed already, by their places
abbrev pub numbered : {X : Type 0} → (ℕ × X → X) → ℕ → ℕ → List X → List X
numbered f k i xs = map f (take i (enumerate_from k xs)) ++ drop i xs

pub length-numbered : {X : Type 0} (f : ℕ × X → X) (k i : ℕ) (xs : List X) → length (numbered f k i xs) ≡ length xs
length-numbered f k zero xs = refl
length-numbered f k (suc i) [] = refl
length-numbered f k (suc i) (x ∷ xs) = (let h = length-numbered f (k + 1) i xs in omega (arith, h))

-- those that are left are the same
pub numbered_at : {X : Type 0} (f : ℕ × X → X) (k i : ℕ) (xs : List X) (d : X) → i < length xs
    → get_or (numbered f k i xs) i d ≡ get_or xs i d
numbered_at f k i [] d lt = absurd (omega arith)
numbered_at f k zero (x ∷ xs) d lt = refl
numbered_at f k (suc i) (x ∷ xs) d lt = numbered_at f (k + 1) i xs d (omega (arith, lt))

pub numbered_more : {X : Type 0} (f : ℕ × X → X) (k i : ℕ) (xs : List X) (d : X) → i < length xs
    → set (numbered f k i xs) i (f (k + i, get_or xs i d)) ≡ numbered f k (i + 1) xs
numbered_more f k i [] d lt = absurd (omega arith)
numbered_more f k zero (x ∷ xs) d lt = (let z : k + 0 ≡ k = omega arith in rw z refl)
numbered_more f k (suc i) (x ∷ xs) d lt =
    let e : suc i + 1 ≡ suc (i + 1) = omega arith in
    let s : k + suc i ≡ (k + 1) + i = omega arith in
    rw (e, s) (ap (λ ys. f (k, x) ∷ ys) (numbered_more f (k + 1) i xs d (omega (arith, lt))))

-- one that stays as it is
pub numbered_kept : {X : Type 0} (f : ℕ × X → X) (k i : ℕ) (xs : List X) (d : X) → i < length xs
    → f (k + i, get_or xs i d) ≡ get_or xs i d → numbered f k i xs ≡ numbered f k (i + 1) xs
numbered_kept f k i [] d lt h = absurd (omega arith)
numbered_kept f k zero (x ∷ xs) d lt h =
    (let z : k + 0 ≡ k = omega arith in let e : f (k, x) ≡ x = rw z at h in rw e refl)
numbered_kept f k (suc i) (x ∷ xs) d lt h =
    let e : suc i + 1 ≡ suc (i + 1) = omega arith in
    let s : k + suc i ≡ (k + 1) + i = omega arith in
    rw e (ap (λ ys. f (k, x) ∷ ys) (numbered_kept f (k + 1) i xs d (omega (arith, lt)) (rw s at h)))

pub numbered_end : {X : Type 0} (f : ℕ × X → X) (k i : ℕ) (xs : List X) → length xs ≡ i
    → numbered f k i xs ≡ map f (enumerate_from k xs)
numbered_end f k zero [] e = refl
numbered_end f k zero (x ∷ xs) e = absurd (omega (arith, e))
numbered_end f k (suc i) [] e = absurd (omega (arith, e))
numbered_end f k (suc i) (x ∷ xs) e = ap (λ ys. f (k, x) ∷ ys) (numbered_end f (k + 1) i xs (omega (arith, e)))
