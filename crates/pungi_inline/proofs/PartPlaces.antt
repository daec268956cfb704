-- Where the parts of a whole begin: a later part begins after an earlier one, and all are within.
use Rattle.std.proofs.Common.{◌≡◌, ℕ, zero, suc, ◌+◌, ◌<◌, ◌≤◌, List, [], ◌∷◌, length, take, map, Some, ap, arith}
use Rattle.std.specs.Prelude.{slice_get}
use Rattle.pungi_inline.specs.Sites.{total}

-- a part ends within the whole
pub part_within : {X : Type 0} (size : X → ℕ) (xs : List X) (i : ℕ) (x : X) → slice_get xs i ≡ Some x
    → total (take i (map size xs)) + size x ≤ total (map size xs)
part_within size [] i x e = absurd (cc)
part_within size (y ∷ xs) zero x e =
    let same : y ≡ x = cc in
    let f : size y ≡ size x = ap size same in
    let g : 0 + size x ≤ size y + total (map size xs) = omega (arith, f) in
    g
part_within size (y ∷ xs) (suc i) x e =
    let f = part_within size xs i x e in
    let g : size y + total (take i (map size xs)) + size x ≤ size y + total (map size xs) = omega (arith, f) in
    g

-- a part that takes a place begins within the whole
pub start_within : {X : Type 0} (size : X → ℕ) → ((x : X) → 1 ≤ size x) → (xs : List X) (i : ℕ) → i < length xs
    → total (take i (map size xs)) < total (map size xs)
start_within size some [] i lt = absurd (omega (arith, lt))
start_within size some (y ∷ xs) zero lt =
    let f = some y in
    let g : 0 < size y + total (map size xs) = omega (arith, f) in
    g
start_within size some (y ∷ xs) (suc i) lt =
    let f = start_within size some xs i (omega (arith, lt)) in
    let g : size y + total (take i (map size xs)) < size y + total (map size xs) = omega (arith, f) in
    g

-- parts begin one after another
pub start_before : {X : Type 0} (size : X → ℕ) → ((x : X) → 1 ≤ size x) → (xs : List X) (i j : ℕ) → i < j
    → j ≤ length xs → total (take i (map size xs)) < total (take j (map size xs))
start_before size some [] i j lt le = absurd (omega (arith, lt, le))
start_before size some (y ∷ xs) zero zero lt le = absurd (omega (arith, lt))
start_before size some (y ∷ xs) zero (suc j) lt le =
    let f = some y in
    let g : 0 < size y + total (take j (map size xs)) = omega (arith, f) in
    g
start_before size some (y ∷ xs) (suc i) zero lt le = absurd (omega (arith, lt))
start_before size some (y ∷ xs) (suc i) (suc j) lt le =
    let f = start_before size some xs i j (omega (arith, lt)) (omega (arith, le)) in
    let g : size y + total (take i (map size xs)) < size y + total (take j (map size xs)) = omega (arith, f) in
    g
