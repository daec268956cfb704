-- The static objects of a function in a file are few.
--   Up m ks                 numbers rise strictly, from m on
use Rattle.std.proofs.Common.{◌≡◌, ◌∙◌, inl, inr, ℕ, suc, ◌+◌, ◌<◌, ◌≤◌, ◌^◌, List, [], ◌∷◌, length, Some, sym, ap}
use Rattle.std.proofs.Common.{subst}
use Rattle.std.proofs.Common.{arith}
use Rattle.std.specs.Cmp.{nat_cmp_is}
use Rattle.std.specs.List.{All, flat_map}
use Rattle.std.specs.Ordering.{nat_cmp}
use Rattle.std.specs.declared.cmp.Ordering.{Ordering}
use Rattle.std.specs.declared.cmp.Ordering.TheVariants.{Less, Equal, Greater}
use Rattle.std.proofs.lemmas.Bool.{cases_lt}
use Rattle.std.proofs.lemmas.List.Elements.{All-head, All-tail}
use Rattle.pungi_code.specs.declared.code.Code.{Code}
use Rattle.pungi_code.specs.declared.code.Codes.{Codes}
use Rattle.pungi_code.specs.Run.{code_at}
use Rattle.pungi_code.specs.WellFormed.{AreWellFormed}
use Rattle.pungi_shape.specs.Named.{functions_from, put_by, put_number, put_numbers, statics_from, statics_of}
use Rattle.pungi_shape.proofs.NamedLemmas.{in_order_is}
use Rattle.pungi_shape.proofs.sound.Statics.{at_number, statics_there}

abbrev Up : ℕ → List ℕ → Type 0
Up m [] = Unit {0}
Up m (k ∷ ks) = (m ≤ k) × Up (suc k) ks

put-up : (m n : ℕ) (ks : List ℕ) → m ≤ n → Up m ks → Up m (put_number n ks)
put-up m n [] le up = (le, tt)
put-up m n (k ∷ ks) le up = elim (cases_lt n k) [
  | inl lt ↦ subst by (nat_cmp_is n k Less lt) (le, (omega (arith, lt), up.1))
  | inr ge ↦ elim (cases_lt k n) [
    | inl gt ↦ subst by (nat_cmp_is n k Greater gt) (up.0, put-up (suc k) n ks (omega (arith, gt)) up.1)
    | inr lu ↦ subst by (nat_cmp_is n k Equal (omega (arith, ge, lu))) up
  ]
]
  where
    by : Ordering → Type 0
    by o = Up m (put_by o (n ∷ k ∷ ks) (k ∷ ks) (k ∷ put_number n ks))

numbers-up : (ns : List ℕ) → Up 0 (put_numbers ns [])
numbers-up [] = tt
numbers-up (n ∷ ns) = put-up 0 n (put_numbers ns []) (omega arith) (numbers-up ns)

up-short : (m n : ℕ) (ks : List ℕ) → Up m ks → All (λ k. k < n) ks → m ≤ n → m + length ks ≤ n
up-short m n [] up below le = omega (arith, le)
up-short m n (k ∷ ks) up below le =
    let lt = All-head (λ i. i < n) k ks below in
    let rest = up-short (suc k) n ks up.1 (All-tail (λ i. i < n) k ks below) (omega (arith, lt)) in
    let first = up.0 in
    omega (arith, rest, first)

pub statics-within : (codes : Codes) (f : ℕ) → AreWellFormed codes → length (statics_of codes f) ≤ codes.statics
statics-within codes f well =
    let ns = flat_map (statics_from codes) (functions_from codes f) in
    let same : statics_of codes f ≡ put_numbers ns [] = in_order_is ns in
    let below = statics_there codes f (λ g code reached at. well.there g code at) in
    let short = up-short 0 codes.statics (put_numbers ns []) (numbers-up ns)
    (subst (All (λ k. k < codes.statics)) same below) (omega arith) in
    let long = ap (λ l. length l) same in
    omega (arith, short, long)

-- parameters and static objects are few
pub statics-few : (codes : Codes) (f : ℕ) (code : Code) → code_at codes f ≡ Some code → AreWellFormed codes
    → code.params + length (statics_of codes f) < 2 ^ 31
statics-few codes f code is_code well =
    let within = statics-within codes f well in
    let most = well.statics in
    let params = (well.each f code (at_number codes f code is_code)).params in
    omega (arith, within, most, params)
