-- Two lists whose elements stand in a relation, one by one.
--   AreZipped R xs ys      they are as long, and what stands at each place is so
use Rattle.std.proofs.Common.{◌≡◌, ℕ, zero, suc, List, [], ◌∷◌, length, Some, refl, ap, arith}
use Rattle.std.proofs.Common.{slice_get, subst}
use Rattle.std.specs.List.{AllZip}

pub record AreZipped {A B : Type 0} (R : A → B → Type 0) (xs : List A) (ys : List B) : Type 0 where
  pub count : length xs ≡ length ys
  pub each : (i : ℕ) (x : A) (y : B) → slice_get xs i ≡ Some x → slice_get ys i ≡ Some y → R x y

pub zipped : {A B : Type 0} (R : A → B → Type 0) (xs : List A) (ys : List B) → AllZip R xs ys → AreZipped R xs ys
zipped R [] [] h = record { count = refl; each = λ i x y at there. absurd (cc) }
zipped R [] (y ∷ ys) h = absurd h
zipped R (x ∷ xs) [] h = absurd h
zipped {A = A} {B = B} R (x ∷ xs) (y ∷ ys) h =
    let rest = zipped R xs ys h.1 in
    record { count = ap suc rest.count; each = at-each rest }
  where
    at-each : AreZipped R xs ys → (i : ℕ) (a : A) (b : B) → slice_get (x ∷ xs) i ≡ Some a
        → slice_get (y ∷ ys) i ≡ Some b → R a b
    at-each rest zero a b at there =
        let first : x ≡ a = cc in
        let second : y ≡ b = cc in
        subst (λ z. R z b) first (subst (R x) second h.0)
    at-each rest (suc i) a b at there = rest.each i a b at there

pub all-zip : {A B : Type 0} (R : A → B → Type 0) (xs : List A) (ys : List B) → AreZipped R xs ys → AllZip R xs ys
all-zip R [] [] h = tt
all-zip R [] (y ∷ ys) h = absurd (let same = h.count in omega (arith, same))
all-zip R (x ∷ xs) [] h = absurd (let same = h.count in omega (arith, same))
all-zip R (x ∷ xs) (y ∷ ys) h = (
  h.each 0 x y refl refl,
  all-zip R xs ys (record {
    count = let same = h.count in omega (arith, same);
    each = λ i a b at there. h.each (suc i) a b at there;
  }),
)
