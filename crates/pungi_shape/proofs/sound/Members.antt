-- Members of lists.
use Rattle.std.proofs.Common.{◌≡◌, ◌⊎◌, inl, inr, ℕ, zero, suc, ◌<◌, List, [], ◌∷◌, ◌++◌, length, map, get_or, refl}
use Rattle.std.proofs.Common.{Bool, true, ◌∙◌}
use Rattle.std.proofs.Common.{sym}
use Rattle.std.proofs.Common.{ap, subst, arith}
use Rattle.std.specs.List.{All, IsAmong, flat_map, list_any}
use Rattle.pungi_shape.proofs.sound.Tests.{true_or, or_true}

pub nothing_in : {X : Type 0} (x : X) → IsAmong [] x → ⊥
nothing_in x there = let lt = there.1.0 in omega (arith, lt)

pub first_among : {X : Type 0} (x : X) (xs : List X) → IsAmong (x ∷ xs) x
first_among x xs = (0, (omega arith, refl))

pub later_among : {X : Type 0} (y : X) (xs : List X) (x : X) → IsAmong xs x → IsAmong (y ∷ xs) x
later_among y xs x there = (suc there.0, ((let lt = there.1.0 in omega (arith, lt)), there.1.1))

split_among : {X : Type 0} (y : X) (xs : List X) (x : X) (i : ℕ) → i < length (y ∷ xs) → x ≡ get_or (y ∷ xs) i x
    → (x ≡ y) ⊎ IsAmong xs x
split_among y xs x zero lt e = inl e
split_among y xs x (suc i) lt e = inr (i, (omega (arith, lt), e))

pub one_of : {X : Type 0} (y : X) (xs : List X) (x : X) → IsAmong (y ∷ xs) x → (x ≡ y) ⊎ IsAmong xs x
one_of y xs x there = split_among y xs x there.0 there.1.0 there.1.1

pub among_append : {X : Type 0} (xs ys : List X) (x : X) → IsAmong (xs ++ ys) x → IsAmong xs x ⊎ IsAmong ys x
among_append [] ys x there = inr there
among_append (y ∷ xs) ys x there = elim (one_of y (xs ++ ys) x there) [
  | inl e ↦ inl (0, (omega arith, e))
  | inr rest ↦ elim (among_append xs ys x rest) [
    | inl t ↦ inl (later_among y xs x t)
    | inr t ↦ inr t
  ]
]

pub among_left : {X : Type 0} (xs ys : List X) (x : X) → IsAmong xs x → IsAmong (xs ++ ys) x
among_left [] ys x there = absurd (nothing_in x there)
among_left (y ∷ xs) ys x there = elim (one_of y xs x there) [
  | inl e ↦ (0, (omega arith, e))
  | inr rest ↦ later_among y (xs ++ ys) x (among_left xs ys x rest)
]

pub among_right : {X : Type 0} (xs ys : List X) (x : X) → IsAmong ys x → IsAmong (xs ++ ys) x
among_right [] ys x there = there
among_right (y ∷ xs) ys x there = later_among y (xs ++ ys) x (among_right xs ys x there)

pub among_each : {X Y : Type 0} (f : X → List Y) (xs : List X) (x : X) (y : Y) → IsAmong xs x → IsAmong (f x) y
    → IsAmong (flat_map f xs) y
among_each f [] x y there at = absurd (nothing_in x there)
among_each f (z ∷ xs) x y there at = elim (one_of z xs x there) [
  | inl e ↦ among_left (f z) (flat_map f xs) y (subst (λ u. IsAmong (f u) y) e at)
  | inr rest ↦ among_right (f z) (flat_map f xs) y (among_each f xs x y rest at)
]

pub all_among : {X : Type 0} (P : X → Type 0) (xs : List X) → ((x : X) → IsAmong xs x → P x) → All P xs
all_among P xs h k d lt = h (get_or xs k d) (k, (lt, get_or_itself xs k d lt))
  where
    get_or_itself : {X : Type 0} (xs : List X) (k : ℕ) (d : X) → k < length xs
        → get_or xs k d ≡ get_or xs k (get_or xs k d)
    get_or_itself [] k d lt = refl
    get_or_itself (x ∷ xs) zero d lt = refl
    get_or_itself (x ∷ xs) (suc k) d lt = get_or_itself xs k d (omega (arith, lt))

pub among_map : {X Y : Type 0} (f : X → Y) (xs : List X) (x : X) → IsAmong xs x → IsAmong (map f xs) (f x)
among_map f [] x there = absurd (nothing_in x there)
among_map f (y ∷ xs) x there = elim (one_of y xs x there) [
  | inl e ↦ (0, (omega arith, ap f e))
  | inr rest ↦ later_among (f y) (map f xs) (f x) (among_map f xs x rest)
]

pub among_mapped : {X Y : Type 0} (f : X → Y) (xs : List X) (y : Y) → IsAmong (map f xs) y
    → (x : X) × (IsAmong xs x × (y ≡ f x))
among_mapped f [] y there = absurd (nothing_in y there)
among_mapped f (x ∷ xs) y there = elim (one_of (f x) (map f xs) y there) [
  | inl e ↦ (x, (first_among x xs, e))
  | inr rest ↦ let old = among_mapped f xs y rest in (old.0, (later_among x xs old.0 old.1.0, old.1.1))
]

pub of_all : {X : Type 0} (P : X → Type 0) (xs : List X) (x : X) → All P xs → IsAmong xs x → P x
of_all P xs x all there = subst P (sym there.1.1) (all there.0 x there.1.0)

pub member : {X : Type 0} (xs : List X) (k : ℕ) (d : X) → k < length xs → IsAmong xs (get_or xs k d)
member xs k d lt = all_among (IsAmong xs) xs (λ x h. h) k d lt

pub any_among : {X : Type 0} (p : X → Bool) (xs : List X) (x : X) → IsAmong xs x → p x ≡ true → list_any p xs ≡ true
any_among p [] x there e = absurd (nothing_in x there)
any_among p (y ∷ xs) x there e = elim (one_of y xs x there) [
  | inl same ↦ true_or (p y) (list_any p xs) (ap p (sym same) ∙ e)
  | inr rest ↦ or_true (p y) (list_any p xs) (any_among p xs x rest e)
]
