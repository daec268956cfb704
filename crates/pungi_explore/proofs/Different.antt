-- Lists without equal elements.
use Rattle.std.proofs.Common.{◌≡◌, suc, ◌≤◌, List, [], ◌∷◌, ◌++◌, length, map, refl, sym, ap, ◌∙◌, subst, arith}
use Rattle.std.proofs.Common.{◌⊎◌, inl, inr}
use Rattle.pungi_explore.specs.Traces.{IsIn, AreDifferent}

module _ {X : Type 0} where
  pub in_left : (x : X) (xs ys : List X) → IsIn x xs → IsIn x (xs ++ ys)
  in_left x [] ys i = absurd i
  in_left x (z ∷ xs) ys (inl e) = inl e
  in_left x (z ∷ xs) ys (inr i) = inr (in_left x xs ys i)

  pub in_right : (x : X) (xs ys : List X) → IsIn x ys → IsIn x (xs ++ ys)
  in_right x [] ys i = i
  in_right x (z ∷ xs) ys i = inr (in_right x xs ys i)

  pub in_parts : (x : X) (xs ys : List X) → IsIn x (xs ++ ys) → IsIn x xs ⊎ IsIn x ys
  in_parts x [] ys i = inr i
  in_parts x (z ∷ xs) ys (inl e) = inl (inl e)
  in_parts x (z ∷ xs) ys (inr i) = later (in_parts x xs ys i)
    where
      later : IsIn x xs ⊎ IsIn x ys → IsIn x (z ∷ xs) ⊎ IsIn x ys
      later (inl j) = inl (inr j)
      later (inr j) = inr j

  not_both : (x : X) (xs ys : List X) → (IsIn x xs → ⊥) → (IsIn x ys → ⊥) → IsIn x xs ⊎ IsIn x ys → ⊥
  not_both x xs ys a b (inl i) = a i
  not_both x xs ys a b (inr i) = b i

  pub different_joined : (xs ys : List X) → AreDifferent xs → AreDifferent ys
      → ((x : X) → IsIn x xs → IsIn x ys → ⊥) → AreDifferent (xs ++ ys)
  different_joined [] ys a b apart = b
  different_joined (x ∷ xs) ys a b apart = (
    λ i. not_both x xs ys a.0 (apart x (inl refl)) (in_parts x xs ys i),
    different_joined xs ys a.1 b (λ z i j. apart z (inr i) j),
  )

  -- ---- a list has no more different elements than it is long

  abbrev without : (x : X) (ys : List X) → IsIn x ys → List X
  without x [] i = []
  without x (y ∷ ys) (inl e) = ys
  without x (y ∷ ys) (inr i) = y ∷ without x ys i

  without_long : (x : X) (ys : List X) (i : IsIn x ys) → suc (length (without x ys i)) ≡ length ys
  without_long x [] i = absurd i
  without_long x (y ∷ ys) (inl e) = refl
  without_long x (y ∷ ys) (inr i) = ap suc (without_long x ys i)

  still_in : (x z : X) (ys : List X) (i : IsIn x ys) → IsIn z ys → (z ≡ x → ⊥) → IsIn z (without x ys i)
  still_in x z [] i j other = absurd i
  still_in x z (y ∷ ys) (inl e) (inl g) other = absurd (other (g ∙ sym e))
  still_in x z (y ∷ ys) (inl e) (inr j) other = j
  still_in x z (y ∷ ys) (inr i) (inl g) other = inl g
  still_in x z (y ∷ ys) (inr i) (inr j) other = inr (still_in x z ys i j other)

  pub as_many : (xs ys : List X) → AreDifferent xs → ((x : X) → IsIn x xs → IsIn x ys) → length xs ≤ length ys
  as_many [] ys different all = omega arith
  as_many (x ∷ xs) ys different all =
      let i = all x (inl refl) in
      let fewer = as_many xs (without x ys i) different.1 (λ z j. still_in x z ys i (all z (inr j))
      (λ e. different.0 (subst (λ y. IsIn y xs) e j))) in
      let long = without_long x ys i in
      omega (arith, fewer, long)

module _ {X Y : Type 0} (f : X → Y) where
  pub in_map : (x : X) (xs : List X) → IsIn x xs → IsIn (f x) (map f xs)
  in_map x [] i = absurd i
  in_map x (y ∷ xs) (inl e) = inl (ap f e)
  in_map x (y ∷ xs) (inr i) = inr (in_map x xs i)

  pub record IsOfMap (y : Y) (xs : List X) : Type 0 where
    pub from : X
    pub there : IsIn from xs
    pub is : y ≡ f from

  pub of_map : (y : Y) (xs : List X) → IsIn y (map f xs) → IsOfMap y xs
  of_map y [] i = absurd i
  of_map y (x ∷ xs) (inl e) = record { from = x; there = inl refl; is = e }
  of_map y (x ∷ xs) (inr i) = let r = of_map y xs i in record { from = r.from; there = inr r.there; is = r.is }

  pub different_mapped : (xs : List X) → ((x z : X) → IsIn x xs → IsIn z xs → f x ≡ f z → x ≡ z) → AreDifferent xs
      → AreDifferent (map f xs)
  different_mapped [] one a = tt
  different_mapped (x ∷ xs) one a = (
    λ i. let r = of_map (f x) xs i in a.0 (subst (λ z. IsIn z xs) (sym (one x r.from (inl refl) (inr r.there) r.is))
        r.there),
    different_mapped xs (λ y z i j. one y z (inr i) (inr j)) a.1,
  )
