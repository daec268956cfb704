-- What holds of each element of a list.
use Rattle.std.proofs.Common.{◌≡◌, List, [], ◌∷◌, ◌++◌, map, Bool, true, false, refl, sym, subst, cond, inl, inr}
use Rattle.std.specs.List.{flat_map}
use Rattle.std.proofs.lemmas.List.Concat.{flat_map-cons}
use Rattle.pungi_explore.specs.Traces.{IsIn}

abbrev pub Each : {X : Type 0} → (X → Type 0) → List X → Type 0
Each P [] = Unit {0}
Each P (x ∷ xs) = P x × Each P xs

module _ {X : Type 0} (P : X → Type 0) where
  pub each_joined : (xs ys : List X) → Each P xs → Each P ys → Each P (xs ++ ys)
  each_joined [] ys h g = g
  each_joined (x ∷ xs) ys h g = (h.0, each_joined xs ys h.1 g)

  pub each_left : (xs ys : List X) → Each P (xs ++ ys) → Each P xs
  each_left [] ys h = tt
  each_left (x ∷ xs) ys h = (h.0, each_left xs ys h.1)

  pub each_right : (xs ys : List X) → Each P (xs ++ ys) → Each P ys
  each_right [] ys h = h
  each_right (x ∷ xs) ys h = each_right xs ys h.1

  pub each_in : (x : X) (xs : List X) → Each P xs → IsIn x xs → P x
  each_in x [] h i = absurd i
  each_in x (y ∷ xs) h (inl e) = subst P (sym e) h.0
  each_in x (y ∷ xs) h (inr i) = each_in x xs h.1 i

  pub each_weaker : (Q : X → Type 0) → ((x : X) → P x → Q x) → (xs : List X) → Each P xs → Each Q xs
  each_weaker Q w [] h = tt
  each_weaker Q w (x ∷ xs) h = (w x h.0, each_weaker Q w xs h.1)

  pub each_mapped : {Y : Type 0} (f : Y → X) (ys : List Y) → Each P (map f ys) → Each (λ y. P (f y)) ys
  each_mapped f [] h = tt
  each_mapped f (y ∷ ys) h = (h.0, each_mapped f ys h.1)

  pub each_of_map : {Y : Type 0} (f : Y → X) (ys : List Y) → Each (λ y. P (f y)) ys → Each P (map f ys)
  each_of_map f [] h = tt
  each_of_map f (y ∷ ys) h = (h.0, each_of_map f ys h.1)

  pub each_if : (b : Bool) (x : X) → Each P (cond b (x ∷ []) []) → b ≡ true → P x
  each_if true x h e = h.0
  each_if false x h e = absurd (let bad : false ≡ true = e in cc)

  pub each_of_if : (b : Bool) (x : X) → (b ≡ true → P x) → Each P (cond b (x ∷ []) [])
  each_of_if true x h = (h refl, tt)
  each_of_if false x h = tt

  pub each_flat : {Y : Type 0} (f : Y → List X) (y : Y) (ys : List Y) → IsIn y ys → Each P (flat_map f ys)
      → Each P (f y)
  each_flat f y [] i h = absurd i
  each_flat f y (z ∷ ys) (inl e) h = subst (λ x. Each P (f x)) (sym e) (each_left (f z) (flat_map f ys)
      (subst (Each P) (flat_map-cons f z ys) h))
  each_flat f y (z ∷ ys) (inr i) h = each_flat f y ys i (each_right (f z) (flat_map f ys)
      (subst (Each P) (flat_map-cons f z ys) h))

  pub each_of_flat : {Y : Type 0} (f : Y → List X) → ((y : Y) → Each P (f y)) → (ys : List Y) → Each P (flat_map f ys)
  each_of_flat f h [] = tt
  each_of_flat f h (y ∷ ys) = subst (Each P) (sym (flat_map-cons f y ys))
      (each_joined (f y) (flat_map f ys) (h y) (each_of_flat f h ys))
