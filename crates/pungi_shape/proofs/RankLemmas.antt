-- Places and exit classes by their numbers, and lists that grow by what each of them gives.
use Rattle.std.proofs.Common.{◌≡◌, ◌∙◌, ℕ, ◌+◌, ◌<◌, ◌≤◌, ◌^◌, Bool, true, false, cond, List, [], ◌∷◌, ◌++◌, length}
use Rattle.std.proofs.Common.{map, drop, get_or, slice_get, Some, sym, ap, subst, arith, append-nil}
use Rattle.std.proofs.Common.{append_assoc}
use Rattle.std.specs.List.{All, IsAmong, count_by, enumerate_from, flat_map}
use Rattle.std.proofs.lemmas.List.{drop_all, drop_more}
use Rattle.std.proofs.lemmas.List.Elements.{All-head}
use Rattle.std.proofs.lemmas.List.Sums.{sum_by-drop_more}
use Rattle.std.proofs.lemmas.Option.{get_or_from_slice_get, slice_get-get_or, slice_get_within}
use Rattle.pungi_code.specs.declared.code.Code.{Code}
use Rattle.pungi_shape.specs.declared.programs.Ranked.{Ranked}
use Rattle.pungi_shape.specs.declared.search.Found.{Found}
use Rattle.pungi_shape.specs.declared.shape.Shape.{Shape}
use Rattle.pungi_shape.specs.Bounds.{AreTokens, bases_in, IsShape}
use Rattle.pungi_shape.specs.Found.{IsPlain}
use Rattle.pungi_shape.specs.Keys.{key_of}
use Rattle.pungi_shape.specs.Places.{Place, at_entry, at_point, after_call, width_at}
use Rattle.pungi_shape.specs.Ranks.{AreNumbers, exits_in, places_in}
use Rattle.pungi_shape.specs.Reached.{IsExit, IsReached, shape_at}
use Rattle.pungi_shape.specs.Shapes.{holders, numbers_of_shape, tokens_in}
use Rattle.pungi_shape.proofs.ArrivalWhole.{all_left, all_right, tokens_few}
use Rattle.pungi_shape.proofs.CatalogLemmas.{in_order-all, in_order-at, length-in_order, length-order, order-places}

-- ---- lists

pub at-all : {X : Type 0} (P : X → Type 0) (xs : List X) (k : ℕ) (x : X) → All P xs → slice_get xs k ≡ Some x → P x
at-all P xs k x all e = subst P (get_or_from_slice_get xs k x x e) (all k x (slice_get_within xs k x e))

pub among-all : {X : Type 0} (P : X → Type 0) (xs : List X) (x : X) → All P xs → IsAmong xs x → P x
among-all P xs x all there = subst P (sym there.1.1) (all there.0 x there.1.0)

pub drop-at : {X : Type 0} (xs : List X) (k : ℕ) (x : X) → slice_get xs k ≡ Some x → drop k xs ≡ x ∷ drop (k + 1) xs
drop-at xs k x e =
    drop_more xs k x (slice_get_within xs k x e) ∙ ap (λ y. y ∷ drop (k + 1) xs) (get_or_from_slice_get xs k x x e)

-- the last one, and all before it
pub popped-all : {X : Type 0} (P : X → Type 0) (xs : List X) (x : X) → All P (xs ++ x ∷ []) → All P xs × P x
popped-all P xs x all = (all_left P xs (x ∷ []) all, All-head P x [] (all_right P xs (x ∷ []) all))

pub popped-rest : {X : Type 0} (xs left rest all : List X) (x : X) → xs ≡ left ++ x ∷ [] → xs ++ rest ≡ all
    → left ++ x ∷ rest ≡ all
popped-rest xs left rest all x last e =
    sym (append_assoc left (x ∷ []) rest) ∙ ap (λ l. l ++ rest) (sym last) ∙ e

module _ {X Y : Type 0} (f : X → Y) (xs : List X) (ys all : List Y) (k : ℕ)
    (so_far : ys ++ map f (drop k xs) ≡ all) where
  pub map-step : (x : X) → slice_get xs k ≡ Some x → (ys ++ f x ∷ []) ++ map f (drop (k + 1) xs) ≡ all
  map-step x e =
      append_assoc ys (f x ∷ []) (map f (drop (k + 1) xs)) ∙ ap (λ l. ys ++ map f l) (sym (drop-at xs k x e)) ∙ so_far

  pub map-end : length xs ≤ k → ys ≡ all
  map-end le = sym (append-nil ys) ∙ ap (λ l. ys ++ map f l) (sym (drop_all k xs le)) ∙ so_far

-- what each gives by its number
module _ {X Y : Type 0} (f : ℕ × X → List Y) (xs : List X) (ys all : List Y) (k : ℕ)
    (so_far : ys ++ flat_map f (enumerate_from k (drop k xs)) ≡ all) where
  pub flat-step : (x : X) → slice_get xs k ≡ Some x
      → (ys ++ f (k, x)) ++ flat_map f (enumerate_from (k + 1) (drop (k + 1) xs)) ≡ all
  flat-step x e =
      append_assoc ys (f (k, x)) (flat_map f (enumerate_from (k + 1) (drop (k + 1) xs)))
      ∙ ap (λ l. ys ++ flat_map f (enumerate_from k l)) (sym (drop-at xs k x e)) ∙ so_far

  pub flat-end : length xs ≤ k → ys ≡ all
  flat-end le =
      sym (append-nil ys) ∙ ap (λ l. ys ++ flat_map f (enumerate_from k l)) (sym (drop_all k xs le)) ∙ so_far

module _ {X : Type 0} (p : X → Bool) (xs : List X) (k : ℕ) (x : X) (there : slice_get xs k ≡ Some x) where
  count-more : (b : Bool) → p x ≡ b → count_by p (drop k xs) ≡ cond b 1 0 + count_by p (drop (k + 1) xs)
  count-more b e =
      sum_by-drop_more (λ y. cond (p y) 1 0) xs k x (slice_get_within xs k x there)
      ∙ ap (λ y. cond (p y) 1 0 + count_by p (drop (k + 1) xs)) (get_or_from_slice_get xs k x x there)
      ∙ ap (λ c. cond c 1 0 + count_by p (drop (k + 1) xs)) e

  pub count-yes : (n all : ℕ) → n + count_by p (drop k xs) ≡ all → p x ≡ true
      → (n + 1) + count_by p (drop (k + 1) xs) ≡ all
  count-yes n all so_far passes =
      let more : count_by p (drop k xs) ≡ 1 + count_by p (drop (k + 1) xs) = count-more true passes in
      omega (arith, so_far, more)

  pub count-no : (n all : ℕ) → n + count_by p (drop k xs) ≡ all → p x ≡ false → n + count_by p (drop (k + 1) xs) ≡ all
  count-no n all so_far fails =
      let more : count_by p (drop k xs) ≡ 0 + count_by p (drop (k + 1) xs) = count-more false fails in
      omega (arith, so_far, more)

pub count-end : {X : Type 0} (p : X → Bool) (xs : List X) (k n all : ℕ) → n + count_by p (drop k xs) ≡ all
    → length xs ≤ k → n ≡ all
count-end p xs k n all so_far le =
    let none : count_by p (drop k xs) ≡ 0 = ap (count_by p) (drop_all k xs le) in
    omega (arith, so_far, none)

-- ---- what is reached

pub reached-plain : (code : Code) (q : Place) → IsReached code q → IsPlain q
reached-plain code (at_entry s) h = h.shape
reached-plain code (at_point p s) h = h.0.shape
reached-plain code (after_call p s x) h = (h.0.shape, h.1.0)

few-made : (s : Shape) → IsShape s → AreTokens (2 ^ 31) s → length s.made ≤ 2 ^ 31
few-made s h tokens =
    let few = tokens_few (2 ^ 31) (tokens_in (holders s))
    (all_left (λ t. t < 2 ^ 31) (tokens_in (holders s)) (bases_in s.slots) tokens) in
    let made = h.made in
    omega (arith, few, made)

pub reached-made : (code : Code) (q : Place) → IsReached code q → AreTokens (2 ^ 31) (shape_at q)
    → length (shape_at q).made ≤ 2 ^ 31
reached-made code (at_entry s) h tokens = few-made s h.shape tokens
reached-made code (at_point p s) h tokens = few-made s h.0.shape tokens
reached-made code (after_call p s x) h tokens = few-made s h.0.shape tokens

-- ---- numbers

module _ (s : Found) (pr er : Ranked) (h : AreNumbers s pr er) where
  pub places-length : length pr.order.items ≡ length (places_in s)
  places-length =
      ap length h.places.order ∙ length-order key_of s.places h.place_catalog
      ∙ sym (length-in_order key_of s.places h.place_catalog)

  pub places-few : length pr.order.items ≤ 8192
  places-few =
      let long = ap length h.places.order ∙ length-order key_of s.places h.place_catalog in
      let few = h.few in
      omega (arith, long, few)

  pub exits-length : length er.order.items ≡ length (exits_in s)
  exits-length =
      ap length h.exits.order ∙ length-order numbers_of_shape s.exits h.exit_catalog
      ∙ sym (length-in_order numbers_of_shape s.exits h.exit_catalog)

  pub place-within : (k p : ℕ) → slice_get pr.order.items k ≡ Some p → p < length s.places.items
  place-within k p e =
      let lt = order-places key_of s.places h.place_catalog k p
      (subst (λ l. slice_get l k ≡ Some p) h.places.order e) in
      let long = length-order key_of s.places h.place_catalog in
      omega (arith, lt, long)

  pub exit-within : (k p : ℕ) → slice_get er.order.items k ≡ Some p → p < length s.exits.items
  exit-within k p e =
      let lt = order-places numbers_of_shape s.exits h.exit_catalog k p
      (subst (λ l. slice_get l k ≡ Some p) h.exits.order e) in
      let long = length-order numbers_of_shape s.exits h.exit_catalog in
      omega (arith, lt, long)

  -- what stands at the place that an order names
  pub place-there : (k p : ℕ) (q : Place) → slice_get pr.order.items k ≡ Some p → q ≡ get_or s.places.items p q
      → slice_get (places_in s) k ≡ Some q
  place-there k p q e is =
      in_order-at key_of s.places h.place_catalog k p (subst (λ l. slice_get l k ≡ Some p) h.places.order e)
      ∙ slice_get-get_or s.places.items p q (place-within k p e) ∙ ap Some (sym is)

  pub exit-there : (k p : ℕ) (x : Shape) → slice_get er.order.items k ≡ Some p → x ≡ get_or s.exits.items p x
      → slice_get (exits_in s) k ≡ Some x
  exit-there k p x e is =
      in_order-at numbers_of_shape s.exits h.exit_catalog k p (subst (λ l. slice_get l k ≡ Some p) h.exits.order e)
      ∙ slice_get-get_or s.exits.items p x (exit-within k p e) ∙ ap Some (sym is)

  pub place-plain : (k : ℕ) (q : Place) → slice_get (places_in s) k ≡ Some q → IsPlain q
  place-plain k q e =
      reached-plain h.code q (at-all (IsReached h.code) (places_in s) k q
      (in_order-all key_of s.places h.place_catalog (IsReached h.code) h.reached) e)

  pub place-narrow : (k : ℕ) (q : Place) → slice_get (places_in s) k ≡ Some q → width_at q ≤ 256
  place-narrow k q e =
      at-all (λ r. width_at r ≤ 256) (places_in s) k q
      (in_order-all key_of s.places h.place_catalog (λ r. width_at r ≤ 256) h.narrow) e

  pub exit-class : (k : ℕ) (x : Shape) → slice_get (exits_in s) k ≡ Some x → IsExit h.code x
  exit-class k x e =
      at-all (IsExit h.code) (exits_in s) k x
      (in_order-all numbers_of_shape s.exits h.exit_catalog (IsExit h.code) h.classes) e
