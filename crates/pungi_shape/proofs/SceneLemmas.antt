-- Scenes at places fit, and are fresh.
use Rattle.std.proofs.Common.{◌≡◌, ℕ, zero, suc, ◌+◌, ◌<◌, ◌≤◌, ◌==◌, Bool, true, false, ℤ, pos, Some}
use Rattle.std.proofs.Common.{List, [], ◌∷◌, length, map, refl, arith, if◌then◌else◌, Option}
use Rattle.std.specs.List.{All, range_with_len}
use Rattle.std.proofs.lemmas.Int.{ints}
use Rattle.std.proofs.lemmas.List.Elements.{All-cons, All-nil, All-replicate}
use Rattle.pungi_domain.specs.Vectors.{IsWithin, at}
use Rattle.pungi_shape.specs.declared.holding.Holding.{Holding}
use Rattle.pungi_shape.specs.declared.shape.Shape.{Shape}
use Rattle.pungi_shape.specs.Bounds.{HasWidth, IsCoordinate, IsFresh, IsPlain, IsScene, IsShape}
use Rattle.pungi_shape.specs.Forms.{Form, one_if, unit, zero_form}
use Rattle.pungi_shape.specs.Scenes.{form_or, number_form, number_forms, scene_of, scene_over, token_forms}
use Rattle.pungi_shape.specs.Shapes.{is_number, width_of}

-- ---- widths

map_length : (f : ℕ → ℤ) (a n : ℕ) → length (map f (range_with_len a n)) ≡ n
map_length f a zero = refl
map_length f a (suc n) = (let h = map_length f (a + 1) n in omega (arith, h))

unit_width : (w k : ℕ) → length (unit w k) ≡ w
unit_width w k = map_length (λ i. if i == k then pos 1 else pos 0) 0 w

pub zero_width : (w : ℕ) → length (zero_form w) ≡ w
zero_width zero = refl
zero_width (suc w) = (let h = zero_width w in omega (arith, h))

number_width : (w k : ℕ) (h : Holding) → length (number_form w k h) ≡ w
number_width w k h = go (is_number h) refl
  where
    go : (b : Bool) → is_number h ≡ b → length (number_form w k h) ≡ w
    go true e = rw e (unit_width w k)
    go false e = rw e (zero_width w)

pub numbers_width : (w k : ℕ) (hs : List Holding) → All (HasWidth w) (number_forms w k hs)
numbers_width w k [] = All-nil (HasWidth w)
numbers_width w k (h ∷ hs) =
    All-cons (HasWidth w) (number_form w k h) (number_forms w (k + one_if (is_number h)) hs) (number_width w k h)
    (numbers_width w (k + one_if (is_number h)) hs)

pub numbers_length : (w k : ℕ) (hs : List Holding) → length (number_forms w k hs) ≡ length hs
numbers_length w k [] = refl
numbers_length w k (h ∷ hs) = (let e = numbers_length w (k + one_if (is_number h)) hs in omega (arith, e))

-- each of the tokens' balances is a coordinate
tokens_are : (P : Option Form → Type 0) (w k n : ℕ) → ((i : ℕ) → P (Some (unit w i))) → All P (token_forms w k n)
tokens_are P w k zero h = All-nil P
tokens_are P w k (suc n) h =
    All-cons P (Some (unit w k)) (token_forms w (k + 1) n) (h k) (tokens_are P w (k + 1) n h)

tokens_length : (w k n : ℕ) → length (token_forms w k n) ≡ n
tokens_length w k zero = refl
tokens_length w k (suc n) = (let h = tokens_length w (k + 1) n in omega (arith, h))

pub scene_over-scene : (w : ℕ) (s : Shape) → IsShape s → IsScene (scene_over w s)
scene_over-scene w s h = record {
  vars = numbers_length w _ s.vars;
  entry = numbers_length w _ s.entry;
  balances = tokens_length w _ (length s.made);
  var_widths = numbers_width w _ s.vars;
  returned_width = number_width w _ s.returned;
  entry_widths = numbers_width w _ s.entry;
  balance_widths = tokens_are (λ o. HasWidth w (form_or w o)) w _ (length s.made) (λ i. unit_width w i);
  tokens = h.tokens;
}

pub scene_of-scene : (s : Shape) → IsShape s → IsScene (scene_of s)
scene_of-scene s h = scene_over-scene (width_of s) s h

-- ---- coefficients

within_one : (n : ℕ) → n ≤ 1 → IsWithin 1 (pos n)
within_one n le = (omega (arith, ints, le), omega (arith, ints))

unit_within : (a n k : ℕ) → All (IsWithin 1) (map (λ i. if i == k then pos 1 else pos 0) (range_with_len a n))
unit_within a zero k = All-nil (IsWithin 1)
unit_within a (suc n) k =
    All-cons (IsWithin 1) (if a == k then pos 1 else pos 0) _ (pick (a == k)) (unit_within (a + 1) n k)
  where
    pick : (b : Bool) → IsWithin 1 (if b then pos 1 else pos 0)
    pick true = within_one 1 (omega arith)
    pick false = within_one 0 (omega arith)

zero_within : (w : ℕ) → All (IsWithin 1) (zero_form w)
zero_within w = All-replicate (IsWithin 1) w (pos 0) (within_one 0 (omega arith))

unit_leading : (w k : ℕ) → 0 < k → at (unit w k) 0 ≡ pos 0
unit_leading zero k lt = refl
unit_leading (suc w) k lt = (let ne : (0 == k) ≡ false = grind (arith, lt) in rw ne refl)

zero_leading : (w : ℕ) → at (zero_form w) 0 ≡ pos 0
zero_leading zero = refl
zero_leading (suc w) = refl

pub unit-coordinate : (w k : ℕ) → 0 < k → IsCoordinate (unit w k)
unit-coordinate w k lt = record { leading = unit_leading w k lt; within = unit_within 0 w k }

coordinate : (w k : ℕ) (h : Holding) → 0 < k → IsCoordinate (number_form w k h)
coordinate w k h lt = go (is_number h) refl
  where
    go : (b : Bool) → is_number h ≡ b → IsCoordinate (number_form w k h)
    go true e = rw e (unit-coordinate w k lt)
    go false e = rw e (record { leading = zero_leading w; within = zero_within w })

pub number-coordinates : (w k : ℕ) (hs : List Holding) → 0 < k → All IsCoordinate (number_forms w k hs)
number-coordinates w k [] lt = All-nil IsCoordinate
number-coordinates w k (h ∷ hs) lt =
    All-cons IsCoordinate (number_form w k h) (number_forms w (k + one_if (is_number h)) hs) (coordinate w k h lt)
    (number-coordinates w (k + one_if (is_number h)) hs (omega (arith, lt)))

pub scene_over-plain : (w : ℕ) (s : Shape) → IsPlain (scene_over w s)
scene_over-plain w s = record {
  vars = number-coordinates w 1 s.vars (omega arith);
  balances = tokens_are (λ o. All (IsWithin 1) (form_or w o)) w _ (length s.made) (λ i. unit_within 0 w i);
}

pub scene_of-plain : (s : Shape) → IsPlain (scene_of s)
scene_of-plain s = scene_over-plain (width_of s) s

pub scene_over-fresh : (w : ℕ) (s : Shape) → IsShape s → width_of s ≤ 256 → IsFresh (scene_over w s)
scene_over-fresh w s h narrow =
    let p = scene_over-plain w s in
    record { vars = p.vars; balances = p.balances; few = omega (arith, h.made, narrow) }

pub scene_of-fresh : (s : Shape) → IsShape s → width_of s ≤ 256 → IsFresh (scene_of s)
scene_of-fresh s h narrow = scene_over-fresh (width_of s) s h narrow
