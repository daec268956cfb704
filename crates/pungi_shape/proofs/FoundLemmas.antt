-- What is noted, one goal after the other, stays noted; and facts on lists that it needs.
use Rattle.std.proofs.Common.{◌≡◌, ◌∙◌, ℕ, zero, suc, ◌<◌, Bool, true, false, Option, Some, None, IsSome, List, [], ◌∷◌}
use Rattle.std.proofs.Common.{◌++◌, length, slice_get, refl, sym, ap, subst, arith, append_assoc, append-nil}
use Rattle.std.specs.Prelude.{◌||◌, ◌&&◌, is_some, get_or, if◌then◌else◌}
use Rattle.std.specs.List.{All}
use Rattle.std.proofs.lemmas.List.Elements.{All-nil, All-cons, All-head, All-tail}
use Rattle.pungi_shape.specs.declared.search.Found.{Found}
use Rattle.pungi_shape.specs.Edges.{Goal, to_place, to_exit}
use Rattle.pungi_shape.specs.Found.{IsNoted, AreNoted, Grows, are_over, is_over, with_goal, with_goals, with_key}
use Rattle.pungi_shape.specs.Keys.{key_of, place_of}
use Rattle.pungi_shape.specs.Places.{Place}
use Rattle.pungi_shape.specs.Shapes.{numbers_of_shape}
use Rattle.pungi_shape.proofs.CatalogLemmas.{added-found, added-keeps}

-- ---- several goals

pub with_goals-append : (gs hs : List Goal) (s : Found) → with_goals (gs ++ hs) s ≡ with_goals hs (with_goals gs s)
with_goals-append [] hs s = refl
with_goals-append (g ∷ gs) hs s = with_goals-append gs hs (with_goal g s)

or_assoc : (a b c : Bool) → ((a || b) || c) ≡ (a || (b || c))
or_assoc true b c = refl
or_assoc false b c = refl

pub are_over-append : (gs hs : List Goal) (s : Found)
    → are_over (gs ++ hs) s ≡ (are_over gs s || are_over hs (with_goals gs s))
are_over-append [] hs s = refl
are_over-append (g ∷ gs) hs s =
    ap (λ b. is_over g s || b) (are_over-append gs hs (with_goal g s))
    ∙ sym (or_assoc (is_over g s) (are_over gs (with_goal g s)) (are_over hs (with_goals gs (with_goal g s))))

-- one more, of which none is too large
pub are_over-more : (gs : List Goal) (g : Goal) (s : Found) → are_over gs s ≡ false
    → is_over g (with_goals gs s) ≡ false → are_over (gs ++ g ∷ []) s ≡ false
are_over-more gs g s e h = are_over-append gs (g ∷ []) s ∙ rw (e, h) refl

-- one that is too large
pub are_over-now : (gs hs : List Goal) (g : Goal) (s : Found) → is_over g (with_goals gs s) ≡ true
    → are_over (gs ++ g ∷ hs) s ≡ true
are_over-now gs hs g s h = are_over-append gs (g ∷ hs) s ∙ rw h (or_true (are_over gs s))
  where
    or_true : (b : Bool) → (b || true) ≡ true
    or_true true = refl
    or_true false = refl

-- ---- lists and tests

pub neither : (a b : Bool) → (a || b) ≡ false → (a ≡ false) × (b ≡ false)
neither true b e = absurd (cc)
neither false b e = (refl, e)

both : (a b : Bool) → (a && b) ≡ true → (a ≡ true) × (b ≡ true)
both true b e = (refl, e)
both false b e = absurd (cc)

pub one_thing : {X : Type 0} (x y : X) → Some x ≡ Some y → x ≡ y
one_thing x y e = cc

pub all_at : {X : Type 0} (P : X → Type 0) (xs : List X) (k : ℕ) (x : X) → All P xs → slice_get xs k ≡ Some x → P x
all_at P [] zero x all e = absurd (cc)
all_at P [] (suc k) x all e = absurd (cc)
all_at P (y ∷ ys) zero x all e = subst P (one_thing y x e) (All-head P y ys all)
all_at P (y ∷ ys) (suc k) x all e = all_at P ys k x (All-tail P y ys all) e

pub get_or_any : {X : Type 0} (xs : List X) (k : ℕ) (d e : X) → k < length xs → get_or xs k d ≡ get_or xs k e
get_or_any [] k d e lt = absurd (omega (arith, lt))
get_or_any (x ∷ xs) zero d e lt = refl
get_or_any (x ∷ xs) (suc k) d e lt = get_or_any xs k d e (omega (arith, lt))

pub slice_get-left : {X : Type 0} (xs ys : List X) (k : ℕ) → k < length xs → slice_get (xs ++ ys) k ≡ slice_get xs k
slice_get-left [] ys k lt = absurd (omega (arith, lt))
slice_get-left (x ∷ xs) ys zero lt = refl
slice_get-left (x ∷ xs) ys (suc k) lt = slice_get-left xs ys k (omega (arith, lt))

-- ---- what was noted stays noted

with_goal-noted : (g : Goal) (s : Found) → IsNoted (with_goal g s) g
with_goal-noted (to_place q) s = at (place_of (key_of q) s.places) refl
  where
    at : (o : Option ℕ) → place_of (key_of q) s.places ≡ o
        → IsSome (place_of (key_of q) (if is_some o then s.places else with_key (key_of q) q s.places))
    at (Some i) e = ap is_some e
    at None e = ap is_some (added-found (key_of q) q s.places e)
with_goal-noted (to_exit x) s = at (place_of (numbers_of_shape x) s.exits) refl
  where
    at : (o : Option ℕ) → place_of (numbers_of_shape x) s.exits ≡ o
        → IsSome (place_of (numbers_of_shape x)
        (if is_some o then s.exits else with_key (numbers_of_shape x) x s.exits))
    at (Some i) e = ap is_some e
    at None e = ap is_some (added-found (numbers_of_shape x) x s.exits e)

with_goal-keeps : (g : Goal) (s : Found) (h : Goal) → IsNoted s h → IsNoted (with_goal g s) h
with_goal-keeps (to_place q) s (to_exit y) noted = noted
with_goal-keeps (to_exit x) s (to_place r) noted = noted
with_goal-keeps (to_place q) s (to_place r) noted = at (place_of (key_of q) s.places) refl
  where
    at : (o : Option ℕ) → place_of (key_of q) s.places ≡ o
        → IsSome (place_of (key_of r) (if is_some o then s.places else with_key (key_of q) q s.places))
    at (Some i) e = noted
    at None e = added-keeps (key_of q) (key_of r) q s.places e noted
with_goal-keeps (to_exit x) s (to_exit y) noted = at (place_of (numbers_of_shape x) s.exits) refl
  where
    at : (o : Option ℕ) → place_of (numbers_of_shape x) s.exits ≡ o
        → IsSome (place_of (numbers_of_shape y)
        (if is_some o then s.exits else with_key (numbers_of_shape x) x s.exits))
    at (Some i) e = noted
    at None e = added-keeps (numbers_of_shape x) (numbers_of_shape y) x s.exits e noted

with_goal-items : (g : Goal) (s : Found) → (rest : List Place) × ((with_goal g s).places.items ≡ s.places.items ++ rest)
with_goal-items (to_place q) s = at (place_of (key_of q) s.places)
  where
    at : (o : Option ℕ) → (rest : List Place)
        × ((if is_some o then s.places else with_key (key_of q) q s.places).items ≡ s.places.items ++ rest)
    at (Some i) = ([], sym (append-nil s.places.items))
    at None = (q ∷ [], refl)
with_goal-items (to_exit x) s = ([], sym (append-nil s.places.items))

pub with_goals-grows : (gs : List Goal) (s : Found) → Grows s (with_goals gs s)
with_goals-grows [] s =
    record { rest = []; places = sym (append-nil s.places.items); noted = λ g noted. noted }
with_goals-grows (g ∷ gs) s =
    let one = with_goal-items g s in
    let more = with_goals-grows gs (with_goal g s) in
    record {
      rest = one.0 ++ more.rest;
      places = more.places ∙ ap (λ z. z ++ more.rest) one.1 ∙ append_assoc s.places.items one.0 more.rest;
      noted = λ h noted. more.noted h (with_goal-keeps g s h noted);
    }

pub with_goals-noted : (gs : List Goal) (s : Found) → AreNoted (with_goals gs s) gs
with_goals-noted [] s = All-nil (IsNoted s)
with_goals-noted (g ∷ gs) s =
    let u = with_goals gs (with_goal g s) in
    All-cons (IsNoted u) g gs ((with_goals-grows gs (with_goal g s)).noted g (with_goal-noted g s))
    (with_goals-noted gs (with_goal g s))
