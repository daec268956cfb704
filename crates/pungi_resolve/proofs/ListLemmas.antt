-- Lists of values and of actions that begin with others.
use Rattle.std.proofs.Common.{◌≡◌, ◌∙◌, ℕ, ◌<◌, ◌+◌, List, [], ◌∷◌, ◌++◌, length, get_or, drop, map, None}
use Rattle.std.proofs.Common.{refl, sym, ap}
use Rattle.std.specs.Prelude.{slice_get}
use Rattle.std.proofs.lemmas.List.{at_drop_more}
use Rattle.pungi_resolved.specs.Values.{Value, Values, no_values, value_and}
use Rattle.pungi_resolved.specs.Actions.{Action, Actions, no_actions, action_and}
use Rattle.pungi_resolved.specs.ValueView.{values_of}
use Rattle.pungi_resolved.specs.ActionView.{actions_of}
use Rattle.pungi_resolve.specs.Outputs.{and_last}

-- these values, and others after them
abbrev pub values_before : List Value → Values → Values
values_before [] vs = vs
values_before (x ∷ xs) vs = value_and x (values_before xs vs)

pub values_before-all : (xs : List Value) → values_before xs no_values ≡ values_of xs
values_before-all [] = refl
values_before-all (x ∷ xs) = ap (value_and x) (values_before-all xs)

pub values_before-append : (xs ys : List Value) (vs : Values)
    → values_before (xs ++ ys) vs ≡ values_before xs (values_before ys vs)
values_before-append [] ys vs = refl
values_before-append (x ∷ xs) ys vs = ap (value_and x) (values_before-append xs ys vs)

pub values_of-last : {A : Type 0} (f : A → Value) (xs : List A) (x : A)
    → values_of (map f (xs ++ x ∷ [])) ≡ and_last (values_of (map f xs)) (f x)
values_of-last f [] x = refl
values_of-last f (y ∷ xs) x = ap (value_and (f y)) (values_of-last f xs x)

-- these actions, and others after them
abbrev pub actions_before : List Action → Actions → Actions
actions_before [] as' = as'
actions_before (x ∷ xs) as' = action_and x (actions_before xs as')

pub actions_before-one : {A : Type 0} (f : A → Action) (xs : List A) (x : A) (as' : Actions)
    → actions_before (map f (xs ++ x ∷ [])) as' ≡ actions_before (map f xs) (action_and (f x) as')
actions_before-one f [] x as' = refl
actions_before-one f (y ∷ xs) x as' = ap (action_and (f y)) (actions_before-one f xs x as')

pub actions_before-all : (xs : List Action) → actions_before xs no_actions ≡ actions_of xs
actions_before-all [] = refl
actions_before-all (x ∷ xs) = ap (action_and x) (actions_before-all xs)

-- what a loop has left, from one element on
pub next_one : {A : Type 0} (xs : List A) (i : ℕ) (x : A) → i < length xs → x ≡ get_or xs i x
    → drop i xs ≡ x ∷ drop (i + 1) xs
next_one xs i x h e = at_drop_more (λ l. l) xs i x h ∙ ap (λ y. y ∷ drop (i + 1) xs) (sym e)

-- a list without a first element
pub none_first : {A : Type 0} (xs : List A) → slice_get xs 0 ≡ None → xs ≡ []
none_first [] h = refl
none_first (x ∷ xs) h = absurd (cc)
