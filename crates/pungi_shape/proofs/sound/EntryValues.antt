-- What parameters hold where a function is entered.
--   entry_holdings t vs     what holds these values at entry, whose objects have the tokens from t on
--   objects_of vs, numbers_of vs    the objects among these values, the numbers
--   suit_values n ks vs     values suit these kinds, one each, where there are n objects
--   AreAmong ks vs          what holds these values is among what parameters of these kinds may hold
--   first h hs              a holder in front
--   AreNamed names t os     the tokens from t on stand for these objects
--   AreCoordinates w k v is a vector has these numbers from coordinate k on
--   NamesStatic names k     a static object has its name
use Rattle.std.proofs.Common.{◌≡◌, ℕ, zero, suc, ◌+◌, ◌<◌, ◌≤◌, Bool, true, false, cond, List, [], ◌∷◌, length, map}
use Rattle.std.proofs.Common.{get_or, replicate, take, refl, sym, ap, ◌∙◌, arith, Some, None, ℤ, pos, ◌+ℤ◌}
use Rattle.std.specs.Prelude.{◌==◌, ◌&&◌, nat_lt}
use Rattle.std.specs.List.{All, IsAmong}
use Rattle.std.proofs.lemmas.Bool.{false≢true, ltb-true}
use Rattle.std.proofs.lemmas.Int.{ints}
use Rattle.std.proofs.lemmas.List.{get_or-replicate}
use Rattle.std.proofs.lemmas.List.Elements.{All-nil, All-cons}
use Rattle.pungi_base.specs.declared.value.Value.{Value}
use Rattle.pungi_base.specs.declared.value.Value.TheVariants as value
use Rattle.pungi_api.specs.declared.param.Param.{Param}
use Rattle.pungi_api.specs.declared.param.Param.TheVariants as param
use Rattle.pungi_domain.specs.Vectors.{Vector, dot}
use Rattle.pungi_world.specs.declared.content.Content.TheVariants.{Unset, Holds}
use Rattle.pungi_code.specs.Entries.{holds_value, hold_values}
use Rattle.pungi_code.specs.WellFormed.{is_object}
use Rattle.pungi_shape.specs.declared.holding.Holding.{Holding}
use Rattle.pungi_shape.specs.declared.holding.Holding.TheVariants as held
use Rattle.pungi_shape.specs.Forms.{Form, zero_form}
use Rattle.pungi_shape.specs.Shapes.{tokens_in, holding_of_static, count_of_numbers}
use Rattle.pungi_shape.specs.Scenes.{number_forms}
use Rattle.pungi_shape.specs.Places.{values_at_entry, with_first, tokens_from}
use Rattle.pungi_shape.specs.Described.{Naming, HoldsSo}
use Rattle.pungi_shape.proofs.sound.Views.{suits, Suits}
use Rattle.pungi_shape.proofs.sound.Shows.{IsLive, IsLiveIn, IsTokenHeld, key_of, total_from}
use Rattle.pungi_shape.proofs.sound.FormValues.{dot_unit, dot_zero}
use Rattle.pungi_shape.proofs.sound.Coordinates.{count_cons}
use Rattle.pungi_shape.proofs.sound.Members.{first_among, among_left, among_right, among_map}
use Rattle.pungi_shape.proofs.sound.Tests.{both_true, both_are}

abbrev pub entry_holdings : ℕ → List Value → List Holding
entry_holdings t [] = []
entry_holdings t (value.Null ∷ vs) = held.Null ∷ entry_holdings t vs
entry_holdings t (value.Object o ∷ vs) = held.Token t ∷ entry_holdings (t + 1) vs
entry_holdings t (value.Int i ∷ vs) = held.Number ∷ entry_holdings t vs
entry_holdings t (value.Text ∷ vs) = held.Text ∷ entry_holdings t vs

abbrev pub objects_of : List Value → List ℕ
objects_of [] = []
objects_of (value.Object o ∷ vs) = o ∷ objects_of vs
objects_of (v ∷ vs) = objects_of vs

abbrev pub numbers_of : List Value → List ℤ
numbers_of [] = []
numbers_of (value.Int i ∷ vs) = i ∷ numbers_of vs
numbers_of (v ∷ vs) = numbers_of vs

abbrev pub suit_values : ℕ → List Param → List Value → Bool
suit_values n [] [] = true
suit_values n [] (v ∷ vs) = false
suit_values n (k ∷ ks) [] = false
suit_values n (k ∷ ks) (v ∷ vs) = suits n k v && suit_values n ks vs

-- ---- lengths

pub length_holdings : (t : ℕ) (vs : List Value) → length (entry_holdings t vs) ≡ length vs
length_holdings t [] = refl
length_holdings t (value.Null ∷ vs) = ap suc (length_holdings t vs)
length_holdings t (value.Object o ∷ vs) = ap suc (length_holdings (t + 1) vs)
length_holdings t (value.Int i ∷ vs) = ap suc (length_holdings t vs)
length_holdings t (value.Text ∷ vs) = ap suc (length_holdings t vs)

pub length_tokens : (t : ℕ) (vs : List Value) → length (tokens_in (entry_holdings t vs)) ≡ length (objects_of vs)
length_tokens t [] = refl
length_tokens t (value.Null ∷ vs) = length_tokens t vs
length_tokens t (value.Object o ∷ vs) = ap suc (length_tokens (t + 1) vs)
length_tokens t (value.Int i ∷ vs) = length_tokens t vs
length_tokens t (value.Text ∷ vs) = length_tokens t vs

pub count_holdings : (t : ℕ) (vs : List Value) → count_of_numbers (entry_holdings t vs) ≡ length (numbers_of vs)
count_holdings t [] = refl
count_holdings t (value.Null ∷ vs) =
    count_cons held.Null (entry_holdings t vs) ∙ (let e = count_holdings t vs in omega (arith, e))
count_holdings t (value.Object o ∷ vs) =
    count_cons (held.Token t) (entry_holdings (t + 1) vs) ∙ (let e = count_holdings (t + 1) vs in omega (arith, e))
count_holdings t (value.Int i ∷ vs) =
    count_cons held.Number (entry_holdings t vs) ∙ (let e = count_holdings t vs in omega (arith, e))
count_holdings t (value.Text ∷ vs) =
    count_cons held.Text (entry_holdings t vs) ∙ (let e = count_holdings t vs in omega (arith, e))

pub length_values : (n : ℕ) (ks : List Param) (vs : List Value) → suit_values n ks vs ≡ true → length vs ≡ length ks
length_values n [] [] e = refl
length_values n [] (v ∷ vs) e = absurd (false≢true e)
length_values n (k ∷ ks) [] e = absurd (false≢true e)
length_values n (k ∷ ks) (v ∷ vs) e =
    ap suc (length_values n ks vs (both_true (suits n k v) (suit_values n ks vs) e).1)

-- ---- they are among the values at entry

abbrev AreAmong : List Param → List Value → Type 0
AreAmong ks vs = (t : ℕ) → IsAmong (values_at_entry t ks) (entry_holdings t vs)

abbrev first : Holding → List Holding → List Holding
first h hs = h ∷ hs

value_among : (n : ℕ) (k : Param) (v : Value) (ks : List Param) (vs : List Value) → suits n k v ≡ true
    → AreAmong ks vs → AreAmong (k ∷ ks) (v ∷ vs)
value_among n param.Int (value.Int i) ks vs e all t =
    among_map (first held.Number) (values_at_entry t ks) (entry_holdings t vs) (all t)
value_among n param.Long (value.Int i) ks vs e all t =
    among_map (first held.Number) (values_at_entry t ks) (entry_holdings t vs) (all t)
value_among n param.Size (value.Int i) ks vs e all t =
    among_map (first held.Number) (values_at_entry t ks) (entry_holdings t vs) (all t)
value_among n param.ObjectOrNull value.Null ks vs e all t =
    among_left (with_first held.Null (values_at_entry t ks)) (with_first (held.Token t) (values_at_entry (t + 1) ks))
    (held.Null ∷ entry_holdings t vs) (among_map (first held.Null) (values_at_entry t ks) (entry_holdings t vs) (all t))
value_among n param.ObjectOrNull (value.Object o) ks vs e all t =
    among_right (with_first held.Null (values_at_entry t ks)) (with_first (held.Token t) (values_at_entry (t + 1) ks))
    (held.Token t ∷ entry_holdings (t + 1) vs)
    (among_map (first (held.Token t)) (values_at_entry (t + 1) ks) (entry_holdings (t + 1) vs) (all (t + 1)))
value_among n param.TextOrNull value.Null ks vs e all t =
    among_left (with_first held.Null (values_at_entry t ks)) (with_first held.Text (values_at_entry t ks))
    (held.Null ∷ entry_holdings t vs) (among_map (first held.Null) (values_at_entry t ks) (entry_holdings t vs) (all t))
value_among n param.TextOrNull value.Text ks vs e all t =
    among_right (with_first held.Null (values_at_entry t ks)) (with_first held.Text (values_at_entry t ks))
    (held.Text ∷ entry_holdings t vs) (among_map (first held.Text) (values_at_entry t ks) (entry_holdings t vs) (all t))
value_among n param.Object value.Null ks vs e all t = absurd (false≢true e)
value_among n param.Text value.Null ks vs e all t = absurd (false≢true e)
value_among n param.ModuleDef value.Null ks vs e all t = absurd (false≢true e)
value_among n k v ks vs e all t = absurd (false≢true e)

pub values_among : (n : ℕ) (ks : List Param) (vs : List Value) → suit_values n ks vs ≡ true → AreAmong ks vs
values_among n [] [] e t = first_among [] []
values_among n [] (v ∷ vs) e t = absurd (false≢true e)
values_among n (k ∷ ks) [] e t = absurd (false≢true e)
values_among n (k ∷ ks) (v ∷ vs) e t =
    let both = both_true (suits n k v) (suit_values n ks vs) e in
    value_among n k v ks vs both.0 (values_among n ks vs both.1) t

-- ---- kinds

value_suits : (n : ℕ) (k : Param) (v : Value) → holds_value n k v ≡ true → suits n k v ≡ true
value_suits n param.Int (value.Int i) e = refl
value_suits n param.Long (value.Int i) e = refl
value_suits n param.Size (value.Int i) e = refl
value_suits n param.ObjectOrNull value.Null e = refl
value_suits n param.ObjectOrNull (value.Object o) e = e
value_suits n param.TextOrNull value.Null e = refl
value_suits n param.TextOrNull value.Text e = refl
value_suits n k v e = absurd (false≢true e)

-- values that fit kinds suit them
pub held_suit : (n : ℕ) (ks : List Param) (vs : List Value) → hold_values n ks vs ≡ true → suit_values n ks vs ≡ true
held_suit n [] [] e = refl
held_suit n [] (v ∷ vs) e = absurd (false≢true e)
held_suit n (k ∷ ks) [] e = absurd (false≢true e)
held_suit n (k ∷ ks) (v ∷ vs) e =
    let both = both_true (holds_value n k v) (hold_values n ks vs) e in
    both_are (suits n k v) (suit_values n ks vs) (value_suits n k v both.0) (held_suit n ks vs both.1)

pub values_suit : (n : ℕ) (ks : List Param) (p : ℕ) (vs : List Value) (x : ℕ) → suit_values n (take p ks) vs ≡ true
    → Suits n (get_or ks x param.ModuleDef) (get_or (map Holds vs) x Unset)
values_suit n ks p [] x e = tt
values_suit n ks zero (v ∷ vs) x e = absurd (false≢true e)
values_suit n [] (suc p) (v ∷ vs) x e = absurd (false≢true e)
values_suit n (k ∷ ks) (suc p) (v ∷ vs) zero e = (both_true (suits n k v) (suit_values n (take p ks) vs) e).0
values_suit n (k ∷ ks) (suc p) (v ∷ vs) (suc x) e =
    values_suit n ks p vs x (both_true (suits n k v) (suit_values n (take p ks) vs) e).1

object_there : (n : ℕ) (k : Param) (o : ℕ) → suits n k (value.Object o) ≡ true → o < n
object_there n k o e = ltb-true o n (both_true (is_object k) (nat_lt o n) e).1

pub objects_there : (n : ℕ) (ks : List Param) (vs : List Value) → suit_values n ks vs ≡ true
    → All (λ o. o < n) (objects_of vs)
objects_there n ks [] e = All-nil (λ o. o < n)
objects_there n [] (v ∷ vs) e = absurd (false≢true e)
objects_there n (k ∷ ks) (value.Object o ∷ vs) e =
    let both = both_true (suits n k (value.Object o)) (suit_values n ks vs) e in
    All-cons (λ m. m < n) o (objects_of vs) (object_there n k o both.0) (objects_there n ks vs both.1)
objects_there n (k ∷ ks) (value.Null ∷ vs) e =
    objects_there n ks vs (both_true (suits n k value.Null) (suit_values n ks vs) e).1
objects_there n (k ∷ ks) (value.Int i ∷ vs) e =
    objects_there n ks vs (both_true (suits n k (value.Int i)) (suit_values n ks vs) e).1
objects_there n (k ∷ ks) (value.Text ∷ vs) e =
    objects_there n ks vs (both_true (suits n k value.Text) (suit_values n ks vs) e).1

-- ---- what is held

abbrev pub AreNamed : Naming → ℕ → List ℕ → Type 0
AreNamed names t os = (j : ℕ) → j < length os → names (t + j) ≡ get_or os j 0

next_named : (names : Naming) (t o : ℕ) (os : List ℕ) → AreNamed names t (o ∷ os) → AreNamed names (t + 1) os
next_named names t o os all j lt =
    let same : (t + 1) + j ≡ t + suc j = omega arith in
    ap names same ∙ all (suc j) (omega (arith, lt))

pub values_hold : (names : Naming) (t : ℕ) (vs : List Value) (x : ℕ) → AreNamed names t (objects_of vs)
    → HoldsSo names (get_or (entry_holdings t vs) x held.Unset) (get_or (map Holds vs) x Unset)
values_hold names t [] x all = refl
values_hold names t (value.Null ∷ vs) zero all = refl
values_hold names t (value.Null ∷ vs) (suc x) all = values_hold names t vs x all
values_hold names t (value.Object o ∷ vs) zero all =
    let same : t ≡ t + 0 = omega arith in
    ap (λ k. Holds (value.Object k)) (sym (ap names same ∙ all 0 (omega arith)))
values_hold names t (value.Object o ∷ vs) (suc x) all =
    values_hold names (t + 1) vs x (next_named names t o (objects_of vs) all)
values_hold names t (value.Int i ∷ vs) zero all = (i, refl)
values_hold names t (value.Int i ∷ vs) (suc x) all = values_hold names t vs x all
values_hold names t (value.Text ∷ vs) zero all = refl
values_hold names t (value.Text ∷ vs) (suc x) all = values_hold names t vs x all

-- ---- numbers

same_int : (i j : ℤ) → Holds (value.Int i) ≡ Holds (value.Int j) → i ≡ j
same_int i j e = cc

abbrev pub AreCoordinates : ℕ → ℕ → Vector → List ℤ → Type 0
AreCoordinates w k v is = ((j : ℕ) → j < length is → v (k + j) ≡ get_or is j (pos 0)) × (k + length is ≤ w)

same_coordinates : (w k : ℕ) (v : Vector) (is : List ℤ) → AreCoordinates w k v is → AreCoordinates w (k + 0) v is
same_coordinates w k v is all = (
  λ j lt. (let same : (k + 0) + j ≡ k + j = omega arith in ap v same ∙ all.0 j lt),
  (let le = all.1 in omega (arith, le)),
)

next_coordinates : (w k : ℕ) (v : Vector) (i : ℤ) (is : List ℤ) → AreCoordinates w k v (i ∷ is)
    → AreCoordinates w (k + 1) v is
next_coordinates w k v i is all = (
  λ j lt. (let same : (k + 1) + j ≡ k + suc j = omega arith in ap v same ∙ all.0 (suc j) (omega (arith, lt))),
  (let le = all.1 in omega (arith, le)),
)

pub values_number : (w k t : ℕ) (v : Vector) (vs : List Value) (x : ℕ) (i : ℤ) → AreCoordinates w k v (numbers_of vs)
    → get_or (map Holds vs) x Unset ≡ Holds (value.Int i)
    → dot (get_or (number_forms w k (entry_holdings t vs)) x (zero_form w)) v ≡ i
values_number w k t v [] x i all e = absurd (cc)
values_number w k t v (value.Null ∷ vs) zero i all e = absurd (cc)
values_number w k t v (value.Null ∷ vs) (suc x) i all e =
    values_number w (k + 0) t v vs x i (same_coordinates w k v (numbers_of vs) all) e
values_number w k t v (value.Object o ∷ vs) zero i all e = absurd (cc)
values_number w k t v (value.Object o ∷ vs) (suc x) i all e =
    values_number w (k + 0) (t + 1) v vs x i (same_coordinates w k v (numbers_of vs) all) e
values_number w k t v (value.Int j ∷ vs) zero i all e =
    let same : k ≡ k + 0 = omega arith in
    dot_unit w k v (let le = all.1 in omega (arith, le)) ∙ ap v same ∙ all.0 0 (omega arith) ∙ same_int j i e
values_number w k t v (value.Int j ∷ vs) (suc x) i all e =
    values_number w (k + 1) t v vs x i (next_coordinates w k v j (numbers_of vs) all) e
values_number w k t v (value.Text ∷ vs) zero i all e = absurd (cc)
values_number w k t v (value.Text ∷ vs) (suc x) i all e =
    values_number w (k + 0) t v vs x i (same_coordinates w k v (numbers_of vs) all) e

-- ---- tokens have balances

live_in : (n : ℕ) (f : Form) (t : ℕ) → t < n → IsLive (replicate n (Some f)) t
live_in n f t lt = (f, get_or-replicate n t (Some f) None lt)

pub values_live : (n : ℕ) (f : Form) (t : ℕ) (vs : List Value) → t + length (objects_of vs) ≤ n
    → All (IsLiveIn (replicate n (Some f))) (entry_holdings t vs)
values_live n f t [] le = All-nil (IsLiveIn (replicate n (Some f)))
values_live n f t (value.Null ∷ vs) le =
    All-cons (IsLiveIn (replicate n (Some f))) held.Null (entry_holdings t vs) tt (values_live n f t vs le)
values_live n f t (value.Object o ∷ vs) le =
    All-cons (IsLiveIn (replicate n (Some f))) (held.Token t) (entry_holdings (t + 1) vs)
    (live_in n f t (omega (arith, le))) (values_live n f (t + 1) vs (omega (arith, le)))
values_live n f t (value.Int i ∷ vs) le =
    All-cons (IsLiveIn (replicate n (Some f))) held.Number (entry_holdings t vs) tt (values_live n f t vs le)
values_live n f t (value.Text ∷ vs) le =
    All-cons (IsLiveIn (replicate n (Some f))) held.Text (entry_holdings t vs) tt (values_live n f t vs le)

pub statics_live : (n : ℕ) (f : Form) (t : ℕ) (ks : List ℕ) → t + length ks ≤ n
    → All (IsLiveIn (replicate n (Some f))) (map holding_of_static (tokens_from t ks))
statics_live n f t [] le = All-nil (IsLiveIn (replicate n (Some f)))
statics_live n f t (k ∷ ks) le =
    All-cons (IsLiveIn (replicate n (Some f))) (held.Token t) (map holding_of_static (tokens_from (t + 1) ks))
    (live_in n f t (omega (arith, le))) (statics_live n f (t + 1) ks (omega (arith, le)))

pub statics_tokens : (t : ℕ) (ks : List ℕ) → All IsTokenHeld (map holding_of_static (tokens_from t ks))
statics_tokens t [] = All-nil IsTokenHeld
statics_tokens t (k ∷ ks) =
    All-cons IsTokenHeld (held.Token t) (map holding_of_static (tokens_from (t + 1) ks)) (t, refl)
    (statics_tokens (t + 1) ks)

pub statics_keys : (t : ℕ) (ks : List ℕ) → map key_of (tokens_from t ks) ≡ ks
statics_keys t [] = refl
statics_keys t (k ∷ ks) = ap (λ ls. k ∷ ls) (statics_keys (t + 1) ks)

abbrev NamesStatic : Naming → ℕ × Holding → Type 0
NamesStatic names k = HoldsSo names k.1 (Holds (value.Object k.0))

pub statics_hold : (names : Naming) (t : ℕ) (ks : List ℕ) → AreNamed names t ks
    → All (λ k. HoldsSo names k.1 (Holds (value.Object k.0))) (tokens_from t ks)
statics_hold names t [] all = All-nil (NamesStatic names)
statics_hold names t (k ∷ ks) all =
    let same : t ≡ t + 0 = omega arith in
    All-cons (NamesStatic names) (k, held.Token t) (tokens_from (t + 1) ks)
    (ap (λ j. Holds (value.Object j)) (sym (ap names same ∙ all 0 (omega arith))))
    (statics_hold names (t + 1) ks (next_named names t k ks all))

-- ---- nothing is owed

pub nothing_yet : (names : Naming) (w t n : ℕ) (v : Vector) (k : ℕ)
    → total_from t names (replicate n (Some (zero_form w))) v k ≡ pos 0
nothing_yet names w t zero v k = refl
nothing_yet names w t (suc n) v k =
    let rest = nothing_yet names w (suc t) n v k in
    ap (λ z. z +ℤ total_from (suc t) names (replicate n (Some (zero_form w))) v k)
    (at (names t == k) (dot (zero_form w) v) (dot_zero w v)) ∙ (omega (arith, ints, rest))
  where
    at : (b : Bool) (x : ℤ) → x ≡ pos 0 → cond b x (pos 0) ≡ pos 0
    at true x e = e
    at false x e = refl
