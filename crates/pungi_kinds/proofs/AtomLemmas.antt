-- What an atom of a well-formed code stands for is of its kind.
use Rattle.std.proofs.Common.{◌≡◌, ℕ, ◌<◌, ◌≤◌, ◌&&◌, ◌||◌, Bool, true, false, List, [], ◌∷◌}
use Rattle.std.proofs.Common.{Option, Some, None, option_map, length, map, refl, ap, ◌∙◌, subst, arith, ltb-true}
use Rattle.std.specs.Prelude.{ℤ, nat_lt, if◌then◌else◌}
use Rattle.std.specs.List.{list_all}
use Rattle.pungi_base.specs.declared.value.Value.{Value}
use Rattle.pungi_base.specs.declared.value.Value.TheVariants as value
use Rattle.pungi_api.specs.declared.param.Param.{Param}
use Rattle.pungi_api.specs.declared.param.Param.TheVariants as param
use Rattle.pungi_world.specs.declared.content.Content.{Content}
use Rattle.pungi_world.specs.declared.content.Content.TheVariants.{Unset, Holds}
use Rattle.pungi_meaning.specs.declared.cmp.Cmp.{Cmp}
use Rattle.pungi_code.specs.declared.atom.Atom.{Atom}
use Rattle.pungi_code.specs.declared.atom.Atom.TheVariants as atom
use Rattle.pungi_code.specs.declared.place.Place.{Place}
use Rattle.pungi_code.specs.declared.place.Place.TheVariants.{Global, Field}
use Rattle.pungi_code.specs.Entries.{holds_value}
use Rattle.pungi_code.specs.Registers.{content_of, both_values, all_values}
use Rattle.pungi_code.specs.WellFormed.{atom_is, are_alike, are_arguments, is_argument, is_condition, is_constant}
use Rattle.pungi_code.specs.WellFormed.{is_number, is_object, is_order, is_place, is_returned, is_slot_kind, is_text}
use Rattle.pungi_code.specs.WellFormed.{is_there, is_wide, number_fits, var_kind, atom_in, atoms_in}
use Rattle.pungi_layout.proofs.well_formed.Both.{and_true, and_left, and_right}
use Rattle.pungi_kinds.specs.Contents.{are_two, argument_kind, arguments_hold, content_holds, contents_hold}
use Rattle.pungi_kinds.specs.Contents.{gives_result, may_be_compared}
use Rattle.pungi_kinds.specs.Taken.{atom_holds, base_holds, contents_of}
use Rattle.pungi_kinds.proofs.ValueLemmas.{or_first, or_second, either, lt_true}
use Rattle.pungi_kinds.proofs.ValueLemmas.{wider_content, content_read}

number_held : (n : ℕ) (k : Param) (z : ℤ) → number_fits k z ≡ true → holds_value n k (value.Int z) ≡ true
number_held n param.Int z h = h
number_held n param.Long z h = h
number_held n param.Size z h = h
number_held n _ z h = absurd (cc)

null_held : (n : ℕ) (k : Param) → (is_object k || is_text k) ≡ true → holds_value n k value.Null ≡ true
null_held n param.ObjectOrNull h = refl
null_held n param.TextOrNull h = refl
null_held n _ h = absurd (cc)

text_held : (n : ℕ) (k : Param) → is_text k ≡ true → holds_value n k value.Text ≡ true
text_held n param.TextOrNull h = refl
text_held n _ h = absurd (cc)

static_held : (n i : ℕ) (k : Param) → is_object k ≡ true → i < n → holds_value n k (value.Object i) ≡ true
static_held n i param.ObjectOrNull h l = lt_true i n l
static_held n i _ h l = absurd (cc)

-- `there`: the static objects of the file are there
module _ (statics n : ℕ) (there : statics ≤ n) (vars : List Param) (cs : List Content)
    (held : contents_hold n vars cs ≡ true) where
  pub atom_held : (k : Param) (a : Atom) → atom_is vars k a ≡ true → is_there statics a ≡ true
      → atom_holds n cs k a ≡ true
  atom_held k (atom.Var x) h t =
      wider_content n (var_kind vars x) k (content_of (atom.Var x) cs)
      (and_right (nat_lt x.0 (length vars)) (is_wide (var_kind vars x) k) h) (content_read n vars cs x.0 held)
  atom_held k (atom.Int z) h t = number_held n k z (and_left (number_fits k z) (is_constant z) h)
  atom_held k atom.Null h t = null_held n k h
  atom_held k atom.Text h t = text_held n k h
  atom_held k (atom.Static i) h t = let l = ltb-true i statics t in static_held n i k h (omega arith)

  abbrev pub Two : Param → Atom → Atom → Bool
  Two k a b = are_two n k (content_of a cs) (content_of b cs)

  pub two_held : (k : Param) (a b : Atom) → (atom_is vars k a && atom_is vars k b) ≡ true
      → is_there statics a ≡ true → is_there statics b ≡ true → Two k a b ≡ true
  two_held k a b h s t =
      and_true (atom_holds n cs k a) (atom_holds n cs k b)
      (atom_held k a (and_left (atom_is vars k a) (atom_is vars k b) h) s)
      (atom_held k b (and_right (atom_is vars k a) (atom_is vars k b) h) t)

  alike_held : (a b : Atom) → are_alike vars a b ≡ true → is_there statics a ≡ true → is_there statics b ≡ true
      → (Two param.Long a b || (Two param.ObjectOrNull a b || Two param.TextOrNull a b)) ≡ true
  alike_held a b h s t =
      let objects = Two param.ObjectOrNull a b in
      let texts = Two param.TextOrNull a b in
      either (is_number vars a && is_number vars b) _
      (λ e. or_first (Two param.Long a b) (objects || texts) (two_held param.Long a b e s t))
      (λ more. or_second (Two param.Long a b) (objects || texts)
      (either (atom_is vars param.ObjectOrNull a && atom_is vars param.ObjectOrNull b) _
      (λ e. or_first objects texts (two_held param.ObjectOrNull a b e s t))
      (λ e. or_second objects texts (two_held param.TextOrNull a b e s t)) more)) h

  pub compare_held : (c : Cmp) (a b : Atom)
      → (if is_order c then is_number vars a && is_number vars b else are_alike vars a b) ≡ true
      → is_there statics a ≡ true → is_there statics b ≡ true
      → may_be_compared n c (content_of a cs) (content_of b cs) ≡ true
  compare_held c a b h s t = by (is_order c) h
    where
      by : (o : Bool) → (if o then is_number vars a && is_number vars b else are_alike vars a b) ≡ true
          → (if o then Two param.Long a b else
          Two param.Long a b || (Two param.ObjectOrNull a b || Two param.TextOrNull a b)) ≡ true
      by true e = two_held param.Long a b e s t
      by false e = alike_held a b e s t

  pub condition_held : (a : Atom) → is_condition vars a ≡ true → is_there statics a ≡ true
      → (atom_holds n cs param.Long a || (atom_holds n cs param.ObjectOrNull a || atom_holds n cs param.TextOrNull a))
      ≡ true
  condition_held a h t =
      let object = atom_holds n cs param.ObjectOrNull a in
      let text = atom_holds n cs param.TextOrNull a in
      either (is_number vars a) _
      (λ e. or_first (atom_holds n cs param.Long a) (object || text) (atom_held param.Long a e t))
      (λ more. or_second (atom_holds n cs param.Long a) (object || text) (either (atom_is vars param.ObjectOrNull a)
      (atom_is vars param.TextOrNull a) (λ e. or_first object text (atom_held param.ObjectOrNull a e t))
      (λ e. or_second object text (atom_held param.TextOrNull a e t)) more)) h

  pub place_held : (place : Place) (k : Param) → is_place vars place k ≡ true
      → list_all (is_there statics) (atoms_in place) ≡ true → base_holds n cs place ≡ true
  place_held (Global name kind) k h t = refl
  place_held (Field base tag field kind) k h t =
      atom_held param.ObjectOrNull base (and_left (atom_is vars param.ObjectOrNull base)
      (is_slot_kind kind && (is_wide kind k && is_wide k kind)) h) (and_left (is_there statics base) true t)

  argument_held : (p : Param) (a : Atom) → is_argument vars p a ≡ true → is_there statics a ≡ true
      → atom_holds n cs (argument_kind p) a ≡ true
  argument_held param.Object a h t = atom_held param.ObjectOrNull a h t
  argument_held param.Text a h t = atom_held param.TextOrNull a h t
  argument_held param.ModuleDef a h t = atom_held param.TextOrNull a h t
  argument_held param.ObjectOrNull a h t = atom_held param.ObjectOrNull a h t
  argument_held param.Int a h t = atom_held param.Int a h t
  argument_held param.Long a h t = atom_held param.Long a h t
  argument_held param.Size a h t = atom_held param.Size a h t
  argument_held param.TextOrNull a h t = atom_held param.TextOrNull a h t

  pub arguments_held : (ps : List Param) (as' : List Atom) → are_arguments vars ps as' ≡ true
      → list_all (is_there statics) as' ≡ true → arguments_hold n ps (contents_of cs as') ≡ true
  arguments_held [] [] h t = refl
  arguments_held [] (a ∷ as') h t = h
  arguments_held (p ∷ ps) [] h t = h
  arguments_held (p ∷ ps) (a ∷ as') h t =
      and_true (atom_holds n cs (argument_kind p) a) (arguments_hold n ps (contents_of cs as'))
      (argument_held p a (and_left (is_argument vars p a) (are_arguments vars ps as') h)
      (and_left (is_there statics a) (list_all (is_there statics) as') t))
      (arguments_held ps as' (and_right (is_argument vars p a) (are_arguments vars ps as') h)
      (and_right (is_there statics a) (list_all (is_there statics) as') t))

  pub returned_held : (k : Option Param) (a : Option Atom) → is_returned vars k a ≡ true
      → list_all (is_there statics) (atom_in a) ≡ true
      → gives_result n k (option_map (λ b. content_of b cs) a) ≡ true
  returned_held None None h t = refl
  returned_held (Some k) None h t = h
  returned_held None (Some a) h t = h
  returned_held (Some k) (Some a) h t = atom_held k a h (and_left (is_there statics a) true t)

-- ---- their values

-- what stands there and holds a value holds one of the kind
pub value_held : (n : ℕ) (cs : List Content) (k : Param) (a : Atom) (v : Value) → atom_holds n cs k a ≡ true
    → content_of a cs ≡ Holds v → holds_value n k v ≡ true
value_held n cs k a v h e = subst (λ c. content_holds n k c ≡ true) e h

both_there : (c : Content) (o : Option (List Value)) (v : Value) (vs : List Value)
    → both_values c o ≡ Some (v ∷ vs) → (c ≡ Holds v) × (o ≡ Some vs)
both_there Unset o v vs e = absurd (cc)
both_there (Holds w) None v vs e = absurd (cc)
both_there (Holds w) (Some ws) v vs e = (cc, cc)

none_there : (c : Content) (o : Option (List Value)) → both_values c o ≡ Some [] → ⊥
none_there Unset o e = absurd (cc)
none_there (Holds w) None e = absurd (cc)
none_there (Holds w) (Some ws) e = absurd (cc)

all_read : (cs : List Content) (as' : List Atom) (vs : List Value) → all_values as' cs ≡ Some vs
    → contents_of cs as' ≡ map Holds vs
all_read cs [] [] e = refl
all_read cs [] (v ∷ vs) e = absurd (cc)
all_read cs (a ∷ as') [] e = absurd (none_there (content_of a cs) (all_values as' cs) e)
all_read cs (a ∷ as') (v ∷ vs) e =
    let t = both_there (content_of a cs) (all_values as' cs) v vs e in
    ap (λ c. c ∷ contents_of cs as') t.0 ∙ ap (λ ds. Holds v ∷ ds) (all_read cs as' vs t.1)

pub values_held : (n : ℕ) (cs : List Content) (ps : List Param) (as' : List Atom) (vs : List Value)
    → arguments_hold n ps (contents_of cs as') ≡ true → all_values as' cs ≡ Some vs
    → arguments_hold n ps (map Holds vs) ≡ true
values_held n cs ps as' vs h e = subst (λ ds. arguments_hold n ps ds ≡ true) (all_read cs as' vs e) h
