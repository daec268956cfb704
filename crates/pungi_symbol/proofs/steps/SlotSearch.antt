-- Where the slot of an instruction is: a run and a state find the same.
use Rattle.std.proofs.Common.{◌≡◌, ℕ, ◌+◌, ◌<◌, ◌≤◌, List, [], ◌∷◌, length, map, take, drop, get_or, Bool, true, false}
use Rattle.std.proofs.Common.{refl, sym, ap, ◌∙◌, subst, arith, inl, inr, Option, None, Some, cond}
use Rattle.std.specs.Prelude.{slice_get, ◌==◌}
use Rattle.pungi_base.specs.declared.choice.Choice.{Choice}
use Rattle.pungi_base.specs.declared.pos.Pos.{Pos}
use Rattle.pungi_base.specs.declared.value.Value.{Value}
use Rattle.pungi_base.specs.declared.value.Value.TheVariants as value
use Rattle.pungi_world.specs.declared.content.Content.TheVariants as content
use Rattle.pungi_code.specs.declared.atom.Atom.{Atom}
use Rattle.pungi_code.specs.declared.code.Line.{Line}
use Rattle.pungi_code.specs.declared.instr.Instr.{Instr}
use Rattle.pungi_code.specs.Registers.{Regs}
use Rattle.pungi_symbol.specs.declared.answers.decision.Decision.TheVariants.{Quiet}
use Rattle.pungi_symbol.specs.declared.states.known.Status.TheVariants as status
use Rattle.pungi_symbol.specs.declared.states.mark.Mark.{Mark}
use Rattle.pungi_symbol.specs.declared.states.mark.Mark.TheVariants.{Pointer, TextPointer, IsNull, IsObject, IsText}
use Rattle.pungi_symbol.specs.declared.states.mark.Mark.TheVariants.{IsNumber, IsConverted, Integer}
use Rattle.pungi_symbol.specs.declared.questions.question.Question.TheVariants.{Null as AsksNull, Base, Stops}
use Rattle.pungi_symbol.specs.declared.states.state.State.{State}
use Rattle.pungi_symbol.specs.declared.states.term.Term.{Term}
use Rattle.pungi_symbol.specs.declared.states.term.Term.TheVariants.{Unset, Null, Text, Number, Token, Sum}
use Rattle.pungi_symbol.specs.states.Terms.{Table, at, content_of, is_mark}
use Rattle.pungi_symbol.specs.runs.Fits.{IsBelow, IsSound}
use Rattle.pungi_code.specs.WellFormed.{is_there}
use Rattle.pungi_symbol.specs.runs.RunInState.{Lies}
use Rattle.std.specs.Prelude.{position, ◌&&◌, ◌||◌, ◌-◌, nat_lt}
use Rattle.std.specs.List.{list_all}
use Rattle.std.proofs.lemmas.Bool.Decides.{eqb_tells, nat_tests}
use Rattle.std.proofs.Math.ListN.{length-map}
use Rattle.std.proofs.lemmas.List.{get_or-take, length-take, take_all}
use Rattle.std.proofs.lemmas.List.Folds.{list_any_at, list_any_more}
use Rattle.std.proofs.lemmas.Bool.{eq-eqb}
use Rattle.pungi_base.specs.declared.names.Name.{Name}
use Rattle.pungi_api.specs.declared.param.Param.{Param}
use Rattle.pungi_world.specs.declared.slot.Slot.{Slot}
use Rattle.pungi_world.specs.declared.slot.Slot.TheVariants as slot
use Rattle.pungi_world.specs.declared.slot.SlotState.{SlotState}
use Rattle.pungi_world.specs.Slots.{is_fresh, is_same, no_slot as no_state, place_of as slot_place}
use Rattle.pungi_meaning.specs.Values.{is_equal}
use Rattle.pungi_code.specs.declared.place.Place.{Place}
use Rattle.pungi_code.specs.declared.place.Place.TheVariants as places
use Rattle.pungi_code.specs.Perform.{slot_of, field_of}
use Rattle.pungi_code.specs.WellFormed.{place_kind}
use Rattle.pungi_symbol.specs.declared.questions.found_slot.Finding.TheVariants.{Waits, At, OfMade, Nowhere}
use Rattle.pungi_symbol.specs.declared.states.spot.Progress.{Progress}
use Rattle.pungi_symbol.specs.declared.states.spot.Progress.TheVariants.{Looking, Found}
use Rattle.pungi_symbol.specs.declared.states.spot.Spot.{Spot}
use Rattle.pungi_symbol.specs.declared.states.spot.Spot.TheVariants.{Global, Field}
use Rattle.pungi_symbol.specs.states.Known.{count, mark_of, term_of, find, find_field, find_token, seek, ask_made}
use Rattle.pungi_symbol.specs.states.Known.{ask_base}
use Rattle.pungi_symbol.specs.states.Known.{at_place, is_field, is_global, base_of, slot_note, spot_of, token_in}
use Rattle.pungi_symbol.specs.answers.KnownAfter.{instr_of}
use Rattle.pungi_code.specs.WellFormed.{atoms_in}
use Rattle.pungi_symbol.specs.runs.Fits.{IsObjectSpot, is_the}
use Rattle.pungi_symbol.specs.runs.RunInState.{number_of_object, slot_in, state_in, is_made_slot, IsFoundAt}
use Rattle.pungi_symbol.specs.runs.RunInState.{IsWalked, place_in, slot_at_place}
use Rattle.pungi_symbol.proofs.states.Contents.{is_open}
use Rattle.pungi_symbol.proofs.answers.Made.{among_at}
use Rattle.pungi_symbol.proofs.questions.Firsts.{position_none_is, none_before}
use Rattle.pungi_symbol.proofs.answers.SameObject.{object_value, same_can}
use Rattle.pungi_symbol.proofs.states.Terms.{object_is_below}
use Rattle.pungi_symbol.proofs.questions.TouchedSlots.{walk_none, walk_within, walk_field, walk_found, walk_on}
use Rattle.pungi_symbol.proofs.questions.TouchedSlots.{global_place}
use Rattle.pungi_symbol.proofs.steps.RunInState.{stays, opens, one_if, searching, effort, Result, IsLine}
use Rattle.pungi_symbol.proofs.steps.RunInState.{none_made}
use Rattle.pungi_symbol.proofs.steps.RunInState.{atom_is, below_is, marks}
use Rattle.pungi_symbol.proofs.steps.Comparisons.{same_lies}

-- the base of a touched field is an object
pub spot_object : (ms : List Mark) (tag field : Name) (z : Spot) → is_field tag field z ≡ true → IsObjectSpot ms z
    → get_or ms (base_of z) IsNull ≡ IsObject
spot_object ms tag field (Global n) e h = absurd (let bad : false ≡ true = e in cc)
spot_object ms tag field (Field t u f) e h = h

no_base : (v : Value) (r : Mark) (tag field : Name) (kind : Param) → is_mark r v ≡ true
    → is_mark r (value.Object 0) ≡ false → field_of (content.Holds v) tag field kind ≡ None
no_base value.Null r tag field kind h z = refl
no_base (value.Object k) Pointer tag field kind h z = absurd (let bad : true ≡ false = z in cc)
no_base (value.Object k) TextPointer tag field kind h z = absurd (let bad : false ≡ true = h in cc)
no_base (value.Object k) IsNull tag field kind h z = absurd (let bad : false ≡ true = h in cc)
no_base (value.Object k) IsObject tag field kind h z = absurd (let bad : true ≡ false = z in cc)
no_base (value.Object k) IsText tag field kind h z = absurd (let bad : false ≡ true = h in cc)
no_base (value.Object k) (IsNumber n) tag field kind h z = absurd (let bad : false ≡ true = h in cc)
no_base (value.Object k) (IsConverted n) tag field kind h z = absurd (let bad : false ≡ true = h in cc)
no_base (value.Object k) (Integer r) tag field kind h z = absurd (let bad : false ≡ true = h in cc)
no_base (value.Int n) r tag field kind h z = refl
no_base value.Text r tag field kind h z = refl

lt_says : (a b : ℕ) → nat_lt a b ≡ true → a < b
lt_says a b e = grind (arith, nat_tests)

lt_is : (a b : ℕ) → a < b → nat_lt a b ≡ true
lt_is a b h = grind (arith, nat_tests)

lt_not : (a b : ℕ) → b ≤ a → nat_lt a b ≡ false
lt_not a b h = grind (arith, nat_tests)

lt_or_not : (a b : ℕ) → nat_lt a b ≡ false → b ≤ a
lt_or_not a b e = grind (arith, nat_tests)

-- what isn't among slots isn't among the first of them
take_none : (z : Slot) (slots : List SlotState) (n : ℕ) → slot_place slots z ≡ None → slot_place (take n slots) z ≡ None
take_none z slots n e = position_none_is (λ y. is_same y.slot z) (take n slots) no_state (λ k lt.
    let len = length-take n slots in
    ap (λ y. is_same y.slot z) (get_or-take n slots k no_state (omega (arith, lt, len)))
    ∙ none_before (λ y. is_same y.slot z) slots no_state e k (omega (arith, lt, len)))

swap : (a b : ℕ) → (a == b) ≡ (b == a)
swap a b = elim (eqb_tells a b) [
  | inl h ↦ h.0 ∙ sym (eq-eqb b a (sym h.1))
  | inr h ↦ elim (eqb_tells b a) [
    | inl g ↦ absurd (h.1 (sym g.1))
    | inr g ↦ h.0 ∙ sym g.0
  ]
]

module _ (choices : List Choice) (code : List Line) (table : Table) (base : ℕ) (m : Regs) (s : State)
    (going : s.known.status ≡ status.Going) (w : IsSound s) (l : Lies code table base m s) (p : Pos) where
  abbrev Slots : List SlotState
  Slots = m.world.slots

  abbrev Made : List ℕ
  Made = s.known.made

  abbrev Walked : Progress → Option (Slot × Param) → Type 0
  Walked q o = IsWalked table Made Slots q o

  long : length Slots ≡ length s.known.slots
  long = ap length l.slots ∙ length-map s.known.slots (state_in table)

  -- the slots of objects that were made hold nothing before they are touched
  fresh_is : (z : Slot) → is_fresh m.world z ≡ is_made_slot table Made z
  fresh_is (slot.Global n) = refl
  fresh_is (slot.Field o tag field) = l.made o

  -- how the search stands
  pub data Sought (place : Place) : Type 0 where
    seeks_stop : find s.known place ≡ Waits (Stops Quiet) → slot_of place m.vars ≡ None → Sought place
    seeks_null : (t : ℕ) → find s.known place ≡ Waits (AsksNull t) → is_open (mark_of s.known t) ≡ true → Sought place
    seeks_base : (t u i : ℕ) (z : Slot) → find s.known place ≡ Waits (Base t u i) → mark_of s.known t ≡ IsObject
        → mark_of s.known u ≡ IsObject → slot_of place m.vars ≡ Some (z, place_kind place)
        → (is_equal (at table t) (at table u) ≡ true → Walked (Found i) (Some (z, place_kind place)))
        → (is_equal (at table t) (at table u) ≡ false → Walked (Looking (i + 1)) (Some (z, place_kind place)))
        → ((c : ℕ) × (s.known.progress ≡ Looking c) × (c ≤ i) × (i < length s.known.slots + length s.known.made))
        → Sought place
    seeks_at : (i : ℕ) (z : Slot) → find s.known place ≡ At i → slot_of place m.vars ≡ Some (z, place_kind place)
        → slot_place Slots z ≡ Some i → Sought place
    seeks_made : (z : Slot) → find s.known place ≡ OfMade → slot_of place m.vars ≡ Some (z, place_kind place)
        → slot_place Slots z ≡ None → is_fresh m.world z ≡ true → z ≡ slot_in table (spot_of s.known place)
        → Sought place
    seeks_new : (z : Slot) → find s.known place ≡ Nowhere → slot_of place m.vars ≡ Some (z, place_kind place)
        → slot_place Slots z ≡ None → is_fresh m.world z ≡ false → z ≡ slot_in table (spot_of s.known place)
        → IsObjectSpot s.known.marks (spot_of s.known place) → Sought place

  global_by : (n : Name) (kind : Param) (r : Option ℕ) → position (λ y. is_global n y.spot) s.known.slots ≡ r
      → Sought (places.Global n kind)
  global_by n kind None e = seeks_new (slot.Global n) (ap at_place e) refl
      (ap (λ y. slot_place y (slot.Global n)) l.slots ∙ global_place table n s.known.slots ∙ e) refl refl tt
  global_by n kind (Some i) e = seeks_at i (slot.Global n) (ap at_place e) refl
      (ap (λ y. slot_place y (slot.Global n)) l.slots ∙ global_place table n s.known.slots ∙ e)

  module _ (base' : Atom) (tag field : Name) (kind : Param) (h : is_there s.statics base' ≡ true) where
    abbrev F : Place
    F = places.Field base' tag field kind

    -- a base that isn't an object
    stop_field : (x : Term) → term_of s.known base' ≡ x → find_field s.known x tag field ≡ Waits (Stops Quiet)
        → field_of (content_of table x) tag field kind ≡ None → Sought F
    stop_field x e f g = seeks_stop (ap (λ y. find_field s.known y tag field) e ∙ f)
        (ap (λ c. field_of c tag field kind) (atom_is choices code table base m s going w l p base' h
        ∙ ap (content_of table) e) ∙ g)

    null_token : (t : ℕ) (r : Mark) → term_of s.known base' ≡ Token t → mark_of s.known t ≡ r
        → is_mark r (value.Object 0) ≡ false → find_token s.known t r tag field ≡ Waits (Stops Quiet)
        → t < count s.known → Sought F
    null_token t r e f no_object g lt = stop_field (Token t) e (ap (λ y. find_token s.known t y tag field) f ∙ g)
        (no_base (at table t) r tag field kind (subst (λ y. is_mark y (at table t) ≡ true) f
        (marks choices code table base m s going w l p t lt)) no_object)

    open_token : (t : ℕ) (r : Mark) → term_of s.known base' ≡ Token t → mark_of s.known t ≡ r → is_open r ≡ true
        → find_token s.known t r tag field ≡ Waits (AsksNull t) → Sought F
    open_token t r e f o g = seeks_null t (ap (λ y. find_field s.known y tag field) e
        ∙ ap (λ y. find_token s.known t y tag field) f ∙ g) (ap is_open f ∙ o)

    module _ (t : ℕ) (e : term_of s.known base' ≡ Token t) (mt : mark_of s.known t ≡ IsObject)
        (walked : Walked s.known.progress (slot_of F m.vars)) where
      below_t : t < count s.known
      below_t = object_is_below s.known.marks t mt

      ot : (k : ℕ) × (at table t ≡ value.Object k)
      ot = object_value (at table t) (subst (λ y. is_mark y (at table t) ≡ true) mt
          (marks choices code table base m s going w l p t below_t))

      abbrev Z : Slot
      Z = slot.Field ot.0 tag field

      slot_is : slot_of F m.vars ≡ Some (Z, kind)
      slot_is = ap (λ c. field_of c tag field kind) (atom_is choices code table base m s going w l p base' h
          ∙ ap (content_of table) e) ∙ ap (λ v. field_of (content.Holds v) tag field kind) ot.1

      find_is : find s.known F ≡ seek s.known.progress t tag field s.known.slots Made
      find_is = ap (λ y. find_field s.known y tag field) e ∙ ap (λ y. find_token s.known t y tag field) mt

      spot_is : Z ≡ slot_in table (spot_of s.known F)
      spot_is = sym (ap (λ y. slot.Field (number_of_object (at table (token_in y))) tag field) e
          ∙ ap (λ v. slot.Field (number_of_object v) tag field) ot.1)

      object_spot : IsObjectSpot s.known.marks (spot_of s.known F)
      object_spot = subst (λ y. get_or s.known.marks (token_in y) IsNull ≡ IsObject) (sym e) mt

      abbrev Kind : Option (Slot × Param)
      Kind = Some (Z, kind)

      walked_at : (q : Progress) → s.known.progress ≡ q → Walked q Kind
      walked_at q pr = subst (Walked q) slot_is (subst (λ r. Walked r (slot_of F m.vars)) pr walked)

      seek_is : (c : ℕ) (r : Option ℕ) → s.known.progress ≡ Looking c
          → position (λ y. is_field tag field y.spot) (drop c s.known.slots) ≡ r
          → find s.known F ≡ ask_base t c s.known.slots Made r
      seek_is c r pr e' = find_is ∙ ap (λ q. seek q t tag field s.known.slots Made) pr
          ∙ ap (ask_base t c s.known.slots Made) e'

      -- whether the object of a token is the base
      module _ (u : ℕ) (mu : mark_of s.known u ≡ IsObject) where
        ou : (k : ℕ) × (at table u ≡ value.Object k)
        ou = object_value (at table u) (subst (λ y. is_mark y (at table u) ≡ true) mu
            (marks choices code table base m s going w l p u (object_is_below s.known.marks u mu)))

        same_base : is_equal (at table t) (at table u) ≡ (number_of_object (at table u) == ot.0)
        same_base = ap (λ v. is_equal v (at table u)) ot.1 ∙ ap (is_equal (value.Object ot.0)) ou.1 ∙ swap ot.0 ou.0
            ∙ ap (λ v. number_of_object v == ot.0) (sym ou.1)

        the_base : is_the ot.0 (at table u) ≡ is_equal (at table t) (at table u)
        the_base = ap (is_the ot.0) ou.1 ∙ ap (λ v. number_of_object v == ot.0) (sym ou.1) ∙ sym same_base

      -- an object that was made
      looked_made : (c j : ℕ) (b : Bool) → nat_lt j (length Made) ≡ b → s.known.progress ≡ Looking c
          → j ≡ c - length s.known.slots → find s.known F ≡ ask_made t (length s.known.slots) j Made
          → slot_place Slots Z ≡ None → is_made_slot table (take j Made) Z ≡ false → Sought F
      looked_made c j true e' pr is f none passed =
          let u = get_or Made j 0 in
          let lt : j < length Made = lt_says j (length Made) e' in
          let mu : mark_of s.known u ≡ IsObject = w.made.objects u (among_at Made j lt) in
          let i = length s.known.slots + j in
          let le = long in
          let late : nat_lt i (length Slots) ≡ false = lt_not i (length Slots) (omega (arith, le)) in
          let next : (i + 1) - length Slots ≡ j + 1 = omega (arith, le) in
          seeks_base t u i Z (f ∙ ap (λ z. cond z (Waits (Base t u i)) Nowhere) e') mt mu slot_is
          (λ y. subst (λ z. IsFoundAt z table Made Slots i Z) (sym late) (
            none,
            list_any_at (λ x. is_the ot.0 (at table x)) Made j 0 lt (the_base u mu ∙ y),
          ))
          (λ y. (
            take_none Z Slots (i + 1) none,
            ap (λ n. is_made_slot table (take n Made) Z) next
                ∙ list_any_more (λ x. is_the ot.0 (at table x)) Made j 0 lt
                ∙ ap (λ z. z || is_the ot.0 (at table u)) passed ∙ the_base u mu ∙ y,
          ))
          (c, pr, omega (arith, is), omega (arith, lt))
      looked_made c j false e' pr is f none passed =
          let ge : length Made ≤ j = lt_or_not j (length Made) e' in
          seeks_new Z (f ∙ ap (λ z. cond z (Waits (Base t (get_or Made j 0) (length s.known.slots + j))) Nowhere) e')
          slot_is none
          (fresh_is Z ∙ ap (λ xs. is_made_slot table xs Z) (sym (take_all j Made ge)) ∙ passed) spot_is object_spot

      looked : (c : ℕ) (r : Option ℕ) → s.known.progress ≡ Looking c
          → position (λ y. is_field tag field y.spot) (drop c s.known.slots) ≡ r → Sought F
      looked c None pr e' =
          let h = walked_at (Looking c) pr in
          let w0 : slot_place (take c (map (state_in table) s.known.slots)) Z
          ≡ None = subst (λ y. slot_place (take c y) Z ≡ None) l.slots h.0 in
          let j = c - length s.known.slots in
          looked_made c j (nat_lt j (length Made)) refl pr refl (seek_is c None pr e')
          (ap (λ y. slot_place y Z) l.slots ∙ walk_none table tag field ot.0 s.known.slots c w0 e')
          (ap (λ n. is_made_slot table (take (c - n) Made) Z) (sym long) ∙ h.1)
      looked c (Some j) pr e' =
          let h = walked_at (Looking c) pr in
          let w0 : slot_place (take c (map (state_in table) s.known.slots)) Z
          ≡ None = subst (λ y. slot_place (take c y) Z ≡ None) l.slots h.0 in
          let u = base_of (slot_note s.known.slots (c + j)).spot in
          let mu : mark_of s.known u ≡ IsObject = spot_object s.known.marks tag field
          (slot_note s.known.slots (c + j)).spot (walk_field table tag field ot.0 s.known.slots c j w0 e')
          (w.terms.spots (c + j)) in
          let same = same_base u mu in
          let within = walk_within table tag field ot.0 s.known.slots c j w0 e' in
          let le = long in
          let early : nat_lt (c + j) (length Slots) ≡ true = lt_is (c + j) (length Slots) (omega (arith, within, le)) in
          let none : (c + j + 1) - length Slots ≡ 0 = omega (arith, within, le) in
          seeks_base t u (c + j) Z (seek_is c (Some j) pr e') mt mu slot_is
          (λ y. subst (λ z. IsFoundAt z table Made Slots (c + j) Z) (sym early) (ap (λ v. slot_place v Z) l.slots
          ∙ walk_found table tag field ot.0 s.known.slots c j w0 e' (sym same ∙ y)))
          (λ y. (
            ap (λ v. slot_place (take (c + j + 1) v) Z) l.slots
                ∙ walk_on table tag field ot.0 s.known.slots c j w0 e' (sym same ∙ y),
            ap (λ n. is_made_slot table (take n Made) Z) none ∙ none_made table Z,
          ))
          (c, pr, omega arith, omega (arith, within))

      -- what the search found
      found_is : (i : ℕ) (b : Bool) → nat_lt i (length s.known.slots) ≡ b → s.known.progress ≡ Found i
          → find s.known F ≡ cond b (At i) OfMade
      found_is i b e' pr = find_is ∙ ap (λ q. seek q t tag field s.known.slots Made) pr
          ∙ ap (λ z. cond z (At i) OfMade) e'

      found_by : (i : ℕ) (b : Bool) → nat_lt i (length s.known.slots) ≡ b → s.known.progress ≡ Found i → Sought F
      found_by i true e' pr =
          let h = subst (λ z. IsFoundAt z table Made Slots i Z) (ap (nat_lt i) long ∙ e') (walked_at (Found i) pr) in
          seeks_at i Z (found_is i true e' pr) slot_is h
      found_by i false e' pr =
          let h = subst (λ z. IsFoundAt z table Made Slots i Z) (ap (nat_lt i) long ∙ e') (walked_at (Found i) pr) in
          seeks_made Z (found_is i false e' pr) slot_is h.0 (fresh_is Z ∙ h.1) spot_is

      object_token : (q : Progress) → s.known.progress ≡ q → Sought F
      object_token (Found i) pr = found_by i (nat_lt i (length s.known.slots)) refl pr
      object_token (Looking c) pr = looked c (position (λ y. is_field tag field y.spot) (drop c s.known.slots)) pr refl

    token_by : (t : ℕ) (r : Mark) → term_of s.known base' ≡ Token t → mark_of s.known t ≡ r → t < count s.known
        → Walked s.known.progress (slot_of F m.vars) → Sought F
    token_by t Pointer e f lt walked = open_token t Pointer e f refl refl
    token_by t TextPointer e f lt walked = open_token t TextPointer e f refl refl
    token_by t IsNull e f lt walked = null_token t IsNull e f refl refl lt
    token_by t IsObject e f lt walked = object_token t e f walked s.known.progress refl
    token_by t IsText e f lt walked = null_token t IsText e f refl refl lt
    token_by t (IsNumber n) e f lt walked = null_token t (IsNumber n) e f refl refl lt
    token_by t (IsConverted n) e f lt walked = null_token t (IsConverted n) e f refl refl lt
    token_by t (Integer r) e f lt walked = null_token t (Integer r) e f refl refl lt

    field_by : (x : Term) → term_of s.known base' ≡ x → IsBelow (count s.known) x
        → Walked s.known.progress (slot_of F m.vars) → Sought F
    field_by Unset e b walked = stop_field Unset e refl refl
    field_by Null e b walked = stop_field Null e refl refl
    field_by Text e b walked = stop_field Text e refl refl
    field_by (Number n) e b walked = stop_field (Number n) e refl refl
    field_by (Token t) e b walked = token_by t (mark_of s.known t) e refl b walked
    field_by (Sum u) e b walked = stop_field (Sum u) e refl refl

  one_there : (a : Atom) → list_all (is_there s.statics) (a ∷ []) ≡ true → is_there s.statics a ≡ true
  one_there a e = by (is_there s.statics a) e
    where
      by : (b : Bool) → (b && true) ≡ true → b ≡ true
      by true z = refl
      by false z = z

  pub sought : (place : Place) → list_all (is_there s.statics) (atoms_in place) ≡ true
      → Walked s.known.progress (slot_of place m.vars) → Sought place
  sought (places.Global n kind) h walked = global_by n kind (position (λ y. is_global n y.spot) s.known.slots) refl
  sought (places.Field base' tag field kind) h walked = field_by base' tag field kind (one_there base' h)
      (term_of s.known base') refl (below_is choices code table base m s going w l p base' (one_there base' h)) walked

  -- what the search of an instruction found
  pub walked_is : (i : Instr) (place : Place) → IsLine choices code table base m s going w l p i
      → place_in i ≡ Some place → Walked s.known.progress (slot_of place m.vars)
  walked_is i place is e = subst (λ o. Walked s.known.progress (slot_at_place o m.vars)) e
      (subst (λ o. Walked s.known.progress (slot_at_place (place_in (instr_of o)) m.vars)) is l.walked)

  abbrev Places : ℕ
  Places = length s.known.slots + length Made

  -- a question about the base of a touched slot
  pub base_result : (i : Instr) (place : Place) (t u j : ℕ) (z : Slot)
      → IsLine choices code table base m s going w l p i → place_in i ≡ Some place → mark_of s.known t ≡ IsObject
      → mark_of s.known u ≡ IsObject → slot_of place m.vars ≡ Some (z, place_kind place)
      → (is_equal (at table t) (at table u) ≡ true → Walked (Found j) (Some (z, place_kind place)))
      → (is_equal (at table t) (at table u) ≡ false → Walked (Looking (j + 1)) (Some (z, place_kind place)))
      → ((c : ℕ) × (s.known.progress ≡ Looking c) × (c ≤ j) × (j < length s.known.slots + length Made))
      → Result choices code table base m s going w l p i (Base t u j)
  base_result i place t u j z is e mt mu f hit other before =
      let lt = object_is_below s.known.marks t mt in
      let lu = object_is_below s.known.marks u mu in
      let b = is_equal (at table t) (at table u) in
      let q = cond b (Found j) (Looking (j + 1)) in
      let here : Walked q (Some (z, place_kind place)) = by b hit other in
      let there : Walked q (slot_at_place (place_in (instr_of (slice_get code s.known.pc))) m.vars) =
      subst (λ o. Walked q (slot_at_place (place_in (instr_of o)) m.vars)) (sym is)
      (subst (λ o. Walked q (slot_at_place o m.vars)) (sym e) (subst (λ o. Walked q o) (sym f) here)) in
      inr (
        same_can s t u table w mt mu lt lu l.fits,
        stays refl going refl (less b) (same_lies choices code table base m s going w l p t u m
            (record s.known { progress = q }) mt mu refl (record {
              fits = record { notes = l.fits.notes; limits = l.fits.limits; new = l.fits.new };
              vars = l.vars;
              slots = l.slots;
              used = l.used;
              claims = l.claims;
              below = l.below;
              made = l.made;
              walked = there;
            })),
      )
    where
      by : (b : Bool) → (b ≡ true → Walked (Found j) (Some (z, place_kind place)))
          → (b ≡ false → Walked (Looking (j + 1)) (Some (z, place_kind place)))
          → Walked (cond b (Found j) (Looking (j + 1))) (Some (z, place_kind place))
      by true hit other = hit refl
      by false hit other = other refl

      less : (b : Bool) → opens s.known.marks + searching (cond b (Found j) (Looking (j + 1)))
          Places + one_if s.known.turns.arriving < effort s.known
      less true = let h = ap (λ q. searching q Places) before.1 in let a = before.2 in let d
          = before.3 in omega (arith, h, a, d)
      less false = let h = ap (λ q. searching q Places) before.1 in let a = before.2 in let d
          = before.3 in omega (arith, h, a, d)
