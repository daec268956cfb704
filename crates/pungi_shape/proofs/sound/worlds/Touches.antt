-- What the touch of a slot does to a world.
--   Grown               what others hold, debts and objects stay, and no other slot is touched
--   IsUntouched         nothing is held: the slot is touched for the first time
--   Touched             the slot is touched and holds a value of its kind; or nothing, as a field of a made object
--                          does at
--                       its first touch
use Rattle.std.proofs.Common.{◌≡◌, ◌≢◌, ◌⊎◌, inl, inr, ℕ, ◌+◌, ◌<◌, ◌≤◌, ℤ, ◌+ℤ◌, List, [], ◌∷◌, length}
use Rattle.std.proofs.Common.{length-append, Bool}
use Rattle.std.proofs.Common.{true, false}
use Rattle.std.proofs.Common.{refl, sym, ap, ◌∙◌, subst, arith, Option, Some, None, Result, Ok, Err, cond}
use Rattle.std.specs.Prelude.{◌&&◌, ◌||◌, not, nat_lt, nat_le, ◌-◌, ◌^◌, pos, negsuc}
use Rattle.pungi_base.specs.declared.choice.Choice.{Choice}
use Rattle.pungi_base.specs.declared.choice.Choice.TheVariants as choice
use Rattle.pungi_base.specs.declared.value.Value.{Value}
use Rattle.pungi_base.specs.declared.value.Value.TheVariants as value
use Rattle.pungi_api.specs.declared.param.Param.{Param}
use Rattle.pungi_api.specs.declared.param.Param.TheVariants as param
use Rattle.pungi_world.specs.declared.content.Content.{Content}
use Rattle.pungi_world.specs.declared.content.Content.TheVariants.{Unset, Holds}
use Rattle.pungi_world.specs.declared.halt.Halt.{Halt}
use Rattle.pungi_world.specs.declared.halt.Halt.TheVariants.{NeedsChoice}
use Rattle.pungi_world.specs.declared.slot.Slot.{Slot}
use Rattle.pungi_world.specs.declared.slot.SlotState.{SlotState}
use Rattle.pungi_world.specs.declared.touch.Touch.{Touch}
use Rattle.pungi_world.specs.declared.world.World.{World}
use Rattle.pungi_world.specs.Choices.{value_of, is_null, is_text, is_number}
use Rattle.pungi_world.specs.World.{account_of}
use Rattle.pungi_world.specs.Counts.{with_value}
use Rattle.pungi_world.specs.Effects.{◌>>=◌}
use Rattle.pungi_world.specs.Slots.{place_of, slot_at, is_fresh, is_made, is_old, is_content, find_content, enter}
use Rattle.pungi_world.specs.Slots.{with_content, with_slot, put_at, touch_at, touch}
use Rattle.pungi_world.specs.Escapes.{is_this_object, holds_object}
use Rattle.std.proofs.lemmas.Int.{ints}
use Rattle.pungi_code.specs.declared.code.Code.{Code}
use Rattle.pungi_code.specs.declared.place.Place.{Place}
use Rattle.pungi_code.specs.WellFormed.{AgreeOnKinds, is_slot_kind, is_object, is_text as is_text_kind, place_kind}
use Rattle.pungi_shape.specs.Described.{debt}
use Rattle.pungi_shape.proofs.sound.Views.{suits, names_slot, IsHeldSo, SuitsSlot, IsSlotOf, SlotsThere}
use Rattle.pungi_shape.proofs.sound.worlds.Debts.{part, debt_slot, debt_stored}
use Rattle.pungi_shape.proofs.sound.worlds.Values.{Keeps, keeps_self, value_debt, value_keeps, value_there}
use Rattle.pungi_shape.proofs.sound.worlds.Places.{found, found_same, placed, pushed_old, pushed_none, pushed_new_place}
use Rattle.pungi_shape.proofs.sound.worlds.Places.{slot_new, put_place, put_other, found_none}
use Rattle.pungi_shape.proofs.sound.worlds.SlotKinds.{AllSuit, KindOf, suit_more, suit_before, slot_of_more}
use Rattle.pungi_shape.proofs.sound.worlds.SlotKinds.{there_more}
use Rattle.pungi_shape.proofs.sound.worlds.SlotKinds.{there_pushed}
use Rattle.pungi_shape.proofs.sound.Tests.{lt_true, le_is}

-- what a touch leaves as it was
pub record Grown (w w' : World) (z : Slot) (i : ℕ) : Type 0 where
  pub stays : (q : Slot) (c : Content) → found w q ≡ Some c → found w' q ≡ Some c
  pub accounts : length w.accounts ≤ length w'.accounts
  pub debts : (o : ℕ) → debt w' o ≡ debt w o
  pub place : place_of w'.slots z ≡ Some i
  pub made : (o : ℕ) → (account_of w o).made ≡ true → (account_of w' o).made ≡ true
  pub others : (q : Slot) (k : ℕ) → z ≢ q → place_of w'.slots q ≡ Some k
      → (j : ℕ) × (place_of w.slots q ≡ Some j)

-- a field of a made object that nothing touched before
pub record IsUntouched (w w' : World) (z : Slot) (i : ℕ) : Type 0 where
  pub unset : (slot_at w' i).held ≡ Unset
  pub before : place_of w.slots z ≡ None

pub record Touched (file : Code → Type 0) (w w' : World) (z : Slot) (kind : Param) (i : ℕ) : Type 0 where
  pub grown : Grown w w' z i
  pub held : IsHeldSo (length w'.accounts) kind (slot_at w' i).held ⊎ IsUntouched w w' z i
  pub fresh : place_of w.slots z ≡ None → is_fresh w z ≡ true → (slot_at w' i).held ≡ Unset
  pub suit : (c : Code) → file c → (j : ℕ) → j < length w'.slots → j ≢ i → SuitsSlot c w' j
  pub there : SlotsThere w'

-- ---- what a slot held at entry

or_cases : (a b : Bool) → (a || b) ≡ true → (a ≡ true → ⊥) → b ≡ true
or_cases true b e n = absurd (n refl)
or_cases false b e n = e

both_first : (a b : Bool) → (a && b) ≡ true → a ≡ true
both_first true b e = refl
both_first false b e = absurd (let bad : false ≡ true = e in cc)

-- it suits the kind, once its object is there
abbrev Enters : World → Param → Value → Type 0
Enters w k v = suits (length (with_value w v).accounts) k v ≡ true

pointer_enters : (w : World) (k : Param) (c : Choice) → is_object k ≡ true → (is_null c || is_old w c) ≡ true
    → Enters w k (value_of c)
pointer_enters w k choice.Null o e = ap (λ b. b || is_text_kind k) o
pointer_enters w k (choice.Object n) o e =
    let le = le_is n (length w.accounts) (both_first (nat_le n (length w.accounts)) (not (is_made w n)) e) in
    let there = value_there w (value.Object n) le in
    ap (λ b. b && nat_lt n (length (with_value w (value.Object n)).accounts)) o
    ∙ lt_true n (length (with_value w (value.Object n)).accounts) there
pointer_enters w k (choice.Int n) o e = absurd (let bad : false ≡ true = e in cc)
pointer_enters w k choice.Text o e = absurd (let bad : false ≡ true = e in cc)
pointer_enters w k (choice.Given n) o e = absurd (let bad : false ≡ true = e in cc)
pointer_enters w k (choice.Failed n) o e = absurd (let bad : false ≡ true = e in cc)

text_enters : (w : World) (c : Choice) → (is_null c || is_text c) ≡ true → Enters w param.TextOrNull (value_of c)
text_enters w choice.Null e = refl
text_enters w (choice.Object n) e = absurd (let bad : false ≡ true = e in cc)
text_enters w (choice.Int n) e = absurd (let bad : false ≡ true = e in cc)
text_enters w choice.Text e = refl
text_enters w (choice.Given n) e = absurd (let bad : false ≡ true = e in cc)
text_enters w (choice.Failed n) e = absurd (let bad : false ≡ true = e in cc)

int_enters : (w : World) (c : Choice) (low high : ℤ) → is_number low high c ≡ true → Enters w param.Int (value_of c)
int_enters w choice.Null low high e = absurd (let bad : false ≡ true = e in cc)
int_enters w (choice.Object n) low high e = absurd (let bad : false ≡ true = e in cc)
int_enters w (choice.Int n) low high e = refl
int_enters w choice.Text low high e = absurd (let bad : false ≡ true = e in cc)
int_enters w (choice.Given n) low high e = absurd (let bad : false ≡ true = e in cc)
int_enters w (choice.Failed n) low high e = absurd (let bad : false ≡ true = e in cc)

integer_same : (w : World) (k : Param) (c : Choice) → Enters w param.Int (value_of c)
    → ((n : ℤ) → suits (length (with_value w (value.Int n)).accounts) k (value.Int n) ≡ true)
    → Enters w k (value_of c)
integer_same w k choice.Null e f = absurd (let bad : false ≡ true = e in cc)
integer_same w k (choice.Object n) e f = absurd (let bad : false ≡ true = e in cc)
integer_same w k (choice.Int n) e f = f n
integer_same w k choice.Text e f = absurd (let bad : false ≡ true = e in cc)
integer_same w k (choice.Given n) e f = f (pos n)
integer_same w k (choice.Failed n) e f = f (negsuc n)

pub content_enters : (w : World) (k : Param) (c : Choice) → is_slot_kind k ≡ true → is_content w k c ≡ true
    → Enters w k (value_of c)
content_enters w param.Object c s e = absurd (let bad : false ≡ true = s in cc)
content_enters w param.ObjectOrNull c s e = pointer_enters w param.ObjectOrNull c refl e
content_enters w param.Int c s e = int_enters w c (negsuc (2 ^ 31 - 1)) (pos (2 ^ 31 - 1)) e
content_enters w param.Long c s e = integer_same w param.Long c
    (int_enters w c (negsuc (2 ^ 63 - 1)) (pos (2 ^ 63 - 1)) e) (λ n. refl)
content_enters w param.Size c s e = integer_same w param.Size c
    (int_enters w c (negsuc (2 ^ 63 - 1)) (pos (2 ^ 63 - 1)) e) (λ n. refl)
content_enters w param.Text c s e = absurd (let bad : false ≡ true = s in cc)
content_enters w param.TextOrNull c s e = text_enters w c e
content_enters w param.ModuleDef c s e = absurd (let bad : false ≡ true = s in cc)

-- what is found at entry
pub record Found (w : World) (kind : Param) (r : Content × ℕ) : Type 0 where
  pub value : Value
  pub holds : r.0 ≡ Holds value
  pub enters : Enters w kind value

abbrev ok_found : Content × ℕ → Result (Content × ℕ) Halt
ok_found r = Ok r

found_by : (w : World) (kind : Param) (c : Choice) (b : Bool) (r : Content × ℕ) → is_slot_kind kind ≡ true
    → is_content w kind c ≡ b → cond b (ok_found (Holds (value_of c), 1)) (Err NeedsChoice) ≡ ok_found r
    → Found w kind r
found_by w kind c true r s e is =
    let q : Content × ℕ = (Holds (value_of c), 1) in
    let same : q ≡ r = cc in
    record {
      value = value_of c;
      holds = ap (λ (p : Content × ℕ). p.0) (sym same);
      enters = content_enters w kind c s e;
    }
found_by w kind c false r s e is = absurd cc

found_in : (w : World) (kind : Param) (choices : List Choice) (r : Content × ℕ) → is_slot_kind kind ≡ true
    → find_content w kind choices ≡ ok_found r → Found w kind r
found_in w kind [] r s is = absurd cc
found_in w kind (c ∷ choices) r s is = found_by w kind c (is_content w kind c) r s refl is

-- what a slot held at entry: nothing where its object was made, and else what is found
data Entered (w : World) (z : Slot) (kind : Param) (r : Content × ℕ) : Type 0 where
  nothing : r.0 ≡ Unset → Entered w z kind r
  some : is_fresh w z ≡ false → Found w kind r → Entered w z kind r

entered : (w : World) (z : Slot) (kind : Param) (choices : List Choice) (r : Content × ℕ)
    → is_slot_kind kind ≡ true → enter w z kind choices ≡ ok_found r → Entered w z kind r
entered w z kind choices r s is = by (is_fresh w z) refl
  where
    by : (b : Bool) → is_fresh w z ≡ b → Entered w z kind r
    by true e =
        let q : Content × ℕ = (Unset, 0) in
        let same : ok_found q ≡ ok_found r = sym (ap (λ b. cond b (ok_found (Unset, 0)) (find_content w kind choices))
        e)
        ∙ is in
        let is_r : q ≡ r = cc in
        nothing (ap (λ (p : Content × ℕ). p.0) (sym is_r))
    by false e = some e (found_in w kind choices r s (sym (ap (λ b. cond b (ok_found (Unset, 0))
        (find_content w kind choices)) e) ∙ is))

content_keeps : (w : World) (c : Content) → Keeps w (with_content w c)
content_keeps w Unset = keeps_self w
content_keeps w (Holds v) = value_keeps w v

content_debt : (w : World) (c : Content) (o : ℕ) → debt (with_content w c) o ≡ debt w o
content_debt w Unset o = refl
content_debt w (Holds v) o = value_debt w v o

-- ---- touches

abbrev pub touches : Touch → World → Result (Touch × World) Halt
touches t w = Ok (t, w)

same_touch : (t t' : Touch) (w w' : World) → touches t w ≡ touches t' w' → (t.place ≡ t'.place) × (w ≡ w')
same_touch t t' w w' same =
    let p : Touch × World = (t, w) in
    let q : Touch × World = (t', w') in
    let is : p ≡ q = cc in
    (ap (λ (r : Touch × World). r.0.place) is, ap (λ (r : Touch × World). r.1) is)

abbrev by_entry : World → Slot → Result (Content × ℕ) Halt → Result (Touch × World) Halt
by_entry w z r = r >>= λ p. Ok (record { place = length w.slots; used = p.1 }, with_slot (with_content w p.0) z p.0)

module _ (code : Code) (file : Code → Type 0) (own : file code) (agree : (c : Code) → file c → AgreeOnKinds code c)
    (place : Place) (of : KindOf code place) (z : Slot) (names : names_slot place z ≡ true)
    (kind : is_slot_kind (place_kind place) ≡ true) (w : World) (suit : AllSuit file w) (there : SlotsThere w)
    (of_z : IsSlotOf (length w.accounts) z) where
  abbrev IsTouched : World → ℕ → Type 0
  IsTouched w' i = Touched file w w' z (place_kind place) i

  touched_there : (i : ℕ) → place_of w.slots z ≡ Some i → IsTouched w i
  touched_there i e =
      let p = placed w z i e in
      record {
        grown = record {
          stays = λ q c f. f;
          accounts = omega arith;
          debts = λ o. refl;
          place = e;
          made = λ o h. h;
          others = λ q k ne f. (k, f);
        };
        held = inl (suit code own i p.0 of.pc of.line place of.is_there of.place_is
            (ap (names_slot place) p.1 ∙ names));
        fresh = λ none is. absurd (let bad : None ≡ Some i = sym none ∙ e in cc);
        suit = λ c in_file j lt ne. suit c in_file j lt;
        there = there;
      }

  module _ (c : Content) (none : place_of w.slots z ≡ None) where
    abbrev w1 : World
    w1 = with_content w c

    abbrev after : World
    after = with_slot w1 z c

    abbrev last : ℕ
    last = length w.slots

    keeps : Keeps w w1
    keeps = content_keeps w c

    none_now : place_of w1.slots z ≡ None
    none_now = ap (λ (l : List SlotState). place_of l z) keeps.slots ∙ none

    long : length w1.slots ≡ last
    long = ap length keeps.slots

    state : slot_at after last ≡ record { slot = z; at_entry = c; held = c }
    state = ap (λ (n : ℕ). slot_at after n) (sym long) ∙ slot_new w1 z c

    grown_new : Grown w after z last
    grown_new = record {
      stays = λ q d f. pushed_old w1 z c q d (found_same w1 w q keeps.slots ∙ f);
      accounts = keeps.accounts;
      debts = λ o. debt_slot w1 z c o ∙ content_debt w c o;
      place = pushed_new_place w1 z c none_now ∙ ap Some long;
      made = keeps.made;
      others = λ q k ne f. by q k ne f (place_of w.slots q) refl;
    }
      where
        by : (q : Slot) (k : ℕ) → z ≢ q → place_of after.slots q ≡ Some k → (r : Option ℕ) → place_of w.slots q ≡ r
            → (j : ℕ) × (place_of w.slots q ≡ Some j)
        by q k ne f (Some j) e = (j, e)
        by q k ne f None e = absurd (let bad : None ≡ Some k = sym (pushed_none w1 z c q ne
            (ap (λ (l : List SlotState). place_of l q) keeps.slots ∙ e)) ∙ f in cc)

    suit_new : (other : Code) → file other → (j : ℕ) → j < length after.slots → j ≢ last → SuitsSlot other after j
    suit_new other in_file j lt ne =
        let l : length after.slots ≡ length w1.slots + 1 = length-append w1.slots _ in
        let here = long in
        suit_before code other (agree other in_file) place of z names w1 c j (omega (arith, lt, ne, l, here))
        (suit_more other w w1 keeps.slots keeps.accounts (suit other in_file) j (omega (arith, lt, ne, l, here)))

    there_new : SlotsThere after
    there_new = there_pushed w1 z c (slot_of_more (length w.accounts) (length w1.accounts) z keeps.accounts of_z)
        (there_more w w1 keeps.slots keeps.accounts there)

    touched_with : IsHeldSo (length after.accounts) (place_kind place) (slot_at after last).held
        ⊎ IsUntouched w after z last → (is_fresh w z ≡ true → (slot_at after last).held ≡ Unset) → IsTouched after last
    touched_with held fresh = record {
      grown = grown_new;
      held = held;
      fresh = λ n is. fresh is;
      suit = suit_new;
      there = there_new;
    }

  touched_entered : (r : Content × ℕ) → place_of w.slots z ≡ None → Entered w z (place_kind place) r
      → IsTouched (with_slot (with_content w r.0) z r.0) (length w.slots)
  touched_entered r none (nothing e) =
      let unset = ap (λ (t : SlotState). t.held) (state r.0 none) ∙ e in
      touched_with r.0 none (inr (record { unset = unset; before = none })) (λ is. unset)
  touched_entered r none (some not_fresh f) =
      subst (λ c. IsTouched (with_slot (with_content w c) z c) (length w.slots)) (sym f.holds)
      (let v = f.value in
      touched_with (Holds v) none (inl (record {
        value = v;
        holds = ap (λ (t : SlotState). t.held) (state (Holds v) none);
        suits_kind = f.enters;
      })) (λ is. absurd (let bad : false ≡ true = sym not_fresh ∙ is in cc)))

  meant : (t t' : Touch) (v v' : World) → touches t v ≡ touches t' v' → IsTouched v t.place → IsTouched v' t'.place
  meant t t' v v' e h =
      let same = same_touch t t' v v' e in
      subst (λ i. IsTouched v' i) same.0 (subst (λ u. IsTouched u t.place) same.1 h)

  touched_first : (choices : List Choice) (t : Touch) (w' : World) (r : Result (Content × ℕ) Halt)
      → place_of w.slots z ≡ None → enter w z (place_kind place) choices ≡ r → by_entry w z r ≡ touches t w'
      → IsTouched w' t.place
  touched_first choices t w' (Err h) none e is = absurd cc
  touched_first choices t w' (Ok p) none e is =
      meant (record { place = length w.slots; used = p.1 }) t (with_slot (with_content w p.0) z p.0) w' is
      (touched_entered p none (entered w z (place_kind place) choices p kind e))

  touched_at : (choices : List Choice) (t : Touch) (w' : World) (o : Option ℕ) → place_of w.slots z ≡ o
      → touch_at w z (place_kind place) choices o ≡ touches t w' → IsTouched w' t.place
  touched_at choices t w' None e is =
      touched_first choices t w' (enter w z (place_kind place) choices) e refl is
  touched_at choices t w' (Some i) e is = meant (record { place = i; used = 0 }) t w w' is (touched_there i e)

  pub touched : (choices : List Choice) (t : Touch) (w' : World)
      → touch w z (place_kind place) choices ≡ touches t w' → IsTouched w' t.place
  touched choices t w' is = touched_at choices t w' (place_of w.slots z) refl is

-- ---- a slot that held nothing, as if it held NULL

level : (d e f g : ℤ) → d ≡ (e +ℤ f) +ℤ g → f ≡ pos 0 → g ≡ pos 0 → d ≡ e
level d e f g i j k = omega (arith, ints, i, j, k)

pub filled : (w w' : World) (z : Slot) (i : ℕ) → Grown w w' z i → IsUntouched w w' z i
    → Grown w (put_at w' i value.Null) z i
filled w w' z i g u = record {
  stays = λ q c f. put_other w' i value.Null z q g.place
      (λ e. absurd (let bad : None ≡ Some c = sym (found_none w z u.before) ∙ ap (found w) e ∙ f in cc)) ∙ g.stays q c
      f;
  accounts = g.accounts;
  debts = λ o. level (debt (put_at w' i value.Null) o) (debt w' o)
      (part (holds_object (slot_at w' i).held o) (pos 1)) (part (is_this_object value.Null o) (negsuc 0))
      (debt_stored w' i value.Null o (placed w' z i g.place).0)
      (ap (λ (c : Content). part (holds_object c o) (pos 1)) u.unset) refl ∙ g.debts o;
  place = put_place w' i value.Null z ∙ g.place;
  made = g.made;
  others = λ q k ne f. g.others q k ne (sym (put_place w' i value.Null q) ∙ f);
}
