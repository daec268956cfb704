-- What the world returns at the first touch of a slot and at calls, and what an object is owed then.
use Rattle.std.proofs.Common.{◌≡◌, ℕ, zero, suc, ◌≤◌, ℤ, negsuc, ◌+ℤ◌, List, [], ◌∷◌, length, drop, Bool, true, false}
use Rattle.std.proofs.Common.{refl, sym, ap, ◌∙◌, subst, arith, ◌⊎◌, inl, inr, cond, Some, None}
use Rattle.std.specs.Prelude.{slice_get, ◌||◌, ◌&&◌, not, nat_le, Ok, Err}
use Rattle.std.proofs.lemmas.Int.{ints}
use Rattle.std.proofs.Math.ListN.{length-set}
use Rattle.pungi_world.specs.Effects.{◌>>=◌}
use Rattle.std.proofs.lemmas.Bool.Decides.{nat_tests}
use Rattle.pungi_base.specs.declared.choice.Choice.{Choice}
use Rattle.pungi_base.specs.declared.choice.Choice.TheVariants as choice
use Rattle.pungi_base.specs.declared.value.Value.{Value}
use Rattle.pungi_base.specs.declared.value.Value.TheVariants as value
use Rattle.pungi_api.specs.declared.param.Param.{Param}
use Rattle.pungi_api.specs.declared.param.Param.TheVariants as param
use Rattle.pungi_world.specs.declared.content.Content.{Content}
use Rattle.pungi_world.specs.declared.content.Content.TheVariants as content
use Rattle.pungi_world.specs.declared.halt.Halt.TheVariants as halt
use Rattle.pungi_world.specs.declared.slot.Slot.{Slot}
use Rattle.pungi_world.specs.declared.touch.Touch.{Touch}
use Rattle.pungi_world.specs.declared.world.World.{World}
use Rattle.pungi_world.specs.Choices.{value_of, is_null, is_text, is_number}
use Rattle.pungi_world.specs.Counts.{count_value, hand_over, mark_made, with_value}
use Rattle.pungi_world.specs.Escapes.{is_this_object}
use Rattle.pungi_world.specs.World.{account_of}
use Rattle.pungi_world.specs.Slots.{is_made, is_fresh, is_old, is_content, find_content, with_content, with_slot}
use Rattle.pungi_world.specs.Slots.{touch_at, touch, place_of}
use Rattle.pungi_code.specs.WellFormed.{is_slot_kind}
use Rattle.pungi_symbol.specs.declared.states.mark.Mark.TheVariants.{Pointer, TextPointer, Integer}
use Rattle.pungi_symbol.specs.declared.states.integer_range.IntegerRange.{IntegerRange}
use Rattle.pungi_symbol.specs.declared.states.integer_range.IntegerRange.TheVariants as ranges
use Rattle.pungi_symbol.specs.states.Terms.{is_mark, low_of, high_of}
use Rattle.pungi_symbol.specs.questions.NextQuestion.{content_mark}
use Rattle.pungi_symbol.specs.runs.RunInState.{owed, IsOf}
use Rattle.pungi_symbol.proofs.states.NamedObjects.{part}
use Rattle.pungi_symbol.proofs.states.Owed.{AreSameMade, owed_counted, owed_handed, owed_object, object_slots}
use Rattle.pungi_symbol.proofs.states.Owed.{object_more, object_there, object_made, replaced_made, marked_made}
use Rattle.pungi_symbol.proofs.states.Owed.{owed_marked}

or_false : (b : Bool) → (b || false) ≡ b
or_false true = refl
or_false false = refl

-- ---- the object of a value

-- one of the objects that are there, or the next one
abbrev pub IsNear : World → Value → Type 0
IsNear w value.Null = Unit {0}
IsNear w (value.Object k) = k ≤ length w.accounts
IsNear w (value.Int n) = Unit {0}
IsNear w value.Text = Unit {0}

pub value_owed : (w : World) (v : Value) (o : ℕ) → owed (with_value w v) o ≡ owed w o
value_owed w value.Null o = refl
value_owed w (value.Object k) o = owed_object w k o
value_owed w (value.Int n) o = refl
value_owed w value.Text o = refl

pub value_slots : (w : World) (v : Value) → (with_value w v).slots ≡ w.slots
value_slots w value.Null = refl
value_slots w (value.Object k) = object_slots w k
value_slots w (value.Int n) = refl
value_slots w value.Text = refl

pub value_more : (w : World) (v : Value) → length w.accounts ≤ length (with_value w v).accounts
value_more w value.Null = omega arith
value_more w (value.Object k) = object_more w k
value_more w (value.Int n) = omega arith
value_more w value.Text = omega arith

pub value_there : (w : World) (v : Value) → IsNear w v → IsOf (length (with_value w v).accounts) v
value_there w value.Null h = tt
value_there w (value.Object k) h = object_there w k h
value_there w (value.Int n) h = tt
value_there w value.Text h = tt

pub value_made : (w : World) (v : Value) → AreSameMade w (with_value w v)
value_made w value.Null o = refl
value_made w (value.Object k) o = object_made w k o
value_made w (value.Int n) o = refl
value_made w value.Text o = refl

pub of_more : (n m : ℕ) (v : Value) → n ≤ m → IsOf n v → IsOf m v
of_more n m value.Null le h = tt
of_more n m (value.Object k) le h = omega (arith, le, h)
of_more n m (value.Int i) le h = tt
of_more n m value.Text le h = tt

-- a count changes; an object is taken over
pub counted_owed : (w : World) (v : Value) (by : ℤ) (o : ℕ) → IsOf (length w.accounts) v
    → owed (count_value w v by) o ≡ owed w o +ℤ part (is_this_object v o) by
counted_owed w value.Null by o h = omega (arith, ints)
counted_owed w (value.Object k) by o h = owed_counted w k by o h
counted_owed w (value.Int n) by o h = omega (arith, ints)
counted_owed w value.Text by o h = omega (arith, ints)

pub handed_owed : (w : World) (v : Value) (o : ℕ) → IsOf (length w.accounts) v
    → owed (hand_over w v) o ≡ owed w o +ℤ part (is_this_object v o) (negsuc 0)
handed_owed w value.Null o h = omega (arith, ints)
handed_owed w (value.Object k) o h = owed_handed w k o h
handed_owed w (value.Int n) o h = omega (arith, ints)
handed_owed w value.Text o h = omega (arith, ints)

-- what stays: how many objects there are, the slots, and which objects were made
pub record Keeps (w w' : World) : Type 0 where
  pub accounts : length w'.accounts ≡ length w.accounts
  pub slots : w'.slots ≡ w.slots
  pub made : AreSameMade w w'

pub keeps_self : (w : World) → Keeps w w
keeps_self w = record { accounts = refl; slots = refl; made = λ o. refl }

pub keeps_then : (a b c : World) → Keeps a b → Keeps b c → Keeps a c
keeps_then a b c f g =
    record { accounts = g.accounts ∙ f.accounts; slots = g.slots ∙ f.slots; made = λ o. g.made o ∙ f.made o }

pub counted_keeps : (w : World) (v : Value) (by : ℤ) → Keeps w (count_value w v by)
counted_keeps w value.Null by = keeps_self w
counted_keeps w (value.Object k) by =
    record { accounts = length-set w.accounts k _; slots = refl; made = replaced_made w k _ refl }
counted_keeps w (value.Int n) by = keeps_self w
counted_keeps w value.Text by = keeps_self w

pub handed_keeps : (w : World) (v : Value) → Keeps w (hand_over w v)
handed_keeps w value.Null = keeps_self w
handed_keeps w (value.Object k) =
    record { accounts = length-set w.accounts k _; slots = refl; made = replaced_made w k _ refl }
handed_keeps w (value.Int n) = keeps_self w
handed_keeps w value.Text = keeps_self w

-- an object is marked as made
pub marked_owed : (w : World) (v : Value) (o : ℕ) → IsOf (length w.accounts) v → owed (mark_made w v) o ≡ owed w o
marked_owed w value.Null o h = refl
marked_owed w (value.Object k) o h = owed_marked w k o h
marked_owed w (value.Int n) o h = refl
marked_owed w value.Text o h = refl

pub marked_accounts : (w : World) (v : Value) → length (mark_made w v).accounts ≡ length w.accounts
marked_accounts w value.Null = refl
marked_accounts w (value.Object k) = length-set w.accounts k _
marked_accounts w (value.Int n) = refl
marked_accounts w value.Text = refl

pub marked_slots : (w : World) (v : Value) → (mark_made w v).slots ≡ w.slots
marked_slots w value.Null = refl
marked_slots w (value.Object k) = refl
marked_slots w (value.Int n) = refl
marked_slots w value.Text = refl

pub marked_is : (w : World) (v : Value) (o : ℕ) → IsOf (length w.accounts) v
    → (account_of (mark_made w v) o).made ≡ ((account_of w o).made || is_this_object v o)
marked_is w value.Null o h = sym (or_false (account_of w o).made)
marked_is w (value.Object k) o h = marked_made w k o h
marked_is w (value.Int n) o h = sym (or_false (account_of w o).made)
marked_is w value.Text o h = sym (or_false (account_of w o).made)

-- ---- choices

pub drop_head : (choices rest : List Choice) (n : ℕ) (c : Choice) → drop n choices ≡ c ∷ rest
    → slice_get choices n ≡ Some c
drop_head [] rest zero c e = absurd (cc)
drop_head [] rest (suc n) c e = absurd (cc)
drop_head (d ∷ choices) rest zero c e = ap Some (cc)
drop_head (d ∷ choices) rest (suc n) c e = drop_head choices rest n c e

pub head_drop : (choices : List Choice) (n : ℕ) (c : Choice) → slice_get choices n ≡ Some c
    → (rest : List Choice) × (drop n choices ≡ c ∷ rest)
head_drop [] zero c e = absurd (cc)
head_drop [] (suc n) c e = absurd (cc)
head_drop (d ∷ choices) zero c e = (choices, ap (λ z. z ∷ choices) (cc))
head_drop (d ∷ choices) (suc n) c e = head_drop choices n c e

-- what a slot held at entry
pub data Found (w : World) (kind : Param) (cs : List Choice) : Type 0 where
  there : (c : Choice) (rest : List Choice) → cs ≡ c ∷ rest → is_content w kind c ≡ true
      → find_content w kind cs ≡ Ok (content.Holds (value_of c), 1) → Found w kind cs
  missing : find_content w kind cs ≡ Err halt.NeedsChoice → Found w kind cs

found_by : (w : World) (kind : Param) (c : Choice) (rest : List Choice) (b : Bool) → is_content w kind c ≡ b
    → Found w kind (c ∷ rest)
found_by w kind c rest true e =
    there c rest refl e (ap (λ b. cond b (Ok (content.Holds (value_of c), 1)) (Err halt.NeedsChoice)) e)
found_by w kind c rest false e =
    missing (ap (λ b. cond b (Ok (content.Holds (value_of c), 1)) (Err halt.NeedsChoice)) e)

pub found_is : (w : World) (kind : Param) (cs : List Choice) → Found w kind cs
found_is w kind [] = missing refl
found_is w kind (c ∷ cs) = found_by w kind c cs (is_content w kind c) refl

abbrev Tc : World → Content × ℕ → Touch
Tc w r = record { place = length w.slots; used = r.1 }

abbrev Tw : World → Slot → Content × ℕ → World
Tw w s r = with_slot (with_content w r.0) s r.0

pub touch_missing : (w : World) (s : Slot) (kind : Param) (cs : List Choice) → is_fresh w s ≡ false
    → place_of w.slots s ≡ None → find_content w kind cs ≡ Err halt.NeedsChoice
    → touch w s kind cs ≡ Err halt.NeedsChoice
touch_missing w s kind cs u e f =
    ap (touch_at w s kind cs) e
    ∙ ap (λ b. (cond b (Ok (content.Unset, 0)) (find_content w kind cs)) >>= (λ r. Ok (Tc w r, Tw w s r)))
    u
    ∙ ap (λ z. z >>= (λ r. Ok (Tc w r, Tw w s r))) f

pub touch_there : (w : World) (s : Slot) (kind : Param) (cs : List Choice) (v : Value) → is_fresh w s ≡ false
    → place_of w.slots s ≡ None → find_content w kind cs ≡ Ok (content.Holds v, 1)
    → touch w s kind cs ≡ Ok (
      record { place = length w.slots; used = 1 },
      with_slot (with_value w v) s
          (content.Holds v),
    )
touch_there w s kind cs v u e f =
    ap (touch_at w s kind cs) e
    ∙ ap (λ b. (cond b (Ok (content.Unset, 0)) (find_content w kind cs)) >>= (λ r. Ok (Tc w r, Tw w s r)))
    u
    ∙ ap (λ z. z >>= (λ r. Ok (Tc w r, Tw w s r))) f

-- a slot of an object that was made holds nothing
pub touch_fresh : (w : World) (s : Slot) (kind : Param) (cs : List Choice) → is_fresh w s ≡ true
    → place_of w.slots s ≡ None
    → touch w s kind cs ≡ Ok (record { place = length w.slots; used = 0 }, with_slot w s content.Unset)
touch_fresh w s kind cs u e =
    ap (touch_at w s kind cs) e
    ∙ ap (λ b. (cond b (Ok (content.Unset, 0)) (find_content w kind cs)) >>= (λ r. Ok (Tc w r, Tw w s r))) u

-- an object that wasn't made
abbrev pub IsUnmade : World → Value → Type 0
IsUnmade w value.Null = Unit {0}
IsUnmade w (value.Object k) = (account_of w k).made ≡ false
IsUnmade w (value.Int n) = Unit {0}
IsUnmade w value.Text = Unit {0}

-- a content is as its mark says, and its object is there or the next one, and wasn't made
old_near : (w : World) (c : Choice) (b : Bool) → is_old w c ≡ true
    → (is_mark Pointer (value_of c) ≡ true) × IsNear w (value_of c) × IsUnmade w (value_of c)
old_near w choice.Null b e = absurd (let bad : false ≡ true = e in cc)
old_near w (choice.Object k) b e =
    (refl, near k (length w.accounts) (not (is_made w k)) e, unmade (nat_le k (length w.accounts)) (is_made w k) e)
  where
    near : (k n : ℕ) (b : Bool) → (nat_le k n && b) ≡ true → k ≤ n
    near k n b e = by (nat_le k n) refl b e
      where
        by : (r : Bool) → nat_le k n ≡ r → (b : Bool) → (r && b) ≡ true → k ≤ n
        by true h b e = grind (arith, nat_tests)
        by false h b e = absurd (let bad : false ≡ true = e in cc)

    unmade : (b m : Bool) → (b && not m) ≡ true → m ≡ false
    unmade true true e = absurd (let bad : false ≡ true = e in cc)
    unmade true false e = refl
    unmade false m e = absurd (let bad : false ≡ true = e in cc)
old_near w (choice.Int n) b e = absurd (let bad : false ≡ true = e in cc)
old_near w choice.Text b e = absurd (let bad : false ≡ true = e in cc)
old_near w (choice.Given n) b e = absurd (let bad : false ≡ true = e in cc)
old_near w (choice.Failed n) b e = absurd (let bad : false ≡ true = e in cc)

or_of : (a b : Bool) → (a || b) ≡ true → (a ≡ true) ⊎ (b ≡ true)
or_of true b e = inl refl
or_of false b e = inr e

null_near : (w : World) (c : Choice) → is_null c ≡ true → value_of c ≡ value.Null
null_near w choice.Null e = refl
null_near w (choice.Object k) e = absurd (let bad : false ≡ true = e in cc)
null_near w (choice.Int n) e = absurd (let bad : false ≡ true = e in cc)
null_near w choice.Text e = absurd (let bad : false ≡ true = e in cc)
null_near w (choice.Given n) e = absurd (let bad : false ≡ true = e in cc)
null_near w (choice.Failed n) e = absurd (let bad : false ≡ true = e in cc)

text_near : (w : World) (c : Choice) → is_text c ≡ true → value_of c ≡ value.Text
text_near w choice.Null e = absurd (let bad : false ≡ true = e in cc)
text_near w (choice.Object k) e = absurd (let bad : false ≡ true = e in cc)
text_near w (choice.Int n) e = absurd (let bad : false ≡ true = e in cc)
text_near w choice.Text e = refl
text_near w (choice.Given n) e = absurd (let bad : false ≡ true = e in cc)
text_near w (choice.Failed n) e = absurd (let bad : false ≡ true = e in cc)

abbrev Good : World → Param → Choice → Type 0
Good w kind c =
    (is_mark (content_mark kind) (value_of c) ≡ true) × IsNear w (value_of c) × IsUnmade w (value_of c)

pointer_good : (w : World) (c : Choice) → (is_null c || is_old w c) ≡ true
    → (is_mark Pointer (value_of c) ≡ true) × IsNear w (value_of c) × IsUnmade w (value_of c)
pointer_good w c e = elim (or_of (is_null c) (is_old w c) e) [
  | inl h ↦ (
    ap (is_mark Pointer) (null_near w c h),
    subst (IsNear w) (sym (null_near w c h)) tt,
    subst (IsUnmade w)
        (sym (null_near w c h)) tt,
  )
  | inr h ↦ old_near w c true h
]

text_good : (w : World) (c : Choice) → (is_null c || is_text c) ≡ true
    → (is_mark TextPointer (value_of c) ≡ true) × IsNear w (value_of c) × IsUnmade w (value_of c)
text_good w c e = elim (or_of (is_null c) (is_text c) e) [
  | inl h ↦ (
    ap (is_mark TextPointer) (null_near w c h),
    subst (IsNear w) (sym (null_near w c h)) tt,
    subst
        (IsUnmade w) (sym (null_near w c h)) tt,
  )
  | inr h ↦ (
    ap (is_mark TextPointer) (text_near w c h),
    subst (IsNear w) (sym (text_near w c h)) tt,
    subst
        (IsUnmade w) (sym (text_near w c h)) tt,
  )
]

pub integer_good : (w : World) (r : IntegerRange) (c : Choice) → is_number (low_of r) (high_of r) c ≡ true
    → (is_mark (Integer r) (value_of c) ≡ true) × IsNear w (value_of c) × IsUnmade w (value_of c)
integer_good w r choice.Null e = absurd (let bad : false ≡ true = e in cc)
integer_good w r (choice.Object k) e = absurd (let bad : false ≡ true = e in cc)
integer_good w r (choice.Int n) e = (e, tt, tt)
integer_good w r choice.Text e = absurd (let bad : false ≡ true = e in cc)
integer_good w r (choice.Given n) e = absurd (let bad : false ≡ true = e in cc)
integer_good w r (choice.Failed n) e = absurd (let bad : false ≡ true = e in cc)

pub content_good : (w : World) (kind : Param) (c : Choice) → is_slot_kind kind ≡ true → is_content w kind c ≡ true
    → Good w kind c
content_good w param.Object c p e = absurd (let bad : false ≡ true = p in cc)
content_good w param.ObjectOrNull c p e = pointer_good w c e
content_good w param.Text c p e = absurd (let bad : false ≡ true = p in cc)
content_good w param.TextOrNull c p e = text_good w c e
content_good w param.Int c p e = integer_good w ranges.Int c e
content_good w param.Long c p e = integer_good w ranges.Long c e
content_good w param.Size c p e = integer_good w ranges.Long c e
content_good w param.ModuleDef c p e = absurd (let bad : false ≡ true = p in cc)
