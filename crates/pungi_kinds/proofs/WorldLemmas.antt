-- What a call of the API, a load and a store leave: objects and slots that are there stay there, and at most one object
-- is new for each choice that is used.
use Rattle.std.proofs.Common.{◌≡◌, ℕ, ◌+◌, ◌<◌, ◌≤◌, ◌&&◌, ◌||◌, Bool, true, false, [], ◌∷◌, ◌++◌}
use Rattle.std.proofs.Common.{length, refl, ◌∙◌, arith, eqb-true}
use Rattle.std.proofs.Common.{leb-true, ltb-true}
use Rattle.std.specs.Prelude.{ℤ, pos, negsuc, ◌==◌, ◌-◌, ◌^◌, nat_le, nat_lt, if◌then◌else◌}
use Rattle.std.proofs.lemmas.List.{length-set, length-append}
use Rattle.std.proofs.lemmas.Bool.Decides.{nat_tests}
use Rattle.pungi_base.specs.declared.choice.Choice.{Choice}
use Rattle.pungi_base.specs.declared.choice.Choice.TheVariants as choice
use Rattle.pungi_base.specs.declared.value.Value.{Value}
use Rattle.pungi_base.specs.declared.value.Value.TheVariants as value
use Rattle.pungi_api.specs.Rows.{fits_int}
use Rattle.pungi_api.specs.declared.answer.Answer.{Answer}
use Rattle.pungi_api.specs.declared.answer.Answer.TheVariants as answer
use Rattle.pungi_api.specs.declared.param.Param.{Param}
use Rattle.pungi_api.specs.declared.param.Param.TheVariants as param
use Rattle.pungi_world.specs.declared.world.World.{World}
use Rattle.pungi_world.specs.World.{fresh_account}
use Rattle.pungi_world.specs.Counts.{count_value, hand_over, mark_made, with_object, with_value}
use Rattle.pungi_world.specs.Choices.{is_accepted, is_conversion, is_next, is_null, is_number}
use Rattle.pungi_world.specs.Choices.{is_object_choice, is_text, value_of}
use Rattle.pungi_code.specs.Entries.{holds_value}
use Rattle.pungi_code.specs.WellFormed.{answer_param}
use Rattle.pungi_layout.proofs.well_formed.Both.{and_true, and_left, and_right}
use Rattle.pungi_kinds.proofs.ValueLemmas as lemma

-- one world has the slots of another, and its objects
pub record Same (w v : World) : Type 0 where
  pub slots : v.slots ≡ w.slots
  pub accounts : length v.accounts ≡ length w.accounts

-- one world has the slots of another, and its objects and at most so many more
pub record Grows (w v : World) (more : ℕ) : Type 0 where
  pub slots : v.slots ≡ w.slots
  pub least : length w.accounts ≤ length v.accounts
  pub most : length v.accounts ≤ length w.accounts + more

pub same : (w : World) → Same w w
same w = record { slots = refl; accounts = refl }

pub then_same : (u v w : World) → Same u v → Same v w → Same u w
then_same u v w a b = record { slots = b.slots ∙ a.slots; accounts = b.accounts ∙ a.accounts }

pub grows_same : (w v : World) (n : ℕ) → Same w v → Grows w v n
grows_same w v n s = record { slots = s.slots; least = omega (arith, s.accounts); most = omega (arith, s.accounts) }

pub then_grows : (u v w : World) (n : ℕ) → Grows u v n → Same v w → Grows u w n
then_grows u v w n g s = record {
  slots = s.slots ∙ g.slots;
  least = omega (arith, s.accounts, g.least);
  most = omega (arith, s.accounts, g.most);
}

-- ---- counts

pub counted : (w : World) (x : Value) (by : ℤ) → Same w (count_value w x by)
counted w (value.Object k) by = record { slots = refl; accounts = length-set w.accounts k _ }
counted w value.Null by = same w
counted w (value.Int n) by = same w
counted w value.Text by = same w

pub marked : (w : World) (x : Value) → Same w (mark_made w x)
marked w (value.Object k) = record { slots = refl; accounts = length-set w.accounts k _ }
marked w value.Null = same w
marked w (value.Int n) = same w
marked w value.Text = same w

pub handed : (w : World) (x : Value) → Same w (hand_over w x)
handed w (value.Object k) = record { slots = refl; accounts = length-set w.accounts k _ }
handed w value.Null = same w
handed w (value.Int n) = same w
handed w value.Text = same w

grows_there : (w : World) (k : ℕ) (b : Bool)
    → Grows w (if b then record w { accounts = w.accounts ++ fresh_account ∷ [] } else w) 1
grows_there w k true = record {
  slots = refl;
  least = omega (arith, length-append w.accounts (fresh_account ∷ []));
  most = omega (arith, length-append w.accounts (fresh_account ∷ []));
}
grows_there w k false = grows_same w w 1 (same w)

pub grows_with : (w : World) (x : Value) → Grows w (with_value w x) 1
grows_with w (value.Object k) = grows_there w k (k == length w.accounts)
grows_with w value.Null = grows_same w w 1 (same w)
grows_with w (value.Int n) = grows_same w w 1 (same w)
grows_with w value.Text = grows_same w w 1 (same w)

-- an object that is there or the next one is there afterwards
object_there : (w : World) (k : ℕ) → k ≤ length w.accounts → k < length (with_object w k).accounts
object_there w k le = by (k == length w.accounts) refl
  where
    by : (b : Bool) → (k == length w.accounts) ≡ b
        → k < length (if b then record w { accounts = w.accounts ++ fresh_account ∷ [] } else w).accounts
    by true e = omega (arith, length-append w.accounts (fresh_account ∷ []), eqb-true k (length w.accounts) e)
    by false e = grind (arith, nat_tests)

-- ---- answers

-- a value of this kind, where the object of the value is there
abbrev pub HoldsAfter : World → Param → Value → Type 0
HoldsAfter w k v = holds_value (length (with_value w v).accounts) k v ≡ true

pub object_chosen : (w : World) (c : Choice) → is_object_choice (length w.accounts) c ≡ true
    → HoldsAfter w param.ObjectOrNull (value_of c)
object_chosen w (choice.Object k) h =
    lemma.lt_true k (length (with_object w k).accounts) (object_there w k (leb-true k (length w.accounts) h))
object_chosen w choice.Null h = absurd (cc)
object_chosen w (choice.Int z) h = absurd (cc)
object_chosen w choice.Text h = absurd (cc)
object_chosen w (choice.Given k) h = absurd (cc)
object_chosen w (choice.Failed k) h = absurd (cc)

pub null_chosen : (w : World) (k : Param) (c : Choice) → holds_value 0 k value.Null ≡ true → is_null c ≡ true
    → HoldsAfter w k (value_of c)
null_chosen w param.ObjectOrNull choice.Null e h = refl
null_chosen w param.TextOrNull choice.Null e h = refl
null_chosen w k choice.Text e h = absurd (cc)
null_chosen w k (choice.Object o) e h = absurd (cc)
null_chosen w k (choice.Int z) e h = absurd (cc)
null_chosen w k (choice.Given i) e h = absurd (cc)
null_chosen w k (choice.Failed i) e h = absurd (cc)
null_chosen w _ choice.Null e h = absurd (cc)

pub text_chosen : (w : World) (c : Choice) → is_text c ≡ true → HoldsAfter w param.TextOrNull (value_of c)
text_chosen w choice.Text h = refl
text_chosen w choice.Null h = absurd (cc)
text_chosen w (choice.Object o) h = absurd (cc)
text_chosen w (choice.Int z) h = absurd (cc)
text_chosen w (choice.Given i) h = absurd (cc)
text_chosen w (choice.Failed i) h = absurd (cc)

next_chosen : (w : World) (c : Choice) → is_next (length w.accounts) c ≡ true
    → HoldsAfter w param.ObjectOrNull (value_of c)
next_chosen w (choice.Object k) h =
    lemma.lt_true k (length (with_object w k).accounts) (object_there w k
    (let e = eqb-true k (length w.accounts) h in omega arith))
next_chosen w choice.Null h = absurd (cc)
next_chosen w (choice.Int z) h = absurd (cc)
next_chosen w choice.Text h = absurd (cc)
next_chosen w (choice.Given k) h = absurd (cc)
next_chosen w (choice.Failed k) h = absurd (cc)

-- numbers of a range that is within a kind
pub number_chosen : (w : World) (k : Param) (low high : ℤ) (c : Choice)
    → ((z : ℤ) → is_number low high (choice.Int z) ≡ true → holds_value (length w.accounts) k (value.Int z) ≡ true)
    → is_number low high c ≡ true → HoldsAfter w k (value_of c)
number_chosen w k low high (choice.Int z) f h = f z h
number_chosen w k low high choice.Null f h = absurd (cc)
number_chosen w k low high (choice.Object o) f h = absurd (cc)
number_chosen w k low high choice.Text f h = absurd (cc)
number_chosen w k low high (choice.Given i) f h = absurd (cc)
number_chosen w k low high (choice.Failed i) f h = absurd (cc)

small_int : (w : World) (high : ℕ) → high ≤ 2147483647 → (z : ℤ)
    → is_number (negsuc 0) (pos high) (choice.Int z) ≡ true
    → holds_value (length w.accounts) param.Int (value.Int z) ≡ true
small_int w high le (pos n) h = let l = leb-true n high h in lemma.le_true n 2147483647 (omega arith)
small_int w high le (negsuc n) h =
    let l = leb-true n 0 (and_left (nat_le n 0) true h) in
    and_true (nat_le n 2147483647) true (lemma.le_true n 2147483647 (omega arith)) refl

flag_int : (w : World) (z : ℤ) → is_number (pos 0) (pos 1) (choice.Int z) ≡ true
    → holds_value (length w.accounts) param.Int (value.Int z) ≡ true
flag_int w (pos n) h =
    let l = leb-true n 1 (and_right (nat_le 0 n) (nat_le n 1) h) in lemma.le_true n 2147483647 (omega arith)
flag_int w (negsuc n) h = absurd (cc)

size_of : (w : World) (z : ℤ) → is_number (negsuc 0) (pos (2 ^ 63 - 1)) (choice.Int z) ≡ true
    → holds_value (length w.accounts) param.Size (value.Int z) ≡ true
size_of w (pos n) h = h
size_of w (negsuc n) h =
    let l = leb-true n 0 (and_left (nat_le n 0) true h) in
    and_true (nat_le n 9223372036854775807) true (lemma.le_true n 9223372036854775807 (omega arith)) refl

conversion_int : (w : World) (failures least most : ℕ) (c : Choice)
    → (nat_le failures 2147483648 && nat_lt most 2147483648) ≡ true
    → is_conversion failures least most c ≡ true → HoldsAfter w param.Int (value_of c)
conversion_int w failures least most (choice.Given k) f h =
    let a = ltb-true most 2147483648 (and_right (nat_le failures 2147483648) (nat_lt most 2147483648) f) in
    let b = leb-true k most (and_right (nat_le least k) (nat_le k most) h) in
    lemma.le_true k 2147483647 (omega arith)
conversion_int w failures least most (choice.Failed k) f h =
    let a = leb-true failures 2147483648 (and_left (nat_le failures 2147483648) (nat_lt most 2147483648) f) in
    let l : k < failures = grind (arith, nat_tests) in
    and_true (nat_le k 2147483647) true (lemma.le_true k 2147483647 (omega arith)) refl
conversion_int w failures least most choice.Null f h = absurd (cc)
conversion_int w failures least most (choice.Object o) f h = absurd (cc)
conversion_int w failures least most (choice.Int z) f h = absurd (cc)
conversion_int w failures least most choice.Text f h = absurd (cc)

or_null : (w : World) (k : Param) (c : Choice) (b : Bool) → holds_value 0 k value.Null ≡ true
    → (b ≡ true → HoldsAfter w k (value_of c)) → (is_null c || b) ≡ true → HoldsAfter w k (value_of c)
or_null w k c b e f h = lemma.either (is_null c) b (null_chosen w k c e) f h

pub accepted_holds : (w : World) (a : Answer) (c : Choice) → fits_int a ≡ true
    → is_accepted (length w.accounts) a c ≡ true → HoldsAfter w (answer_param a) (value_of c)
accepted_holds w answer.New c f h =
    or_null w param.ObjectOrNull c (is_object_choice (length w.accounts) c) refl (object_chosen w c) h
accepted_holds w answer.Borrowed c f h =
    or_null w param.ObjectOrNull c (is_object_choice (length w.accounts) c) refl (object_chosen w c) h
accepted_holds w answer.BorrowedSure c f h = object_chosen w c h
accepted_holds w answer.Status c f h =
    number_chosen w param.Int (negsuc 0) (pos 0) c (small_int w 0 (omega arith)) h
accepted_holds w answer.Truth c f h =
    number_chosen w param.Int (negsuc 0) (pos 1) c (small_int w 1 (omega arith)) h
accepted_holds w answer.Size c f h =
    number_chosen w param.Size (negsuc 0) (pos (2 ^ 63 - 1)) c (size_of w) h
accepted_holds w answer.Int c f h =
    number_chosen w param.Int (negsuc (2 ^ 31 - 1)) (pos (2 ^ 31 - 1)) c (λ z e. e) h
accepted_holds w answer.Long c f h =
    number_chosen w param.Long (negsuc (2 ^ 63 - 1)) (pos (2 ^ 63 - 1)) c (λ z e. e) h
accepted_holds w answer.Text c f h = or_null w param.TextOrNull c (is_text c) refl (text_chosen w c) h
accepted_holds w answer.Void c f h = absurd (cc)
accepted_holds w answer.Null c f h = absurd (cc)
accepted_holds w answer.Found c f h = number_chosen w param.Int (pos 0) (pos 1) c (flag_int w) h
accepted_holds w (answer.Converted failures least most) c f h = conversion_int w failures least most c f h
accepted_holds w answer.AnySize c f h =
    number_chosen w param.Size (negsuc (2 ^ 63 - 1)) (pos (2 ^ 63 - 1)) c (λ z e. e) h
accepted_holds w answer.Flag c f h = number_chosen w param.Int (pos 0) (pos 1) c (flag_int w) h
accepted_holds w answer.TextSure c f h = text_chosen w c h
accepted_holds w answer.Made c f h =
    or_null w param.ObjectOrNull c (is_next (length w.accounts) c) refl (next_chosen w c) h
