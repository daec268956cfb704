-- Which answers choices give: the answer that a trace notes is true of the value.
use Rattle.std.proofs.Common.{◌≡◌, ℕ, ◌+◌, ◌-◌, ◌<◌, ◌≤◌, ℤ, pos, negsuc, List, [], ◌∷◌, length, true, false, refl, sym}
use Rattle.std.proofs.Common.{ap, ◌∙◌, subst, arith, ◌⊎◌, inl, inr, Some, cond}
use Rattle.std.specs.Prelude.{◌||◌, ◌&&◌, nat_le, nat_lt}
use Rattle.std.proofs.lemmas.Int.{ints}
use Rattle.std.proofs.lemmas.Bool.{eqb-true}
use Rattle.std.proofs.lemmas.Bool.Decides.{nat_tests, Decides-int_eq}
use Rattle.pungi_base.specs.declared.choice.Choice.{Choice}
use Rattle.pungi_base.specs.declared.choice.Choice.TheVariants as choice
use Rattle.pungi_base.specs.declared.value.Value.{Value}
use Rattle.pungi_base.specs.declared.value.Value.TheVariants as value
use Rattle.pungi_api.specs.declared.answer.Answer.{Answer}
use Rattle.pungi_api.specs.declared.answer.Answer.TheVariants as answer
use Rattle.pungi_world.specs.declared.world.World.{World}
use Rattle.pungi_world.specs.Calls.{is_success, is_zero, is_object}
use Rattle.pungi_world.specs.Choices.{value_of, is_null, is_text, is_number, is_between, is_object_choice}
use Rattle.pungi_world.specs.Choices.{is_conversion, is_next, is_accepted}
use Rattle.pungi_symbol.specs.declared.answers.decision.Decision.TheVariants.{Outcome}
use Rattle.pungi_symbol.specs.declared.states.integer_range.IntegerRange.{IntegerRange}
use Rattle.pungi_symbol.specs.declared.states.integer_range.IntegerRange.TheVariants as ranges
use Rattle.pungi_symbol.specs.declared.states.mark.Mark.{Mark}
use Rattle.pungi_symbol.specs.declared.states.mark.Mark.TheVariants.{IsNull, IsObject, IsConverted, Integer}
use Rattle.pungi_symbol.specs.states.Terms.{is_mark, outcomes_of_answer, place_of, mark_at, value_of_mark, low_of}
use Rattle.pungi_symbol.specs.states.Terms.{high_of, conversions}
use Rattle.pungi_symbol.specs.answers.SymbolicState.{is_outcome}
use Rattle.pungi_symbol.proofs.answers.Conversions.{conversions_long, failed_at, converted_at}
use Rattle.pungi_symbol.proofs.answers.Apart.{place_back, answer_apart}
use Rattle.pungi_symbol.proofs.states.Contents.{is_open, Agrees, one, objects}
use Rattle.pungi_symbol.proofs.steps.ChoicesForAnswers.{IsNext}
use Rattle.pungi_symbol.proofs.steps.Worlds.{IsNear}

-- a call succeeds by its answer's mark
zero_agrees : (v x : Value) → Agrees v x → is_zero v ≡ is_zero x
zero_agrees v x (one e) = ap is_zero e
zero_agrees v x (objects a b e f) = ap is_zero e ∙ sym (ap is_zero f)

object_agrees : (v x : Value) → Agrees v x → is_object v ≡ is_object x
object_agrees v x (one e) = ap is_object e
object_agrees v x (objects a b e f) = ap is_object e ∙ sym (ap is_object f)

pub success_agrees : (a : Answer) (v x : Value) → Agrees v x → is_success a (Some v) ≡ is_success a (Some x)
success_agrees answer.New v x h = object_agrees v x h
success_agrees answer.Status v x h = zero_agrees v x h
success_agrees answer.Borrowed v x h = refl
success_agrees answer.BorrowedSure v x h = refl
success_agrees answer.Truth v x h = refl
success_agrees answer.Size v x h = refl
success_agrees answer.Int v x h = refl
success_agrees answer.Long v x h = refl
success_agrees answer.Text v x h = refl
success_agrees answer.Void v x h = refl
success_agrees answer.Null v x h = refl
success_agrees answer.Found v x h = refl
success_agrees (answer.Converted failures least most) v x h = refl
success_agrees answer.AnySize v x h = refl
success_agrees answer.Flag v x h = refl
success_agrees answer.TextSure v x h = refl
success_agrees answer.Made v x h = refl

-- where a call makes an object, it is the next one
abbrev pub IsMadeNext : Answer → ℕ → Value → Type 0
IsMadeNext answer.Made n v = IsNext n v
IsMadeNext a n v = Unit {0}

-- the answer is one of those that traces distinguish
pub record Told (a : Answer) (n : ℕ) (v : Value) : Type 0 where
  pub can : is_outcome (length (outcomes_of_answer a)) (Outcome (place_of (outcomes_of_answer a) v)) ≡ true
  pub marked : is_mark (mark_at (outcomes_of_answer a) (place_of (outcomes_of_answer a) v)) v ≡ true
  pub shut : is_open (mark_at (outcomes_of_answer a) (place_of (outcomes_of_answer a) v)) ≡ false
  pub near : (w : World) → length w.accounts ≡ n → IsNear w v
  pub success : is_success a (Some v)
      ≡ is_success a (Some (value_of_mark (mark_at (outcomes_of_answer a) (place_of (outcomes_of_answer a) v))))

le_says : (k n : ℕ) → nat_le k n ≡ true → k ≤ n
le_says k n e = grind (arith, nat_tests)

no_way : {X : Type 0} → false ≡ true → X
no_way e = absurd (cc)

pointer_told : (a : Answer) (n : ℕ) (c : Choice) → outcomes_of_answer a ≡ IsNull ∷ IsObject ∷ []
    → (is_null c || is_object_choice n c) ≡ true → Told a n (value_of c)
pointer_told a n choice.Null e h =
    record {
      can = ap (λ z. is_outcome (length z) (Outcome (place_of z value.Null))) e;
      marked = ap
          (λ z. is_mark (mark_at z (place_of z value.Null)) value.Null) e;
      shut = ap
          (λ z. is_open (mark_at z (place_of z value.Null))) e;
      near = λ w f. tt;
      success = sym (ap (λ z. is_success a (Some (value_of_mark (mark_at z (place_of z value.Null))))) e);
    }
pointer_told a n (choice.Object k) e h =
    record {
      can = ap (λ z. is_outcome (length z) (Outcome (place_of z (value.Object k)))) e;
      marked = ap
          (λ z. is_mark (mark_at z (place_of z (value.Object k))) (value.Object k)) e;
      shut = ap
          (λ z. is_open (mark_at z (place_of z (value.Object k)))) e;
      near = λ w f. let le = le_says k n h in omega
          (arith, f, le);
      success = success_agrees a (value.Object k) (value.Object 0) (objects k 0 refl refl)
          ∙ sym (ap (λ z. is_success a (Some (value_of_mark (mark_at z (place_of z (value.Object k)))))) e);
    }
pointer_told a n (choice.Int i) e h = no_way h
pointer_told a n choice.Text e h = no_way h
pointer_told a n (choice.Given i) e h = no_way h
pointer_told a n (choice.Failed i) e h = no_way h

made_next : (n : ℕ) (c : Choice) → (is_null c || is_next n c) ≡ true → IsNext n (value_of c)
made_next n choice.Null h = tt
made_next n (choice.Object k) h = eqb-true k n h
made_next n (choice.Int i) h = no_way h
made_next n choice.Text h = no_way h
made_next n (choice.Given i) h = no_way h
made_next n (choice.Failed i) h = no_way h

made_told : (n : ℕ) (c : Choice) → (is_null c || is_next n c) ≡ true → Told answer.Made n (value_of c)
made_told n choice.Null h = record { can = refl; marked = refl; shut = refl; near = λ w f. tt; success = refl }
made_told n (choice.Object k) h =
    record {
      can = refl;
      marked = refl;
      shut = refl;
      near = λ w f. let e = made_next n (choice.Object k) h in omega (arith, f, e);
      success = refl;
    }
made_told n (choice.Int i) h = no_way h
made_told n choice.Text h = no_way h
made_told n (choice.Given i) h = no_way h
made_told n (choice.Failed i) h = no_way h

sure_told : (n : ℕ) (c : Choice) → is_object_choice n c ≡ true → Told answer.BorrowedSure n (value_of c)
sure_told n choice.Null h = no_way h
sure_told n (choice.Object k) h =
    record {
      can = refl;
      marked = refl;
      shut = refl;
      near = λ w f. let le = le_says k n h in omega (arith, f, le);
      success = refl;
    }
sure_told n (choice.Int i) h = no_way h
sure_told n choice.Text h = no_way h
sure_told n (choice.Given i) h = no_way h
sure_told n (choice.Failed i) h = no_way h

text_told : (n : ℕ) (c : Choice) → (is_null c || is_text c) ≡ true → Told answer.Text n (value_of c)
text_told n choice.Null h = record { can = refl; marked = refl; shut = refl; near = λ w f. tt; success = refl }
text_told n (choice.Object k) h = no_way h
text_told n (choice.Int i) h = no_way h
text_told n choice.Text h = record { can = refl; marked = refl; shut = refl; near = λ w f. tt; success = refl }
text_told n (choice.Given i) h = no_way h
text_told n (choice.Failed i) h = no_way h

status_cases : (i : ℤ) → is_between (negsuc 0) (pos 0) i ≡ true → (i ≡ pos 0) ⊎ (i ≡ negsuc 0)
status_cases i h = grind (arith, ints)

truth_cases : (i : ℤ) → is_between (negsuc 0) (pos 1) i ≡ true → (i ≡ pos 1) ⊎ ((i ≡ pos 0) ⊎ (i ≡ negsuc 0))
truth_cases i h = grind (arith, ints)

status_told : (n : ℕ) (c : Choice) → is_number (negsuc 0) (pos 0) c ≡ true → Told answer.Status n (value_of c)
status_told n choice.Null h = no_way h
status_told n (choice.Object k) h = no_way h
status_told n (choice.Int i) h = elim (status_cases i h) [
  | inl e ↦ subst (λ z. Told answer.Status n (value.Int z)) (sym e) (record
      { can = refl; marked = refl; shut = refl; near = λ w f. tt; success = refl })
  | inr e ↦ subst (λ z. Told answer.Status n (value.Int z)) (sym e) (record
      { can = refl; marked = refl; shut = refl; near = λ w f. tt; success = refl })
]
status_told n choice.Text h = no_way h
status_told n (choice.Given i) h = no_way h
status_told n (choice.Failed i) h = no_way h

truth_told : (n : ℕ) (c : Choice) → is_number (negsuc 0) (pos 1) c ≡ true → Told answer.Truth n (value_of c)
truth_told n choice.Null h = no_way h
truth_told n (choice.Object k) h = no_way h
truth_told n (choice.Int i) h = elim (truth_cases i h) [
  | inl e ↦ subst (λ z. Told answer.Truth n (value.Int z)) (sym e) (record
      { can = refl; marked = refl; shut = refl; near = λ w f. tt; success = refl })
  | inr r ↦ elim r [
    | inl e ↦ subst (λ z. Told answer.Truth n (value.Int z)) (sym e) (record
        { can = refl; marked = refl; shut = refl; near = λ w f. tt; success = refl })
    | inr e ↦ subst (λ z. Told answer.Truth n (value.Int z)) (sym e) (record
        { can = refl; marked = refl; shut = refl; near = λ w f. tt; success = refl })
  ]
]
truth_told n choice.Text h = no_way h
truth_told n (choice.Given i) h = no_way h
truth_told n (choice.Failed i) h = no_way h

found_cases : (i : ℤ) → is_between (pos 0) (pos 1) i ≡ true → (i ≡ pos 1) ⊎ (i ≡ pos 0)
found_cases i h = grind (arith, ints)

found_told : (n : ℕ) (c : Choice) → is_number (pos 0) (pos 1) c ≡ true → Told answer.Found n (value_of c)
found_told n choice.Null h = no_way h
found_told n (choice.Object k) h = no_way h
found_told n (choice.Int i) h = elim (found_cases i h) [
  | inl e ↦ subst (λ z. Told answer.Found n (value.Int z)) (sym e) (record
      { can = refl; marked = refl; shut = refl; near = λ w f. tt; success = refl })
  | inr e ↦ subst (λ z. Told answer.Found n (value.Int z)) (sym e) (record
      { can = refl; marked = refl; shut = refl; near = λ w f. tt; success = refl })
]
found_told n choice.Text h = no_way h
found_told n (choice.Given i) h = no_way h
found_told n (choice.Failed i) h = no_way h

sure_text_told : (n : ℕ) (c : Choice) → is_text c ≡ true → Told answer.TextSure n (value_of c)
sure_text_told n choice.Null h = no_way h
sure_text_told n (choice.Object k) h = no_way h
sure_text_told n (choice.Int i) h = no_way h
sure_text_told n choice.Text h =
    record { can = refl; marked = refl; shut = refl; near = λ w f. tt; success = refl }
sure_text_told n (choice.Given i) h = no_way h
sure_text_told n (choice.Failed i) h = no_way h

-- how an argument parser ends
lt_says : (k n : ℕ) → nat_lt k n ≡ true → k < n
lt_says k n e = grind (arith, nat_tests)

both_says : (a b c : ℕ) → (nat_le a b && nat_le b c) ≡ true → (a ≤ b) × (b ≤ c)
both_says a b c e = (grind (arith, nat_tests), grind (arith, nat_tests))

outcome_true : (k n : ℕ) → k < n → is_outcome n (Outcome k) ≡ true
outcome_true k n lt = grind (arith, nat_tests)

module _ (failures least most : ℕ) where
  abbrev Parser : Answer
  Parser = answer.Converted failures least most

  abbrev Ends : List Mark
  Ends = conversions failures least most

  ending_told : (n k : ℕ) (i : ℤ) → k < length Ends → mark_at Ends k ≡ IsConverted i → Told Parser n (value.Int i)
  ending_told n k i lt e =
      let is : is_mark (mark_at Ends k) (value.Int i) ≡ true = ap (λ m. is_mark m (value.Int i)) e
      ∙ (Decides-int_eq i i).1 refl in
      let place : place_of Ends (value.Int i) ≡ k = place_back Ends k (value.Int i) (answer_apart Parser) lt is in
      record {
        can = ap (λ z. is_outcome (length Ends) (Outcome z)) place ∙ outcome_true k (length Ends) lt;
        marked = ap (λ z. is_mark (mark_at Ends z) (value.Int i)) place ∙ is;
        shut = ap (λ z. is_open (mark_at Ends z)) place ∙ ap is_open e;
        near = λ w f. tt;
        success = refl;
      }

  conversion_told : (n : ℕ) (c : Choice) → is_conversion failures least most c ≡ true → Told Parser n (value_of c)
  conversion_told n choice.Null h = no_way h
  conversion_told n (choice.Object k) h = no_way h
  conversion_told n (choice.Int i) h = no_way h
  conversion_told n choice.Text h = no_way h
  conversion_told n (choice.Given i) h =
      let le = both_says least i most h in
      let long = conversions_long failures least most in
      let k = failures + (i - least) in
      ending_told n k (pos i) (omega (arith, le.0, le.1, long))
      (converted_at failures least most k i (omega arith) (omega (arith, le.0)) le.1)
  conversion_told n (choice.Failed i) h =
      let lt = lt_says i failures h in
      let long = conversions_long failures least most in
      ending_told n i (negsuc i) (omega (arith, lt, long)) (failed_at failures least most i lt)

-- a number that answers don't tell apart
integer_told : (a : Answer) (r : IntegerRange) (n : ℕ) (c : Choice) → outcomes_of_answer a ≡ Integer r ∷ []
    → ((v : Value) → is_success a (Some v) ≡ false) → is_number (low_of r) (high_of r) c ≡ true
    → Told a n (value_of c)
integer_told a r n choice.Null e g h = no_way h
integer_told a r n (choice.Object k) e g h = no_way h
integer_told a r n (choice.Int i) e g h =
    let first : place_of (Integer r ∷ []) (value.Int i) ≡ 0 = ap (λ b. cond b 0 1) h in
    let place : place_of (outcomes_of_answer a) (value.Int i) ≡ 0 = ap (λ z. place_of z (value.Int i)) e ∙ first in
    let mark : mark_at (outcomes_of_answer a) (place_of (outcomes_of_answer a) (value.Int i)) ≡ Integer r =
    ap (mark_at (outcomes_of_answer a)) place ∙ ap (λ z. mark_at z 0) e in
    record {
      can = ap (λ z. is_outcome (length (outcomes_of_answer a)) (Outcome z)) place
          ∙ ap (λ z. is_outcome (length z) (Outcome 0)) e;
      marked = ap (λ z. is_mark z (value.Int i)) mark ∙ h;
      shut = ap is_open mark;
      near = λ w f. tt;
      success = g (value.Int i) ∙ sym (g (value_of_mark (mark_at (outcomes_of_answer a)
          (place_of (outcomes_of_answer a) (value.Int i)))));
    }
integer_told a r n choice.Text e g h = no_way h
integer_told a r n (choice.Given i) e g h = no_way h
integer_told a r n (choice.Failed i) e g h = no_way h

pub known_is : (a : Answer) (n : ℕ) (c : Choice) → is_accepted n a c ≡ true → Told a n (value_of c)
known_is answer.New n c h = pointer_told answer.New n c refl h
known_is answer.Borrowed n c h = pointer_told answer.Borrowed n c refl h
known_is answer.BorrowedSure n c h = sure_told n c h
known_is answer.Status n c h = status_told n c h
known_is answer.Truth n c h = truth_told n c h
known_is answer.Text n c h = text_told n c h
known_is answer.Size n c h = integer_told answer.Size ranges.SizeOrError n c refl (λ v. refl) h
known_is answer.Int n c h = integer_told answer.Int ranges.Int n c refl (λ v. refl) h
known_is answer.Long n c h = integer_told answer.Long ranges.Long n c refl (λ v. refl) h
known_is answer.Void n c h = no_way h
known_is answer.Null n c h = no_way h
known_is answer.Found n c h = found_told n c h
known_is (answer.Converted failures least most) n c h = conversion_told failures least most n c h
known_is answer.AnySize n c h = integer_told answer.AnySize ranges.Long n c refl (λ v. refl) h
known_is answer.Flag n c h = integer_told answer.Flag ranges.Flag n c refl (λ v. refl) h
known_is answer.TextSure n c h = sure_text_told n c h
known_is answer.Made n c h = made_told n c h

-- an object that a call makes is the next one
pub answered_is : (a : Answer) (n : ℕ) (c : Choice) → is_accepted n a c ≡ true → IsMadeNext a n (value_of c)
answered_is answer.New n c h = tt
answered_is answer.Borrowed n c h = tt
answered_is answer.BorrowedSure n c h = tt
answered_is answer.Status n c h = tt
answered_is answer.Truth n c h = tt
answered_is answer.Text n c h = tt
answered_is answer.Size n c h = tt
answered_is answer.Int n c h = tt
answered_is answer.Long n c h = tt
answered_is answer.Void n c h = tt
answered_is answer.Null n c h = tt
answered_is answer.Found n c h = tt
answered_is (answer.Converted failures least most) n c h = tt
answered_is answer.AnySize n c h = tt
answered_is answer.Flag n c h = tt
answered_is answer.TextSure n c h = tt
answered_is answer.Made n c h = made_next n c h
