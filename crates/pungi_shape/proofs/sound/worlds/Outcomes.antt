-- What a call may return, by the outcomes of its row.
--   IsOutcome n o v     a call that ends so returns this, where there are n objects
--   EndsSo n a v        what a row returns is one of its outcomes
use Rattle.std.proofs.Common.{◌≡◌, ℕ, ◌<◌, ◌≤◌, ℤ, pos, negsuc, List, [], ◌∷◌, length, get_or, Bool, true, false}
use Rattle.std.proofs.Common.{refl, sym, ap, ◌∙◌, subst, arith, ◌⊎◌, inl, inr, Option, Some, None, Result, Ok, Err}
use Rattle.std.proofs.Common.{cond}
use Rattle.std.specs.Prelude.{◌||◌, ◌-◌, ◌^◌}
use Rattle.std.proofs.lemmas.Int.{ints}
use Rattle.pungi_base.specs.declared.choice.Choice.{Choice}
use Rattle.pungi_base.specs.declared.choice.Choice.TheVariants as choice
use Rattle.pungi_base.specs.declared.value.Value.{Value}
use Rattle.pungi_base.specs.declared.value.Value.TheVariants as value
use Rattle.pungi_api.specs.declared.answer.Answer.{Answer}
use Rattle.pungi_api.specs.declared.answer.Answer.TheVariants as answer
use Rattle.pungi_world.specs.declared.halt.Halt.{Halt}
use Rattle.pungi_world.specs.declared.halt.Halt.TheVariants.{NeedsChoice}
use Rattle.pungi_world.specs.Calls.{is_success}
use Rattle.pungi_world.specs.Choices.{value_of, is_null, is_text, is_object_choice, is_next, is_between, is_number}
use Rattle.pungi_world.specs.Choices.{is_accepted, is_conversion, choose, answer_of}
use Rattle.pungi_world.specs.Effects.{◌>>=◌}
use Rattle.pungi_api.specs.declared.call_answer.CallAnswer.TheVariants.{Of}
use Rattle.pungi_code.specs.WellFormed.{answer_param, is_integer}
use Rattle.pungi_shape.specs.Parts.{gives_value}
use Rattle.pungi_shape.proofs.sound.Views.{suits}
use Rattle.pungi_shape.proofs.sound.worlds.Values.{IsOf}
use Rattle.pungi_shape.specs.Calls.{Outcome, nothing, null, object, text, known, number, outcomes_of_row, outcome_value}
use Rattle.pungi_shape.proofs.sound.Tests.{no_way, lt_true, le_is, eqb_is}

abbrev pub IsOutcome : ℕ → Outcome → Option Value → Type 0
IsOutcome n nothing v = v ≡ None
IsOutcome n null v = v ≡ Some value.Null
IsOutcome n object v = (o : ℕ) × ((o ≤ n) × (v ≡ Some (value.Object o)))
IsOutcome n text v = v ≡ Some value.Text
IsOutcome n (known m) v = v ≡ Some (value.Int m)
IsOutcome n number v = (m : ℤ) × (v ≡ Some (value.Int m))

-- its value is of the kind of the row
abbrev pub IsSuited : Answer → Option Value → Type 0
IsSuited a None = Unit {0}
IsSuited a (Some x) = (m : ℕ) → IsOf m x → suits m (answer_param a) x ≡ true

pub record EndsSo (n : ℕ) (a : Answer) (v : Option Value) : Type 0 where
  pub number_of : ℕ
  pub among : number_of < length (outcomes_of_row a)
  pub is_outcome : IsOutcome n (get_or (outcomes_of_row a) number_of nothing) v
  pub success : is_success a v ≡ is_success a (outcome_value (get_or (outcomes_of_row a) number_of nothing))
  pub suited : IsSuited a v
  pub written : v ≡ None → gives_value (Of a) ≡ false

some_none : {X : Type 0} {x : Value}
    → (let A : Type 0 = Option Value in let y : A = Some x in let z : A = None in y ≡ z) → X
some_none e = absurd cc

-- ---- choices

new_ends : (n : ℕ) (c : Choice) → (is_null c || is_object_choice n c) ≡ true → EndsSo n answer.New (Some (value_of c))
new_ends n choice.Null e = record {
  number_of = 0;
  among = omega arith;
  is_outcome = refl;
  success = refl;
  suited = λ m h. refl;
  written = λ z. some_none z;
}
new_ends n (choice.Object k) e = record {
  number_of = 1;
  among = omega arith;
  is_outcome = (k, (le_is k n e, refl));
  success = refl;
  suited = λ m h. lt_true k m h;
  written = λ z. some_none z;
}
new_ends n (choice.Int i) e = no_way e
new_ends n choice.Text e = no_way e
new_ends n (choice.Given i) e = no_way e
new_ends n (choice.Failed i) e = no_way e

borrowed_ends : (n : ℕ) (c : Choice) → (is_null c || is_object_choice n c) ≡ true
    → EndsSo n answer.Borrowed (Some (value_of c))
borrowed_ends n choice.Null e = record {
  number_of = 0;
  among = omega arith;
  is_outcome = refl;
  success = refl;
  suited = λ m h. refl;
  written = λ z. some_none z;
}
borrowed_ends n (choice.Object k) e = record {
  number_of = 1;
  among = omega arith;
  is_outcome = (k, (le_is k n e, refl));
  success = refl;
  suited = λ m h. lt_true k m h;
  written = λ z. some_none z;
}
borrowed_ends n (choice.Int i) e = no_way e
borrowed_ends n choice.Text e = no_way e
borrowed_ends n (choice.Given i) e = no_way e
borrowed_ends n (choice.Failed i) e = no_way e

made_ends : (n : ℕ) (c : Choice) → (is_null c || is_next n c) ≡ true → EndsSo n answer.Made (Some (value_of c))
made_ends n choice.Null e = record {
  number_of = 0;
  among = omega arith;
  is_outcome = refl;
  success = refl;
  suited = λ m h. refl;
  written = λ z. some_none z;
}
made_ends n (choice.Object k) e = record {
  number_of = 1;
  among = omega arith;
  is_outcome = (k, ((let same = eqb_is k n e in omega (arith, same)), refl));
  success = refl;
  suited = λ m h. lt_true k m h;
  written = λ z. some_none z;
}
made_ends n (choice.Int i) e = no_way e
made_ends n choice.Text e = no_way e
made_ends n (choice.Given i) e = no_way e
made_ends n (choice.Failed i) e = no_way e

sure_ends : (n : ℕ) (c : Choice) → is_object_choice n c ≡ true → EndsSo n answer.BorrowedSure (Some (value_of c))
sure_ends n choice.Null e = no_way e
sure_ends n (choice.Object k) e = record {
  number_of = 0;
  among = omega arith;
  is_outcome = (k, (le_is k n e, refl));
  success = refl;
  suited = λ m h. lt_true k m h;
  written = λ z. some_none z;
}
sure_ends n (choice.Int i) e = no_way e
sure_ends n choice.Text e = no_way e
sure_ends n (choice.Given i) e = no_way e
sure_ends n (choice.Failed i) e = no_way e

text_ends : (n : ℕ) (c : Choice) → (is_null c || is_text c) ≡ true → EndsSo n answer.Text (Some (value_of c))
text_ends n choice.Null e = record {
  number_of = 0;
  among = omega arith;
  is_outcome = refl;
  success = refl;
  suited = λ m h. refl;
  written = λ z. some_none z;
}
text_ends n (choice.Object k) e = no_way e
text_ends n (choice.Int i) e = no_way e
text_ends n choice.Text e = record {
  number_of = 1;
  among = omega arith;
  is_outcome = refl;
  success = refl;
  suited = λ m h. refl;
  written = λ z. some_none z;
}
text_ends n (choice.Given i) e = no_way e
text_ends n (choice.Failed i) e = no_way e

sure_text_ends : (n : ℕ) (c : Choice) → is_text c ≡ true → EndsSo n answer.TextSure (Some (value_of c))
sure_text_ends n choice.Null e = no_way e
sure_text_ends n (choice.Object k) e = no_way e
sure_text_ends n (choice.Int i) e = no_way e
sure_text_ends n choice.Text e = record {
  number_of = 0;
  among = omega arith;
  is_outcome = refl;
  success = refl;
  suited = λ m h. refl;
  written = λ z. some_none z;
}
sure_text_ends n (choice.Given i) e = no_way e
sure_text_ends n (choice.Failed i) e = no_way e

status_cases : (i : ℤ) → is_between (negsuc 0) (pos 0) i ≡ true → (i ≡ pos 0) ⊎ (i ≡ negsuc 0)
status_cases i h = grind (arith, ints)

truth_cases : (i : ℤ) → is_between (negsuc 0) (pos 1) i ≡ true → (i ≡ pos 1) ⊎ ((i ≡ pos 0) ⊎ (i ≡ negsuc 0))
truth_cases i h = grind (arith, ints)

found_cases : (i : ℤ) → is_between (pos 0) (pos 1) i ≡ true → (i ≡ pos 1) ⊎ (i ≡ pos 0)
found_cases i h = grind (arith, ints)

status_ends : (n : ℕ) (c : Choice) → is_number (negsuc 0) (pos 0) c ≡ true
    → EndsSo n answer.Status (Some (value_of c))
status_ends n choice.Null e = no_way e
status_ends n (choice.Object k) e = no_way e
status_ends n (choice.Int i) e = elim (status_cases i e) [
  | inl h ↦ subst (λ j. EndsSo n answer.Status (Some (value.Int j))) (sym h)
      (record {
        number_of = 0;
        among = omega arith;
        is_outcome = refl;
        success = refl;
        suited = λ m h. refl;
        written = λ z. some_none z;
      })
  | inr h ↦ subst (λ j. EndsSo n answer.Status (Some (value.Int j))) (sym h)
      (record {
        number_of = 1;
        among = omega arith;
        is_outcome = refl;
        success = refl;
        suited = λ m h. refl;
        written = λ z. some_none z;
      })
]
status_ends n choice.Text e = no_way e
status_ends n (choice.Given i) e = no_way e
status_ends n (choice.Failed i) e = no_way e

truth_ends : (n : ℕ) (c : Choice) → is_number (negsuc 0) (pos 1) c ≡ true → EndsSo n answer.Truth (Some (value_of c))
truth_ends n choice.Null e = no_way e
truth_ends n (choice.Object k) e = no_way e
truth_ends n (choice.Int i) e = elim (truth_cases i e) [
  | inl h ↦ subst (λ j. EndsSo n answer.Truth (Some (value.Int j))) (sym h)
      (record {
        number_of = 0;
        among = omega arith;
        is_outcome = refl;
        success = refl;
        suited = λ m h. refl;
        written = λ z. some_none z;
      })
  | inr r ↦ elim r [
    | inl h ↦ subst (λ j. EndsSo n answer.Truth (Some (value.Int j))) (sym h)
        (record {
          number_of = 1;
          among = omega arith;
          is_outcome = refl;
          success = refl;
          suited = λ m h. refl;
          written = λ z. some_none z;
        })
    | inr h ↦ subst (λ j. EndsSo n answer.Truth (Some (value.Int j))) (sym h)
        (record {
          number_of = 2;
          among = omega arith;
          is_outcome = refl;
          success = refl;
          suited = λ m h. refl;
          written = λ z. some_none z;
        })
  ]
]
truth_ends n choice.Text e = no_way e
truth_ends n (choice.Given i) e = no_way e
truth_ends n (choice.Failed i) e = no_way e

found_ends : (n : ℕ) (c : Choice) → is_number (pos 0) (pos 1) c ≡ true → EndsSo n answer.Found (Some (value_of c))
found_ends n choice.Null e = no_way e
found_ends n (choice.Object k) e = no_way e
found_ends n (choice.Int i) e = elim (found_cases i e) [
  | inl h ↦ subst (λ j. EndsSo n answer.Found (Some (value.Int j))) (sym h)
      (record {
        number_of = 0;
        among = omega arith;
        is_outcome = refl;
        success = refl;
        suited = λ m h. refl;
        written = λ z. some_none z;
      })
  | inr h ↦ subst (λ j. EndsSo n answer.Found (Some (value.Int j))) (sym h)
      (record {
        number_of = 1;
        among = omega arith;
        is_outcome = refl;
        success = refl;
        suited = λ m h. refl;
        written = λ z. some_none z;
      })
]
found_ends n choice.Text e = no_way e
found_ends n (choice.Given i) e = no_way e
found_ends n (choice.Failed i) e = no_way e

any_ends : (n : ℕ) (a : Answer) (i : ℤ) → outcomes_of_row a ≡ number ∷ []
    → ((v : Option Value) → is_success a v ≡ false) → is_integer (answer_param a) ≡ true
    → EndsSo n a (Some (value.Int i))
any_ends n a i o s kind = record {
  number_of = 0;
  among = subst (λ (l : List Outcome). 0 < length l) (sym o) (omega arith);
  is_outcome = subst (λ (l : List Outcome). IsOutcome n (get_or l 0 nothing) (Some (value.Int i))) (sym o) (i, refl);
  success = s (Some (value.Int i)) ∙ sym (s (outcome_value (get_or (outcomes_of_row a) 0 nothing)));
  suited = λ m h. kind;
  written = λ z. some_none z;
}

number_ends : (n : ℕ) (a : Answer) (low high : ℤ) (c : Choice) → outcomes_of_row a ≡ number ∷ []
    → ((v : Option Value) → is_success a v ≡ false) → is_integer (answer_param a) ≡ true → is_number low high c ≡ true
    → EndsSo n a (Some (value_of c))
number_ends n a low high choice.Null o s kind e = no_way e
number_ends n a low high (choice.Object k) o s kind e = no_way e
number_ends n a low high (choice.Int i) o s kind e = any_ends n a i o s kind
number_ends n a low high choice.Text o s kind e = no_way e
number_ends n a low high (choice.Given i) o s kind e = no_way e
number_ends n a low high (choice.Failed i) o s kind e = no_way e

conversion_ends : (n failures least most : ℕ) (c : Choice) → is_conversion failures least most c ≡ true
    → EndsSo n (answer.Converted failures least most) (Some (value_of c))
conversion_ends n failures least most choice.Null e = no_way e
conversion_ends n failures least most (choice.Object k) e = no_way e
conversion_ends n failures least most (choice.Int i) e = no_way e
conversion_ends n failures least most choice.Text e = no_way e
conversion_ends n failures least most (choice.Given k) e =
    any_ends n (answer.Converted failures least most) (pos k) refl (λ v. refl) refl
conversion_ends n failures least most (choice.Failed k) e =
    any_ends n (answer.Converted failures least most) (negsuc k) refl (λ v. refl) refl

accepted_ends : (n : ℕ) (a : Answer) (c : Choice) → is_accepted n a c ≡ true → EndsSo n a (Some (value_of c))
accepted_ends n answer.New c e = new_ends n c e
accepted_ends n answer.Borrowed c e = borrowed_ends n c e
accepted_ends n answer.BorrowedSure c e = sure_ends n c e
accepted_ends n answer.Status c e = status_ends n c e
accepted_ends n answer.Truth c e = truth_ends n c e
accepted_ends n answer.Size c e =
    number_ends n answer.Size (negsuc 0) (pos (2 ^ 63 - 1)) c refl (λ v. refl) refl e
accepted_ends n answer.Int c e =
    number_ends n answer.Int (negsuc (2 ^ 31 - 1)) (pos (2 ^ 31 - 1)) c refl (λ v. refl) refl e
accepted_ends n answer.Long c e =
    number_ends n answer.Long (negsuc (2 ^ 63 - 1)) (pos (2 ^ 63 - 1)) c refl (λ v. refl) refl e
accepted_ends n answer.Text c e = text_ends n c e
accepted_ends n answer.Void c e = no_way e
accepted_ends n answer.Null c e = no_way e
accepted_ends n answer.Found c e = found_ends n c e
accepted_ends n (answer.Converted failures least most) c e = conversion_ends n failures least most c e
accepted_ends n answer.AnySize c e =
    number_ends n answer.AnySize (negsuc (2 ^ 63 - 1)) (pos (2 ^ 63 - 1)) c refl (λ v. refl) refl e
accepted_ends n answer.Flag c e = number_ends n answer.Flag (pos 0) (pos 1) c refl (λ v. refl) refl e
accepted_ends n answer.TextSure c e = sure_text_ends n c e
accepted_ends n answer.Made c e = made_ends n c e

-- ---- rows

abbrev pub answers : Option Value → ℕ → Result (Option Value × ℕ) Halt
answers v u = Ok (v, u)

pub first_answer : (v w : Option Value) (t u : ℕ) → answers v t ≡ answers w u → v ≡ w
first_answer v w t u e =
    let p : Option Value × ℕ = (v, t) in
    let q : Option Value × ℕ = (w, u) in
    let same : p ≡ q = cc in
    ap (λ (r : Option Value × ℕ). r.0) same

abbrev by_choice : Result Value Halt → Result (Option Value × ℕ) Halt
by_choice r = r >>= λ x. Ok (Some x, 1)

chosen_by : (n : ℕ) (a : Answer) (c : Choice) (b : Bool) (v : Option Value) (u : ℕ) → is_accepted n a c ≡ b
    → by_choice (cond b (Ok (value_of c)) (Err NeedsChoice)) ≡ answers v u → EndsSo n a v
chosen_by n a c true v u e is =
    subst (λ x. EndsSo n a x) (first_answer (Some (value_of c)) v 1 u is) (accepted_ends n a c e)
chosen_by n a c false v u e is = absurd cc

chosen : (n : ℕ) (a : Answer) (choices : List Choice) (v : Option Value) (u : ℕ)
    → by_choice (choose n a choices) ≡ answers v u → EndsSo n a v
chosen n a [] v u is = absurd cc
chosen n a (c ∷ choices) v u is = chosen_by n a c (is_accepted n a c) v u refl is

pub row_ends : (n : ℕ) (a : Answer) (choices : List Choice) (v : Option Value) (u : ℕ)
    → answer_of n a choices ≡ answers v u → EndsSo n a v
row_ends n answer.Void choices v u is =
    subst (λ x. EndsSo n answer.Void x) (first_answer None v 0 u is)
    (record { number_of = 0; among = omega arith; is_outcome = refl; success = refl; suited = tt; written = λ z. refl })
row_ends n answer.Null choices v u is =
    subst (λ x. EndsSo n answer.Null x) (first_answer (Some value.Null) v 0 u is)
    (record {
      number_of = 0;
      among = omega arith;
      is_outcome = refl;
      success = refl;
      suited = λ m h. refl;
      written = λ z. some_none z;
    })
row_ends n answer.New choices v u is = chosen n answer.New choices v u is
row_ends n answer.Borrowed choices v u is = chosen n answer.Borrowed choices v u is
row_ends n answer.BorrowedSure choices v u is = chosen n answer.BorrowedSure choices v u is
row_ends n answer.Status choices v u is = chosen n answer.Status choices v u is
row_ends n answer.Truth choices v u is = chosen n answer.Truth choices v u is
row_ends n answer.Size choices v u is = chosen n answer.Size choices v u is
row_ends n answer.Int choices v u is = chosen n answer.Int choices v u is
row_ends n answer.Long choices v u is = chosen n answer.Long choices v u is
row_ends n answer.Text choices v u is = chosen n answer.Text choices v u is
row_ends n answer.Found choices v u is = chosen n answer.Found choices v u is
row_ends n (answer.Converted failures least most) choices v u is =
    chosen n (answer.Converted failures least most) choices v u is
row_ends n answer.AnySize choices v u is = chosen n answer.AnySize choices v u is
row_ends n answer.Flag choices v u is = chosen n answer.Flag choices v u is
row_ends n answer.TextSure choices v u is = chosen n answer.TextSure choices v u is
row_ends n answer.Made choices v u is = chosen n answer.Made choices v u is

-- a call that makes its object returns the next one
made_chosen : (n : ℕ) (c : Choice) (b : Bool) (v : Option Value) (u k : ℕ) → is_accepted n answer.Made c ≡ b
    → by_choice (cond b (Ok (value_of c)) (Err NeedsChoice)) ≡ answers v u → v ≡ Some (value.Object k) → k ≡ n
made_chosen n c false v u k e is f = absurd cc
made_chosen n c true v u k e is f = by c e (first_answer (Some (value_of c)) v 1 u is ∙ f)
  where
    by : (d : Choice) → is_accepted n answer.Made d ≡ true → Some (value_of d) ≡ Some (value.Object k) → k ≡ n
    by choice.Null e g = absurd cc
    by (choice.Object j) e g =
        let same : j ≡ k = cc in
        sym same ∙ eqb_is j n e
    by (choice.Int i) e g = no_way e
    by choice.Text e g = no_way e
    by (choice.Given i) e g = no_way e
    by (choice.Failed i) e g = no_way e

pub made_next : (n : ℕ) (choices : List Choice) (v : Option Value) (u k : ℕ)
    → answer_of n answer.Made choices ≡ answers v u → v ≡ Some (value.Object k) → k ≡ n
made_next n [] v u k is f = absurd cc
made_next n (c ∷ choices) v u k is f = made_chosen n c (is_accepted n answer.Made c) v u k refl is f
