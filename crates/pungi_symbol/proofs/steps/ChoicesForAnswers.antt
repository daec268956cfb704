-- Choices by which a run gives an answer: they are accepted.
use Rattle.std.proofs.Common.{◌≡◌, ℕ, zero, suc, ◌<◌, ◌≤◌, ℤ, pos, negsuc, List, [], ◌∷◌, length, Bool, true, false}
use Rattle.std.proofs.Common.{refl, ap, ◌∙◌, subst, arith, Some, cond, ◌+◌, ◌-◌, inl, inr, eq-eqb}
use Rattle.std.specs.Prelude.{slice_get}
use Rattle.pungi_base.specs.declared.choice.Choice.{Choice}
use Rattle.pungi_base.specs.declared.value.Value.{Value}
use Rattle.pungi_base.specs.declared.value.Value.TheVariants as value
use Rattle.pungi_world.specs.declared.content.Content.TheVariants as content
use Rattle.pungi_code.specs.WellFormed.{is_slot_kind}
use Rattle.pungi_symbol.specs.declared.states.mark.Mark.{Mark}
use Rattle.pungi_symbol.specs.declared.states.mark.Mark.TheVariants.{Pointer, TextPointer, IsNull, IsObject, IsText}
use Rattle.pungi_symbol.specs.declared.states.mark.Mark.TheVariants.{IsNumber, IsConverted, Integer}
use Rattle.pungi_symbol.specs.declared.questions.question.Question.{Question}
use Rattle.pungi_symbol.specs.declared.questions.question.Question.TheVariants.{Does, Touches, Overwrites}
use Rattle.pungi_symbol.specs.declared.questions.question.Question.TheVariants.{Null as AsksNull, Base, Answers, Same}
use Rattle.pungi_symbol.specs.declared.questions.question.Question.TheVariants.{Orders, Range, Computes, Unplain, Turn}
use Rattle.pungi_symbol.specs.declared.questions.question.Question.TheVariants.{Returns}
use Rattle.pungi_symbol.specs.declared.questions.question.Question.TheVariants.{Stops, Over}
use Rattle.pungi_symbol.specs.declared.states.integer_range.IntegerRange.{IntegerRange}
use Rattle.pungi_symbol.specs.declared.states.integer_range.IntegerRange.TheVariants as ranges
use Rattle.pungi_symbol.specs.states.Terms.{is_mark, low_of, high_of}
use Rattle.std.specs.Prelude.{◌||◌, ◌&&◌, not, nat_le, nat_lt, Result as Res, Ok, Err}
use Rattle.std.proofs.lemmas.Bool.Decides.{nat_tests, Decides-int_eq}
use Rattle.pungi_base.specs.declared.choice.Choice.TheVariants as choice
use Rattle.pungi_api.specs.declared.answer.Answer.{Answer}
use Rattle.pungi_api.specs.declared.answer.Answer.TheVariants as answer
use Rattle.pungi_api.specs.declared.param.Param.{Param}
use Rattle.pungi_api.specs.declared.param.Param.TheVariants as param
use Rattle.pungi_world.specs.declared.halt.Halt.{Halt}
use Rattle.pungi_world.specs.declared.halt.Halt.TheVariants as halt
use Rattle.pungi_world.specs.declared.world.World.{World}
use Rattle.pungi_world.specs.Choices.{value_of, is_null, is_text, is_number, is_object_choice, is_next, is_conversion}
use Rattle.pungi_world.specs.Choices.{is_accepted, choose}
use Rattle.pungi_world.specs.Slots.{is_made, is_old, is_content, find_content}
use Rattle.pungi_symbol.specs.states.Terms.{outcomes_of_answer, conversions, mark_at}
use Rattle.pungi_symbol.specs.questions.NextQuestion.{content_mark}
use Rattle.pungi_symbol.specs.runs.RunInState.{IsOf}
use Rattle.pungi_symbol.specs.runs.Paths.{choice_of, conversion_of}
use Rattle.pungi_symbol.proofs.questions.Firsts.{below_or}
use Rattle.pungi_symbol.proofs.answers.Conversions.{conversions_long, failed_at, converted_at}
use Rattle.pungi_symbol.proofs.steps.Worlds.{IsUnmade}

abbrev pub IsOutcome : List Mark → Value → Type 0
IsOutcome ms v = (k : ℕ) × (k < length ms) × (is_mark (mark_at ms k) v ≡ true)

-- the object of a value is the next one
abbrev pub IsNext : ℕ → Value → Type 0
IsNext n value.Null = Unit {0}
IsNext n (value.Object k) = k ≡ n
IsNext n (value.Int i) = Unit {0}
IsNext n value.Text = Unit {0}

-- a call with an answer returns an object that is there, or makes the next one
abbrev pub IsAnswered : Answer → ℕ → Value → Type 0
IsAnswered answer.Made n v = IsNext n v
IsAnswered a n v = IsOf n v

-- the object of the token that comes in with the answer to a question
abbrev pub IsComing : World → Question → Value → Type 0
IsComing w (Touches r) v = IsOf (length w.accounts) v × IsUnmade w v
IsComing w (Overwrites r) v = IsOf (length w.accounts) v × IsUnmade w v
IsComing w (Answers a) v = IsAnswered a (length w.accounts) v
IsComing w q v = Unit {0}

-- a choice by which a question is answered so
abbrev pub Suits : World → Question → Choice → Type 0
Suits w (Touches r) c =
    (is_mark r (value_of c) ≡ true) × (IsOf (length w.accounts) (value_of c) × IsUnmade w (value_of c))
    × (c ≡ choice_of r (value_of c))
Suits w (Overwrites r) c =
    (is_mark r (value_of c) ≡ true) × (IsOf (length w.accounts) (value_of c) × IsUnmade w (value_of c))
    × (c ≡ choice_of r (value_of c))
Suits w (Answers a) c =
    (o : IsOutcome (outcomes_of_answer a) (value_of c)) × IsAnswered a (length w.accounts) (value_of c)
    × (c ≡ choice_of (mark_at (outcomes_of_answer a) o.0) (value_of c))
Suits w q c = Unit {0}

-- the next choice isn't one that suits the question
abbrev pub Lacks : World → List Choice → ℕ → Question → Type 0
Lacks w choices n (Touches r) = (c : Choice) → slice_get choices n ≡ Some c → Suits w (Touches r) c → ⊥
Lacks w choices n (Overwrites r) = (c : Choice) → slice_get choices n ≡ Some c → Suits w (Overwrites r) c → ⊥
Lacks w choices n (Answers a) = (c : Choice) → slice_get choices n ≡ Some c → Suits w (Answers a) c → ⊥
Lacks w choices n q = ⊥

-- how many tokens come in with the answer to a question
abbrev pub comes : Question → ℕ
comes (Touches r) = 1
comes (Overwrites r) = 1
comes (Answers a) = 1
comes q = 0

pub not_lacking : (w : World) (choices : List Choice) (n : ℕ) (q : Question) → Lacks w choices n q
    → (comes q ≡ 1 → (c : Choice) × (slice_get choices n ≡ Some c) × Suits w q c) → ⊥
not_lacking w choices n (Touches r) h f = let c = f refl in h c.0 c.1 c.2
not_lacking w choices n (Overwrites r) h f = let c = f refl in h c.0 c.1 c.2
not_lacking w choices n (Answers a) h f = let c = f refl in h c.0 c.1 c.2
not_lacking w choices n (Does d) h f = h
not_lacking w choices n (AsksNull t) h f = h
not_lacking w choices n (Base t u j) h f = h
not_lacking w choices n (Same t u) h f = h
not_lacking w choices n (Orders a b) h f = h
not_lacking w choices n (Range kind a) h f = h
not_lacking w choices n (Computes kind o a b) h f = h
not_lacking w choices n Unplain h f = h
not_lacking w choices n Turn h f = h
not_lacking w choices n (Returns x) h f = h
not_lacking w choices n (Stops d) h f = h
not_lacking w choices n Over h f = h

le_true : (k n : ℕ) → k < n → nat_le k n ≡ true
le_true k n h = grind (arith, nat_tests)

or_true : (b : Bool) → (b || true) ≡ true
or_true true = refl
or_true false = refl

old_true : (w : World) (k : ℕ) → is_made w k ≡ false → k < length w.accounts → is_old w (choice.Object k) ≡ true
old_true w k u h = ap (λ b. b && not (is_made w k)) (le_true k (length w.accounts) h) ∙ ap not u

pointer_true : (w : World) (v : Value) → IsUnmade w v → is_mark Pointer v ≡ true → IsOf (length w.accounts) v
    → (is_null (choice_of Pointer v) || is_old w (choice_of Pointer v)) ≡ true
pointer_true w value.Null u m h = refl
pointer_true w (value.Object k) u m h = old_true w k u h
pointer_true w (value.Int n) u m h = absurd (let bad : false ≡ true = m in cc)
pointer_true w value.Text u m h = absurd (let bad : false ≡ true = m in cc)

text_true : (v : Value) → is_mark TextPointer v ≡ true
    → (is_null (choice_of TextPointer v) || is_text (choice_of TextPointer v)) ≡ true
text_true value.Null m = refl
text_true (value.Object k) m = absurd (let bad : false ≡ true = m in cc)
text_true (value.Int n) m = absurd (let bad : false ≡ true = m in cc)
text_true value.Text m = refl

pub integer_true : (r : IntegerRange) (v : Value) → is_mark (Integer r) v ≡ true
    → is_number (low_of r) (high_of r) (choice_of (Integer r) v) ≡ true
integer_true r value.Null m = absurd (let bad : false ≡ true = m in cc)
integer_true r (value.Object k) m = absurd (let bad : false ≡ true = m in cc)
integer_true r (value.Int n) m = m
integer_true r value.Text m = absurd (let bad : false ≡ true = m in cc)

content_true : (w : World) (kind : Param) (v : Value) → is_slot_kind kind ≡ true → IsUnmade w v
    → is_mark (content_mark kind) v ≡ true → IsOf (length w.accounts) v
    → is_content w kind (choice_of (content_mark kind) v) ≡ true
content_true w param.Object v p u m h = absurd (let bad : false ≡ true = p in cc)
content_true w param.ObjectOrNull v p u m h = pointer_true w v u m h
content_true w param.Text v p u m h = absurd (let bad : false ≡ true = p in cc)
content_true w param.TextOrNull v p u m h = text_true v m
content_true w param.Int v p u m h = integer_true ranges.Int v m
content_true w param.Long v p u m h = integer_true ranges.Long v m
content_true w param.Size v p u m h = integer_true ranges.Long v m
content_true w param.ModuleDef v p u m h = absurd (let bad : false ≡ true = p in cc)

no_error : {X : Type 0} (r : Res X Halt) (x : X) (h : Halt) → r ≡ Ok x → r ≡ Err h → ⊥
no_error r x h e f = cc

-- such a choice isn't missing
pub not_missing : (w : World) (kind : Param) (c : Choice) (rest : List Choice) → is_slot_kind kind ≡ true
    → (is_mark (content_mark kind) (value_of c) ≡ true)
    × (IsOf (length w.accounts) (value_of c) × IsUnmade w (value_of c))
    × (c ≡ choice_of (content_mark kind) (value_of c))
    → find_content w kind (c ∷ rest) ≡ Err halt.NeedsChoice → ⊥
not_missing w kind c rest p h e =
    let ok : is_content w kind c ≡ true = ap (is_content w kind) h.2
    ∙ content_true w kind (value_of c) p h.1.1 h.0 h.1.0 in
    no_error (find_content w kind (c ∷ rest)) (content.Holds (value_of c), 1) halt.NeedsChoice
    (ap (λ b. cond b (Ok (content.Holds (value_of c), 1)) (Err halt.NeedsChoice)) ok) e

-- ---- answers

no_way : {X : Type 0} → false ≡ true → X
no_way e = absurd (cc)

past : {X : Type 0} (k n : ℕ) → k < n → n ≤ k → X
past k n h g = absurd (omega (arith, h, g))

-- the choice by which a token has a value that is the outcome of this number
abbrev chosen : List Mark → ℕ → Value → Choice
chosen ms k v = choice_of (mark_at ms k) v

two_pointers : (n : ℕ) (v : Value) (o : IsOutcome (IsNull ∷ IsObject ∷ []) v) → IsOf n v
    → (is_null (chosen (IsNull ∷ IsObject ∷ []) o.0 v) || is_object_choice n (chosen (IsNull ∷ IsObject ∷ []) o.0 v)) ≡ true
two_pointers n value.Null o h = refl
two_pointers n (value.Object k) o h = le_true k n h
two_pointers n (value.Int i) (zero, lt, o) h = no_way o
two_pointers n (value.Int i) (suc zero, lt, o) h = no_way o
two_pointers n (value.Int i) (suc (suc k), lt, o) h = past (suc (suc k)) 2 lt (omega arith)
two_pointers n value.Text (zero, lt, o) h = no_way o
two_pointers n value.Text (suc zero, lt, o) h = no_way o
two_pointers n value.Text (suc (suc k), lt, o) h = past (suc (suc k)) 2 lt (omega arith)

next_pointer : (n : ℕ) (v : Value) (o : IsOutcome (IsNull ∷ IsObject ∷ []) v) → IsNext n v
    → (is_null (chosen (IsNull ∷ IsObject ∷ []) o.0 v) || is_next n (chosen (IsNull ∷ IsObject ∷ []) o.0 v)) ≡ true
next_pointer n value.Null o h = refl
next_pointer n (value.Object k) o h = eq-eqb k n h
next_pointer n (value.Int i) (zero, lt, o) h = no_way o
next_pointer n (value.Int i) (suc zero, lt, o) h = no_way o
next_pointer n (value.Int i) (suc (suc k), lt, o) h = past (suc (suc k)) 2 lt (omega arith)
next_pointer n value.Text (zero, lt, o) h = no_way o
next_pointer n value.Text (suc zero, lt, o) h = no_way o
next_pointer n value.Text (suc (suc k), lt, o) h = past (suc (suc k)) 2 lt (omega arith)

sure_pointer : (n : ℕ) (v : Value) (o : IsOutcome (IsObject ∷ []) v) → IsOf n v
    → is_object_choice n (chosen (IsObject ∷ []) o.0 v) ≡ true
sure_pointer n value.Null (zero, lt, o) h = no_way o
sure_pointer n value.Null (suc k, lt, o) h = past (suc k) 1 lt (omega arith)
sure_pointer n (value.Object k) o h = le_true k n h
sure_pointer n (value.Int i) (zero, lt, o) h = no_way o
sure_pointer n (value.Int i) (suc k, lt, o) h = past (suc k) 1 lt (omega arith)
sure_pointer n value.Text (zero, lt, o) h = no_way o
sure_pointer n value.Text (suc k, lt, o) h = past (suc k) 1 lt (omega arith)

two_texts : (v : Value) (o : IsOutcome (IsNull ∷ IsText ∷ []) v)
    → (is_null (chosen (IsNull ∷ IsText ∷ []) o.0 v) || is_text (chosen (IsNull ∷ IsText ∷ []) o.0 v)) ≡ true
two_texts value.Null o = refl
two_texts (value.Object k) (zero, lt, o) = no_way o
two_texts (value.Object k) (suc zero, lt, o) = no_way o
two_texts (value.Object k) (suc (suc n), lt, o) = past (suc (suc n)) 2 lt (omega arith)
two_texts (value.Int i) (zero, lt, o) = no_way o
two_texts (value.Int i) (suc zero, lt, o) = no_way o
two_texts (value.Int i) (suc (suc n), lt, o) = past (suc (suc n)) 2 lt (omega arith)
two_texts value.Text o = refl

is_value : (i : ℤ) (v : Value) → is_mark (IsNumber i) v ≡ true → v ≡ value.Int i
is_value i value.Null h = no_way h
is_value i (value.Object k) h = no_way h
is_value i (value.Int n) h = ap value.Int ((Decides-int_eq n i).0 h)
is_value i value.Text h = no_way h

-- one of several numbers
is_same_number : (n : ℕ) (a : Answer) (i : ℤ) (v : Value) → is_mark (IsNumber i) v ≡ true
    → is_accepted n a (choice.Int i) ≡ true → is_accepted n a (choice_of (IsNumber i) v) ≡ true
is_same_number n a i v o h = ap (λ z. is_accepted n a (choice_of (IsNumber i) z)) (is_value i v o) ∙ h

status_number : (n : ℕ) (v : Value) (o : IsOutcome (outcomes_of_answer answer.Status) v)
    → is_accepted n answer.Status (chosen (outcomes_of_answer answer.Status) o.0 v) ≡ true
status_number n v (zero, lt, o) = is_same_number n answer.Status (pos 0) v o refl
status_number n v (suc zero, lt, o) = is_same_number n answer.Status (negsuc 0) v o refl
status_number n v (suc (suc k), lt, o) = past (suc (suc k)) 2 lt (omega arith)

truth_number : (n : ℕ) (v : Value) (o : IsOutcome (outcomes_of_answer answer.Truth) v)
    → is_accepted n answer.Truth (chosen (outcomes_of_answer answer.Truth) o.0 v) ≡ true
truth_number n v (zero, lt, o) = is_same_number n answer.Truth (pos 1) v o refl
truth_number n v (suc zero, lt, o) = is_same_number n answer.Truth (pos 0) v o refl
truth_number n v (suc (suc zero), lt, o) = is_same_number n answer.Truth (negsuc 0) v o refl
truth_number n v (suc (suc (suc k)), lt, o) = past (suc (suc (suc k))) 3 lt (omega arith)

found_number : (n : ℕ) (v : Value) (o : IsOutcome (outcomes_of_answer answer.Found) v)
    → is_accepted n answer.Found (chosen (outcomes_of_answer answer.Found) o.0 v) ≡ true
found_number n v (zero, lt, o) = is_same_number n answer.Found (pos 1) v o refl
found_number n v (suc zero, lt, o) = is_same_number n answer.Found (pos 0) v o refl
found_number n v (suc (suc k), lt, o) = past (suc (suc k)) 2 lt (omega arith)

-- how an argument parser ends
is_ending : (i : ℤ) (v : Value) → is_mark (IsConverted i) v ≡ true → v ≡ value.Int i
is_ending i value.Null h = no_way h
is_ending i (value.Object k) h = no_way h
is_ending i (value.Int n) h = ap value.Int ((Decides-int_eq n i).0 h)
is_ending i value.Text h = no_way h

lt_true : (k n : ℕ) → k < n → nat_lt k n ≡ true
lt_true k n h = grind (arith, nat_tests)

both_true : (a b : ℕ) (c : ℕ) → a ≤ b → b ≤ c → (nat_le a b && nat_le b c) ≡ true
both_true a b c h g = grind (arith, nat_tests)

module _ (failures least most : ℕ) where
  ended_by : (m : Mark) (i : ℤ) (v : Value) → m ≡ IsConverted i → is_mark m v ≡ true
      → choice_of m v ≡ conversion_of i
  ended_by m i v e o = ap (λ r. choice_of r v) e
      ∙ ap (choice_of (IsConverted i)) (is_ending i v (subst (λ r. is_mark r v ≡ true) e o))

  conversion_true : (v : Value) (o : IsOutcome (conversions failures least most) v)
      → is_conversion failures least most (chosen (conversions failures least most) o.0 v) ≡ true
  conversion_true v (k, lt, o) =
      let long = conversions_long failures least most in
      let m = mark_at (conversions failures least most) k in
      elim (below_or k failures) [
        | inl few ↦ ap (is_conversion failures least most)
            (ended_by m (negsuc k) v (failed_at failures least most k few) o) ∙ lt_true k failures few
        | inr many ↦
            let units = least + (k - failures) in
            let le : units ≤ most = omega (arith, lt, long, many) in
            ap (is_conversion failures least most)
            (ended_by m (pos units) v (converted_at failures least most k units many refl le) o)
            ∙ both_true least units most (omega arith) le
      ]

one_integer : (r : IntegerRange) (v : Value) (o : IsOutcome (Integer r ∷ []) v)
    → is_number (low_of r) (high_of r) (chosen (Integer r ∷ []) o.0 v) ≡ true
one_integer r v (zero, lt, o) = integer_true r v o
one_integer r v (suc k, lt, o) = past (suc k) 1 lt (omega arith)

one_text : (v : Value) (o : IsOutcome (IsText ∷ []) v) → is_text (chosen (IsText ∷ []) o.0 v) ≡ true
one_text value.Null (zero, lt, o) = no_way o
one_text (value.Object k) (zero, lt, o) = no_way o
one_text (value.Int i) (zero, lt, o) = no_way o
one_text value.Text (zero, lt, o) = refl
one_text v (suc k, lt, o) = past (suc k) 1 lt (omega arith)

accepted_true : (n : ℕ) (a : Answer) (v : Value) (o : IsOutcome (outcomes_of_answer a) v) → IsAnswered a n v
    → is_accepted n a (chosen (outcomes_of_answer a) o.0 v) ≡ true
accepted_true n answer.New v o h = two_pointers n v o h
accepted_true n answer.Borrowed v o h = two_pointers n v o h
accepted_true n answer.BorrowedSure v o h = sure_pointer n v o h
accepted_true n answer.Status v o h = status_number n v o
accepted_true n answer.Truth v o h = truth_number n v o
accepted_true n answer.Text v o h = two_texts v o
accepted_true n answer.Size v o h = one_integer ranges.SizeOrError v o
accepted_true n answer.Int v o h = one_integer ranges.Int v o
accepted_true n answer.Long v o h = one_integer ranges.Long v o
accepted_true n answer.Void v o h = past o.0 0 o.1 (omega arith)
accepted_true n answer.Null v o h = past o.0 0 o.1 (omega arith)
accepted_true n answer.Found v o h = found_number n v o
accepted_true n (answer.Converted failures least most) v o h = conversion_true failures least most v o
accepted_true n answer.AnySize v o h = one_integer ranges.Long v o
accepted_true n answer.Flag v o h = one_integer ranges.Flag v o
accepted_true n answer.TextSure v o h = one_text v o
accepted_true n answer.Made v o h = next_pointer n v o h

pub not_refused : (w : World) (a : Answer) (c : Choice) (rest : List Choice)
    → (o : IsOutcome (outcomes_of_answer a) (value_of c)) × IsAnswered a (length w.accounts) (value_of c)
    × (c ≡ choice_of (mark_at (outcomes_of_answer a) o.0) (value_of c))
    → choose (length w.accounts) a (c ∷ rest) ≡ Err halt.NeedsChoice → ⊥
not_refused w a c rest h e =
    let ok : is_accepted (length w.accounts) a c ≡ true = ap (is_accepted (length w.accounts) a) h.2
    ∙ accepted_true (length w.accounts) a (value_of c) h.0 h.1 in
    no_error (choose (length w.accounts) a (c ∷ rest)) (value_of c) halt.NeedsChoice
    (ap (λ b. cond b (Ok (value_of c)) (Err halt.NeedsChoice)) ok) e
