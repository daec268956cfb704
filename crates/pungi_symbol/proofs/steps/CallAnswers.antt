-- What a call of the API takes and returns, as a run and as a state have it.
use Rattle.std.proofs.Common.{◌≡◌, ℕ, ◌+◌, ◌≤◌, ℤ, pos, ◌+ℤ◌, List, [], ◌∷◌, length, map, Bool, true}
use Rattle.std.proofs.Common.{false, refl, sym, ap, ◌∙◌, subst, arith, Option, None, Some}
use Rattle.std.specs.Prelude.{◌<◌, ◌||◌, slice_set, Ok}
use Rattle.std.proofs.lemmas.List.{map-set}
use Rattle.pungi_base.specs.declared.choice.Choice.{Choice}
use Rattle.pungi_base.specs.declared.value.Value.{Value}
use Rattle.pungi_base.specs.declared.value.Value.TheVariants as value
use Rattle.pungi_world.specs.declared.content.Content.TheVariants as content
use Rattle.pungi_code.specs.declared.atom.Var.{Var}
use Rattle.pungi_code.specs.declared.code.Line.{Line}
use Rattle.pungi_code.specs.Registers.{Regs, put}
use Rattle.pungi_symbol.specs.declared.states.mark.Mark.{Mark}
use Rattle.pungi_symbol.specs.declared.states.mark.Mark.TheVariants.{Pointer, TextPointer, IsNull, IsObject, IsText}
use Rattle.pungi_symbol.specs.declared.states.mark.Mark.TheVariants.{IsNumber, IsConverted, Integer}
use Rattle.pungi_symbol.specs.declared.states.term.Term.{Term}
use Rattle.pungi_symbol.specs.declared.states.term.Term.TheVariants.{Unset, Null, Text, Number, Token, Sum}
use Rattle.pungi_symbol.specs.declared.states.spot.Progress.TheVariants.{Looking}
use Rattle.pungi_symbol.specs.declared.states.state.State.{State}
use Rattle.pungi_symbol.specs.states.Terms.{Table, at, content_of, is_mark}
use Rattle.pungi_symbol.specs.states.Turns.{stepped}
use Rattle.pungi_symbol.specs.runs.Fits.{IsBelow}
use Rattle.std.proofs.lemmas.Int.{ints}
use Rattle.pungi_api.specs.declared.answer.Answer.{Answer}
use Rattle.pungi_api.specs.declared.answer.Answer.TheVariants as answer
use Rattle.pungi_api.specs.declared.call_answer.CallAnswer.{CallAnswer}
use Rattle.pungi_api.specs.declared.call_answer.CallAnswer.TheVariants.{Of, Argument}
use Rattle.pungi_api.specs.declared.own_effect.OwnEffect.{OwnEffect}
use Rattle.pungi_world.specs.declared.world.World.{World}
use Rattle.pungi_world.specs.Calls.{with_new_reference as world_answered, first_of, call_answer}
use Rattle.pungi_world.specs.Counts.{count_value, with_value}
use Rattle.pungi_world.specs.World.{account_of}
use Rattle.pungi_symbol.specs.declared.answers.decision.Decision.TheVariants.{Quiet}
use Rattle.pungi_symbol.specs.declared.questions.question.Question.TheVariants.{Does}
use Rattle.pungi_symbol.specs.questions.NextQuestion.{first_term, asks_call_answer}
use Rattle.pungi_symbol.specs.answers.KnownAfter.{term_with, answer_of_call, made_by}
use Rattle.pungi_symbol.specs.answers.SymbolicState.{is_among, owed_for_answer}
use Rattle.pungi_symbol.specs.runs.Fits.{is_the}
use Rattle.pungi_api.specs.Signatures.{has_outcomes}
use Rattle.pungi_symbol.specs.runs.RunInState.{owed, is_this_made, IsOf, Lies}
use Rattle.std.proofs.lemmas.Bool.Decides.{Decides-int_eq}
use Rattle.pungi_symbol.proofs.steps.Worlds.{IsNear}
use Rattle.pungi_symbol.proofs.states.Contents.{is_open, term_value, holds_term}
use Rattle.pungi_symbol.proofs.states.NamedObjects.{part}
use Rattle.pungi_symbol.proofs.steps.Worlds.{counted_owed, counted_keeps, value_owed, value_slots, value_more}
use Rattle.pungi_symbol.proofs.steps.Worlds.{value_there, value_made, of_more, marked_owed, marked_accounts}
use Rattle.pungi_symbol.proofs.steps.Worlds.{marked_slots}
use Rattle.pungi_symbol.proofs.steps.Worlds.{marked_is}
use Rattle.pungi_symbol.proofs.steps.ChoicesForAnswers.{IsNext}
use Rattle.pungi_symbol.proofs.steps.AnswersOfChoices.{IsMadeNext}
use Rattle.pungi_symbol.proofs.answers.Made.{among_one}
use Rattle.pungi_symbol.proofs.steps.RunInState.{walked_anew}
use Rattle.pungi_symbol.proofs.steps.Dropped.{one_part}
use Rattle.pungi_symbol.proofs.steps.Rows.{AllSet, AllBelow, AreOf}

or_false : (b : Bool) → (b || false) ≡ b
or_false true = refl
or_false false = refl

-- an answer of a run, as a state has it
abbrev pub AnswerIs : Table → Option Value → Option Term → Type 0
AnswerIs table None None = Unit {0}
AnswerIs table None (Some c) = ⊥
AnswerIs table (Some v) None = ⊥
AnswerIs table (Some v) (Some c) = content_of table c ≡ content.Holds v

pub first_is : (table : Table) (xs : List Term)
    → first_of (map (term_value table) xs) ≡ term_value table (first_term xs)
first_is table [] = refl
first_is table (x ∷ xs) = refl

pub first_set : (xs : List Term) → AllSet xs → first_term xs ≡ Unset → ⊥
first_set [] h e = cc
first_set (x ∷ xs) h e = h.0 e

pub first_below : (n : ℕ) (xs : List Term) → AllBelow n xs → IsBelow n (first_term xs)
first_below n [] h = tt
first_below n (x ∷ xs) h = h.0

-- an answer of a call that no choice decides
pub record Sure (table : Table) (n : ℕ) (xs : List Term) (a : CallAnswer) : Type 0 where
  pub answer : Option Value
  pub agrees : AnswerIs table answer (answer_of_call a (first_term xs))
  pub returned : (cs : List Choice) → call_answer n a (map (term_value table) xs) cs ≡ Ok (answer, 0)
  pub quiet : asks_call_answer a ≡ Does Quiet

pub first_holds : (table : Table) (xs : List Term) → AllSet xs
    → content_of table (first_term xs) ≡ content.Holds (first_of (map (term_value table) xs))
first_holds table xs s = holds_term table (first_term xs) (first_set xs s) ∙ ap content.Holds (sym (first_is table xs))

unsure : {X : Type 0} → false ≡ true → X
unsure h = absurd (cc)

pub sure_is : (table : Table) (n : ℕ) (xs : List Term) → AllSet xs → (o : OwnEffect) (a : CallAnswer)
    → has_outcomes (Some o) a ≡ true → Sure table n xs a
sure_is table n xs s o (Of answer.Void) h =
    record { answer = None; agrees = tt; returned = λ cs. refl; quiet = refl }
sure_is table n xs s o (Of answer.Null) h =
    record { answer = Some value.Null; agrees = refl; returned = λ cs. refl; quiet = refl }
sure_is table n xs s o Argument h =
    record {
      answer = Some (first_of (map (term_value table) xs));
      agrees = first_holds table xs s;
      returned = λ cs. refl;
      quiet = refl;
    }
sure_is table n xs s o (Of answer.New) h = unsure h
sure_is table n xs s o (Of answer.Borrowed) h = unsure h
sure_is table n xs s o (Of answer.BorrowedSure) h = unsure h
sure_is table n xs s o (Of answer.Status) h = unsure h
sure_is table n xs s o (Of answer.Truth) h = unsure h
sure_is table n xs s o (Of answer.Size) h = unsure h
sure_is table n xs s o (Of answer.Int) h = unsure h
sure_is table n xs s o (Of answer.Long) h = unsure h
sure_is table n xs s o (Of answer.Text) h = unsure h
sure_is table n xs s o (Of answer.Found) h = unsure h
sure_is table n xs s o (Of (answer.Converted failures least most)) h = unsure h
sure_is table n xs s o (Of answer.AnySize) h = unsure h
sure_is table n xs s o (Of answer.Flag) h = unsure h
sure_is table n xs s o (Of answer.TextSure) h = unsure h
sure_is table n xs s o (Of answer.Made) h = unsure h

-- the term of an answer
pub term_with_is : (table : Table) (r : Mark) (t : ℕ) → is_mark r (at table t) ≡ true → is_open r ≡ false
    → content_of table (term_with r t) ≡ content.Holds (at table t)
term_with_is table Pointer t h o = refl
term_with_is table TextPointer t h o = refl
term_with_is table IsNull t h o = by (at table t) h
  where
    by : (v : Value) → is_mark IsNull v ≡ true → content.Holds value.Null ≡ content.Holds v
    by value.Null z = refl
    by (value.Object k) z = absurd (let bad : false ≡ true = z in cc)
    by (value.Int n) z = absurd (let bad : false ≡ true = z in cc)
    by value.Text z = absurd (let bad : false ≡ true = z in cc)
term_with_is table IsObject t h o = refl
term_with_is table IsText t h o = by (at table t) h
  where
    by : (v : Value) → is_mark IsText v ≡ true → content.Holds value.Text ≡ content.Holds v
    by value.Null z = absurd (let bad : false ≡ true = z in cc)
    by (value.Object k) z = absurd (let bad : false ≡ true = z in cc)
    by (value.Int n) z = absurd (let bad : false ≡ true = z in cc)
    by value.Text z = refl
term_with_is table (IsNumber i) t h o = by (at table t) h
  where
    by : (v : Value) → is_mark (IsNumber i) v ≡ true → content.Holds (value.Int i) ≡ content.Holds v
    by value.Null z = absurd (let bad : false ≡ true = z in cc)
    by (value.Object k) z = absurd (let bad : false ≡ true = z in cc)
    by (value.Int n) z = ap (λ y. content.Holds (value.Int y)) (sym ((Decides-int_eq n i).0 z))
    by value.Text z = absurd (let bad : false ≡ true = z in cc)
term_with_is table (IsConverted i) t h o = by (at table t) h
  where
    by : (v : Value) → is_mark (IsConverted i) v ≡ true → content.Holds (value.Int i) ≡ content.Holds v
    by value.Null z = absurd (let bad : false ≡ true = z in cc)
    by (value.Object k) z = absurd (let bad : false ≡ true = z in cc)
    by (value.Int n) z = ap (λ y. content.Holds (value.Int y)) (sym ((Decides-int_eq n i).0 z))
    by value.Text z = absurd (let bad : false ≡ true = z in cc)
term_with_is table (Integer r) t h o = refl

-- the world after an answer
part_none : (b : Bool) → part b (pos 0) ≡ pos 0
part_none true = refl
part_none false = refl

-- an object is marked as made where the call makes it
made_is : (table : Table) (n o : ℕ) (r : Mark) (v : Value) → at table n ≡ v → is_mark r v ≡ true → is_open r ≡ false
    → is_this_made table (made_by answer.Made r n) o ≡ is_the o v
made_is table n o Pointer v e h c = absurd (let bad : true ≡ false = c in cc)
made_is table n o TextPointer v e h c = absurd (let bad : true ≡ false = c in cc)
made_is table n o IsNull value.Null e h c = refl
made_is table n o IsNull (value.Object k) e h c = absurd (let bad : false ≡ true = h in cc)
made_is table n o IsNull (value.Int i) e h c = refl
made_is table n o IsNull value.Text e h c = refl
made_is table n o IsObject v e h c = or_false (is_the o (at table n)) ∙ ap (is_the o) e
made_is table n o IsText value.Null e h c = refl
made_is table n o IsText (value.Object k) e h c = absurd (let bad : false ≡ true = h in cc)
made_is table n o IsText (value.Int i) e h c = refl
made_is table n o IsText value.Text e h c = refl
made_is table n o (IsNumber i) value.Null e h c = refl
made_is table n o (IsNumber i) (value.Object k) e h c = absurd (let bad : false ≡ true = h in cc)
made_is table n o (IsNumber i) (value.Int j) e h c = refl
made_is table n o (IsNumber i) value.Text e h c = refl
made_is table n o (IsConverted i) value.Null e h c = refl
made_is table n o (IsConverted i) (value.Object k) e h c = absurd (let bad : false ≡ true = h in cc)
made_is table n o (IsConverted i) (value.Int j) e h c = refl
made_is table n o (IsConverted i) value.Text e h c = refl
made_is table n o (Integer i) value.Null e h c = refl
made_is table n o (Integer i) (value.Object k) e h c = absurd (let bad : false ≡ true = h in cc)
made_is table n o (Integer i) (value.Int j) e h c = refl
made_is table n o (Integer i) value.Text e h c = refl

pub record AnswerWorld (table : Table) (n : ℕ) (w : World) (a : Answer) (v : Value) (r : Mark) : Type 0 where
  pub owes : (o : ℕ) → owed (world_answered a w (Some v)) o ≡ owed w o +ℤ part (is_the o v) (owed_for_answer a r)
  pub slots : (world_answered a w (Some v)).slots ≡ w.slots
  pub more : length w.accounts ≤ length (world_answered a w (Some v)).accounts
  pub there : IsOf (length (world_answered a w (Some v)).accounts) v
  pub made : (o : ℕ) → (account_of (world_answered a w (Some v)) o).made
      ≡ ((account_of w o).made || is_this_made table (made_by a r n) o)

plain_world : (table : Table) (n : ℕ) (w : World) (a : Answer) (v : Value) (r : Mark) → IsNear w v
    → world_answered a w (Some v) ≡ with_value w v → owed_for_answer a r ≡ pos 0 → made_by a r n ≡ []
    → AnswerWorld table n w a v r
plain_world table n w a v r near e z none = record {
  owes = λ o. ap (λ y. owed y o) e ∙ value_owed w v o
      ∙ (let b = ap (part (is_the o v)) z ∙ part_none (is_the o v) in omega (arith, ints, b));
  slots = ap (λ y. y.slots) e ∙ value_slots w v;
  more = subst (λ y. length w.accounts ≤ length y.accounts) (sym e) (value_more w v);
  there = subst (λ y. IsOf (length y.accounts) v) (sym e) (value_there w v near);
  made = λ o. ap (λ y. (account_of y o).made) e ∙ value_made w v o
      ∙ sym (ap (λ ts. (account_of w o).made || is_this_made table ts o) none ∙ or_false (account_of w o).made);
}

pub answer_world : (table : Table) (n : ℕ) (w : World) (a : Answer) (v : Value) (r : Mark) → IsNear w v
    → is_mark r v ≡ true → is_open r ≡ false → at table n ≡ v → AnswerWorld table n w a v r
answer_world table n w answer.New v r near m o e =
    let w1 = with_value w v in
    let of = value_there w v near in
    let kept = counted_keeps w1 v (pos 1) in
    let more = value_more w v in
    let ka = kept.accounts in
    record {
      owes = λ z. counted_owed w1 v (pos 1) z of ∙ (let a = value_owed w v z in let b = one_part z r v m o in omega
          (arith, ints, a, b));
      slots = kept.slots ∙ value_slots w v;
      more = omega (arith, more, ka);
      there = subst (λ n. IsOf n v) (sym ka) of;
      made = λ z. kept.made z ∙ value_made w v z ∙ sym (or_false (account_of w z).made);
    }
answer_world table n w answer.Borrowed v r near m o e = plain_world table n w answer.Borrowed v r near refl refl refl
answer_world table n w answer.BorrowedSure v r near m o e =
    plain_world table n w answer.BorrowedSure v r near refl refl refl
answer_world table n w answer.Status v r near m o e = plain_world table n w answer.Status v r near refl refl refl
answer_world table n w answer.Truth v r near m o e = plain_world table n w answer.Truth v r near refl refl refl
answer_world table n w answer.Size v r near m o e = plain_world table n w answer.Size v r near refl refl refl
answer_world table n w answer.Int v r near m o e = plain_world table n w answer.Int v r near refl refl refl
answer_world table n w answer.Long v r near m o e = plain_world table n w answer.Long v r near refl refl refl
answer_world table n w answer.Text v r near m o e = plain_world table n w answer.Text v r near refl refl refl
answer_world table n w answer.Void v r near m o e = plain_world table n w answer.Void v r near refl refl refl
answer_world table n w answer.Null v r near m o e = plain_world table n w answer.Null v r near refl refl refl
answer_world table n w answer.Found v r near m o e = plain_world table n w answer.Found v r near refl refl refl
answer_world table n w (answer.Converted failures least most) v r near m o e =
    plain_world table n w (answer.Converted failures least most) v r near refl refl refl
answer_world table n w answer.AnySize v r near m o e = plain_world table n w answer.AnySize v r near refl refl refl
answer_world table n w answer.Flag v r near m o e = plain_world table n w answer.Flag v r near refl refl refl
answer_world table n w answer.TextSure v r near m o e = plain_world table n w answer.TextSure v r near refl refl refl
answer_world table n w answer.Made v r near m o e =
    let w1 = with_value w v in
    let of = value_there w v near in
    let kept = counted_keeps w1 v (pos 1) in
    let w2 = count_value w1 v (pos 1) in
    let more = value_more w v in
    let ka = kept.accounts in
    let km = marked_accounts w2 v in
    let there : IsOf (length w2.accounts) v = subst (λ n. IsOf n v) (sym ka) of in
    record {
      owes = λ z. marked_owed w2 v z there ∙ counted_owed w1 v (pos 1) z of
          ∙ (let a = value_owed w v z in let b = one_part z r v m o in omega (arith, ints, a, b));
      slots = marked_slots w2 v ∙ kept.slots ∙ value_slots w v;
      more = omega (arith, more, ka, km);
      there = subst (λ n. IsOf n v) (sym km) there;
      made = λ z. marked_is w2 v z there ∙ ap (λ b. b || is_the z v) (kept.made z ∙ value_made w v z)
          ∙ ap (λ b. (account_of w z).made || b) (sym (made_is table n z r v e m o));
    }

-- the object that a call makes is none that is there
none_made : {X : Type 0} (m : ℕ) → is_among [] m ≡ true → X
none_made m e = absurd (let bad : false ≡ true = e in cc)

abbrev IsLater : ℕ → ℕ → ℕ → Value → Type 0
IsLater len n m v = (m ≡ n) × ((x : Value) → IsOf len x → x ≡ v → ⊥)

next_later : (len n : ℕ) (r : Mark) (v : Value) → IsNext len v → is_mark r v ≡ true → (m : ℕ)
    → is_among (made_by answer.Made r n) m ≡ true → IsLater len n m v
next_later len n Pointer v h k m a = none_made m a
next_later len n TextPointer v h k m a = none_made m a
next_later len n IsNull v h k m a = none_made m a
next_later len n IsText v h k m a = none_made m a
next_later len n (IsNumber i) v h k m a = none_made m a
next_later len n (IsConverted i) v h k m a = none_made m a
next_later len n (Integer i) v h k m a = none_made m a
next_later len n IsObject value.Null h k m a = absurd (let bad : false ≡ true = k in cc)
next_later len n IsObject (value.Object j) h k m a =
    (sym (among_one n m a), λ x of e. let lt = subst (IsOf len) e of in absurd (omega (arith, lt, h)))
next_later len n IsObject (value.Int i) h k m a = absurd (let bad : false ≡ true = k in cc)
next_later len n IsObject value.Text h k m a = absurd (let bad : false ≡ true = k in cc)

pub made_later : (len n : ℕ) (a : Answer) (r : Mark) (v : Value) → IsMadeNext a len v → is_mark r v ≡ true → (m : ℕ)
    → is_among (made_by a r n) m ≡ true → IsLater len n m v
made_later len n answer.New r v h k m a = none_made m a
made_later len n answer.Borrowed r v h k m a = none_made m a
made_later len n answer.BorrowedSure r v h k m a = none_made m a
made_later len n answer.Status r v h k m a = none_made m a
made_later len n answer.Truth r v h k m a = none_made m a
made_later len n answer.Size r v h k m a = none_made m a
made_later len n answer.Int r v h k m a = none_made m a
made_later len n answer.Long r v h k m a = none_made m a
made_later len n answer.Text r v h k m a = none_made m a
made_later len n answer.Void r v h k m a = none_made m a
made_later len n answer.Null r v h k m a = none_made m a
made_later len n answer.Found r v h k m a = none_made m a
made_later len n (answer.Converted failures least most) r v h k m a = none_made m a
made_later len n answer.AnySize r v h k m a = none_made m a
made_later len n answer.Flag r v h k m a = none_made m a
made_later len n answer.TextSure r v h k m a = none_made m a
made_later len n answer.Made r v h k m a = next_later len n r v h k m a

-- the values of the arguments
module _ (table : Table) (n c : ℕ) (there : (t : ℕ) → t < c → IsOf n (at table t)) where
  pub of_term : (y : Term) → IsBelow c y → IsOf n (term_value table y)
  of_term Unset b = tt
  of_term Null b = tt
  of_term Text b = tt
  of_term (Number i) b = tt
  of_term (Token t) b = there t b
  of_term (Sum s) b = tt

  pub of_terms : (k : ℕ) → n ≤ k → (xs : List Term) → AllBelow c xs → AreOf k table xs
  of_terms k le [] b = tt
  of_terms k le (y ∷ xs) b = (of_more n k (term_value table y) le (of_term y b.0), of_terms k le xs b.1)

module _ (code : List Line) (table : Table) (base : ℕ) (s : State) where
  -- the next instruction comes after a call
  pub after_put : (m1 : Regs) (bs : List ℤ) (x : Var) (c : Term) (v : Value) → content_of table c ≡ content.Holds v
      → Lies code table base m1 (record s { balances = bs })
      → Lies code table base (put x (content.Holds v) m1) (record s {
        balances = bs;
        known = record s.known {
          pc = s.known.pc + 1;
          vars = slice_set s.known.vars x.0 c;
          progress = Looking 0;
          turns = stepped s.known.turns;
        };
      })
  after_put m1 bs x c v e h = record {
    fits = record { notes = h.fits.notes; limits = h.fits.limits; new = h.fits.new };
    vars = ap (λ vs. slice_set vs x.0 (content.Holds v)) h.vars
        ∙ ap (slice_set (map (content_of table) s.known.vars) x.0) (sym e)
        ∙ sym (map-set (content_of table) s.known.vars x.0 c);
    slots = h.slots;
    used = h.used;
    claims = h.claims;
    below = h.below;
    made = h.made;
    walked = walked_anew table _ m1.world.slots _;
  }

  pub after_none : (m1 : Regs) (bs : List ℤ) → Lies code table base m1 (record s { balances = bs })
      → Lies code table base m1 (record s {
        balances = bs;
        known = record s.known
            { pc = s.known.pc + 1; progress = Looking 0; turns = stepped s.known.turns };
      })
  after_none m1 bs h = record {
    fits = record { notes = h.fits.notes; limits = h.fits.limits; new = h.fits.new };
    vars = h.vars;
    slots = h.slots;
    used = h.used;
    claims = h.claims;
    below = h.below;
    made = h.made;
    walked = walked_anew table _ m1.world.slots _;
  }
