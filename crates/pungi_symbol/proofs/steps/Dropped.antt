-- What a slot held that a store writes, and the balance of a token that comes in.
use Rattle.std.proofs.Common.{◌≡◌, ℕ, pos, Bool, true}
use Rattle.std.proofs.Common.{false, refl, ap}
use Rattle.pungi_base.specs.declared.value.Value.{Value}
use Rattle.pungi_base.specs.declared.value.Value.TheVariants as value
use Rattle.pungi_symbol.specs.declared.answers.decision.Decision.TheVariants.{Quiet}
use Rattle.pungi_symbol.specs.declared.states.known.Known.{Known}
use Rattle.pungi_symbol.specs.declared.states.mark.Mark.{Mark}
use Rattle.pungi_symbol.specs.declared.states.mark.Mark.TheVariants.{Pointer, TextPointer, IsNull, IsObject, IsText}
use Rattle.pungi_symbol.specs.declared.states.mark.Mark.TheVariants.{IsNumber, IsConverted, Integer}
use Rattle.pungi_symbol.specs.declared.questions.question.Question.TheVariants.{Does, Null as AsksNull}
use Rattle.pungi_symbol.specs.declared.states.term.Term.{Term}
use Rattle.pungi_symbol.specs.declared.states.term.Term.TheVariants.{Unset, Null, Text, Number, Token, Sum}
use Rattle.pungi_symbol.specs.states.Terms.{is_mark}
use Rattle.pungi_api.specs.declared.param.Param.{Param}
use Rattle.pungi_api.specs.declared.param.Param.TheVariants as param
use Rattle.pungi_symbol.specs.states.Known.{mark_of}
use Rattle.pungi_symbol.specs.questions.NextQuestion.{asks_dropped, knows_mark, content_mark}
use Rattle.pungi_symbol.specs.answers.SymbolicState.{owed_for}
use Rattle.pungi_symbol.specs.runs.Fits.{is_the}
use Rattle.pungi_symbol.proofs.states.Contents.{IsKnown, is_open}
use Rattle.pungi_symbol.proofs.states.Contents.{has_answers}
use Rattle.pungi_symbol.proofs.states.NamedObjects.{part}

-- what a slot held is known or was never set
pub data Dropping (k : Known) (x : Term) : Type 0 where
  drop_asks : (t : ℕ) → asks_dropped k x ≡ AsksNull t → is_open (mark_of k t) ≡ true → Dropping k x
  drop_known : asks_dropped k x ≡ Does Quiet → IsKnown k x → Dropping k x
  drop_unset : asks_dropped k x ≡ Does Quiet → x ≡ Unset → Dropping k x

dropping_by : (k : Known) (t : ℕ) (b : Bool) (r : Mark) → mark_of k t ≡ r → is_open r ≡ b → Dropping k (Token t)
dropping_by k t b Pointer e f = drop_asks t (ap (λ z. knows_mark z t (Does Quiet)) e) (ap is_open e)
dropping_by k t b TextPointer e f = drop_asks t (ap (λ z. knows_mark z t (Does Quiet)) e) (ap is_open e)
dropping_by k t b IsNull e f = drop_known (ap (λ z. knows_mark z t (Does Quiet)) e) (ap is_open e)
dropping_by k t b IsObject e f = drop_known (ap (λ z. knows_mark z t (Does Quiet)) e) (ap is_open e)
dropping_by k t b IsText e f = drop_known (ap (λ z. knows_mark z t (Does Quiet)) e) (ap is_open e)
dropping_by k t b (IsNumber n) e f = drop_known (ap (λ z. knows_mark z t (Does Quiet)) e) (ap is_open e)
dropping_by k t b (IsConverted n) e f = drop_known (ap (λ z. knows_mark z t (Does Quiet)) e) (ap is_open e)
dropping_by k t b (Integer r) e f = drop_known (ap (λ z. knows_mark z t (Does Quiet)) e) (ap is_open e)

pub dropping_is : (k : Known) (x : Term) → Dropping k x
dropping_is k Unset = drop_unset refl refl
dropping_is k Null = drop_known refl tt
dropping_is k Text = drop_known refl tt
dropping_is k (Number n) = drop_known refl tt
dropping_is k (Token t) = dropping_by k t (is_open (mark_of k t)) (mark_of k t) refl refl
dropping_is k (Sum s) = drop_known refl tt

-- the balance of a token that comes in
pub one_part : (o : ℕ) (r : Mark) (v : Value) → is_mark r v ≡ true → is_open r ≡ false
    → part (is_the o v) (owed_for r) ≡ part (is_the o v) (pos 1)
one_part o Pointer v h c = absurd (let bad : true ≡ false = c in cc)
one_part o TextPointer v h c = absurd (let bad : true ≡ false = c in cc)
one_part o IsNull value.Null h c = refl
one_part o IsNull (value.Object k) h c = absurd (let bad : false ≡ true = h in cc)
one_part o IsNull (value.Int n) h c = refl
one_part o IsNull value.Text h c = refl
one_part o IsObject v h c = refl
one_part o IsText value.Null h c = refl
one_part o IsText (value.Object k) h c = absurd (let bad : false ≡ true = h in cc)
one_part o IsText (value.Int n) h c = refl
one_part o IsText value.Text h c = refl
one_part o (IsNumber n) value.Null h c = refl
one_part o (IsNumber n) (value.Object k) h c = absurd (let bad : false ≡ true = h in cc)
one_part o (IsNumber n) (value.Int i) h c = refl
one_part o (IsNumber n) value.Text h c = refl
one_part o (IsConverted n) value.Null h c = refl
one_part o (IsConverted n) (value.Object k) h c = absurd (let bad : false ≡ true = h in cc)
one_part o (IsConverted n) (value.Int i) h c = refl
one_part o (IsConverted n) value.Text h c = refl
one_part o (Integer r) value.Null h c = refl
one_part o (Integer r) (value.Object k) h c = absurd (let bad : false ≡ true = h in cc)
one_part o (Integer r) (value.Int i) h c = refl
one_part o (Integer r) value.Text h c = refl

pub content_answers : (kind : Param) → has_answers (content_mark kind) ≡ true
content_answers param.Object = refl
content_answers param.ObjectOrNull = refl
content_answers param.Text = refl
content_answers param.TextOrNull = refl
content_answers param.Int = refl
content_answers param.Long = refl
content_answers param.Size = refl
content_answers param.ModuleDef = refl
