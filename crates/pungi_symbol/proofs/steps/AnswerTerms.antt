-- Terms that answers and comparisons give, and what is noted after an answer was put into a variable.
use Rattle.std.proofs.Common.{◌≡◌, ℕ, ◌+◌, pos, List, [], ◌∷◌, Bool, true}
use Rattle.std.proofs.Common.{refl, sym, subst, arith, Option, None, Some}
use Rattle.pungi_code.specs.declared.atom.Atom.{Atom}
use Rattle.pungi_code.specs.declared.atom.Var.{Var}
use Rattle.pungi_code.specs.declared.instr.Instr.{Instr}
use Rattle.pungi_symbol.specs.declared.states.known.Known.{Known}
use Rattle.pungi_symbol.specs.declared.states.mark.Mark.{Mark}
use Rattle.pungi_symbol.specs.declared.states.mark.Mark.TheVariants.{Pointer, TextPointer, IsNull, IsObject, IsText}
use Rattle.pungi_symbol.specs.declared.states.mark.Mark.TheVariants.{IsNumber, IsConverted, Integer}
use Rattle.pungi_symbol.specs.declared.states.term.Term.{Term}
use Rattle.pungi_symbol.specs.declared.states.term.Term.TheVariants.{Token}
use Rattle.pungi_symbol.specs.runs.Fits.{IsBelow}
use Rattle.pungi_code.specs.WellFormed.{is_there}
use Rattle.std.specs.List.{list_all}
use Rattle.pungi_api.specs.declared.answer.Answer.{Answer}
use Rattle.pungi_api.specs.declared.answer.Answer.TheVariants as answer
use Rattle.pungi_api.specs.declared.call_answer.CallAnswer.{CallAnswer}
use Rattle.pungi_api.specs.declared.call_answer.CallAnswer.TheVariants.{Of, Argument}
use Rattle.pungi_symbol.specs.declared.states.spot.Touched.{Touched}
use Rattle.pungi_code.specs.declared.instr.Instr.TheVariants.{Set, Arith, Fit, Compare, Load, Store, Api, Call}
use Rattle.pungi_code.specs.declared.instr.Instr.TheVariants.{Unset as Forget, Jump, Branch, Return, Fall}
use Rattle.pungi_symbol.specs.states.Known.{count, term_of, object_of}
use Rattle.pungi_symbol.specs.questions.NextQuestion.{first_term, terms_of}
use Rattle.pungi_symbol.specs.answers.KnownAfter.{go_on, put_answer, answer_of_call}
use Rattle.pungi_symbol.specs.answers.KnownAfter.{answer_of_row, term_with}
use Rattle.pungi_symbol.specs.answers.KnownAfter.{comparison_term}
use Rattle.pungi_symbol.specs.answers.SymbolicState.{owed_for, owed_for_answer}
use Rattle.pungi_symbol.specs.runs.Fits.{AreTermsSound, AreMadeSound}
use Rattle.pungi_symbol.proofs.states.Terms.{put_terms}
use Rattle.pungi_symbol.proofs.states.Terms.{object_is_below}
use Rattle.pungi_symbol.proofs.answers.SoundNotes.{IsObjectIn}
use Rattle.pungi_symbol.proofs.steps.Comparisons.{an_object, no_object, objected}
use Rattle.pungi_symbol.proofs.steps.Rows.{all_there}

pub object_in : (k : Known) (x : Term) → IsObjectIn k.marks (object_of k x)
object_in k x = elim (objected k x) [
  | an_object t e m o ↦ subst (IsObjectIn k.marks) (sym o) (object_is_below k.marks t m, m)
  | no_object o h ↦ subst (IsObjectIn k.marks) (sym o) tt
]

abbrev pub OptionBelow : ℕ → Option Term → Type 0
OptionBelow n None = Unit {0}
OptionBelow n (Some x) = IsBelow n x

pub first_below : (n : ℕ) (k : Known) (as' : List Atom)
    → ((a : Atom) → is_there n a ≡ true → IsBelow (count k) (term_of k a)) → list_all (is_there n) as' ≡ true
    → IsBelow (count k) (first_term (terms_of k as'))
first_below n k [] f h = tt
first_below n k (a ∷ as') f h = f a (all_there n a as' h).0

row_below : (n : ℕ) (a : Answer) → OptionBelow n (answer_of_row a)
row_below n answer.Void = tt
row_below n answer.Null = tt
row_below n answer.New = tt
row_below n answer.Borrowed = tt
row_below n answer.BorrowedSure = tt
row_below n answer.Status = tt
row_below n answer.Truth = tt
row_below n answer.Size = tt
row_below n answer.Int = tt
row_below n answer.Long = tt
row_below n answer.Text = tt
row_below n answer.Found = tt
row_below n (answer.Converted failures least most) = tt
row_below n answer.AnySize = tt
row_below n answer.Flag = tt
row_below n answer.TextSure = tt
row_below n answer.Made = tt

pub call_below : (n : ℕ) (a : CallAnswer) (x : Term) → IsBelow n x → OptionBelow n (answer_of_call a x)
call_below n (Of a) x h = row_below n a
call_below n Argument x h = h

pub term_with_below : (r : Mark) (n : ℕ) → IsBelow (n + 1) (term_with r n)
term_with_below Pointer n = omega arith
term_with_below TextPointer n = omega arith
term_with_below IsNull n = tt
term_with_below IsObject n = omega arith
term_with_below IsText n = tt
term_with_below (IsNumber i) n = tt
term_with_below (IsConverted i) n = tt
term_with_below (Integer r) n = omega arith

pub zero_one : (r : Mark) → (r ≡ IsObject → ⊥) → owed_for r ≡ pos 0
zero_one Pointer h = refl
zero_one TextPointer h = refl
zero_one IsNull h = refl
zero_one IsObject h = absurd (h refl)
zero_one IsText h = refl
zero_one (IsNumber i) h = refl
zero_one (IsConverted i) h = refl
zero_one (Integer r) h = refl

pub zero_new : (a : Answer) (r : Mark) → (r ≡ IsObject → ⊥) → owed_for_answer a r ≡ pos 0
zero_new answer.New r h = zero_one r h
zero_new answer.Borrowed r h = refl
zero_new answer.BorrowedSure r h = refl
zero_new answer.Status r h = refl
zero_new answer.Truth r h = refl
zero_new answer.Size r h = refl
zero_new answer.Int r h = refl
zero_new answer.Long r h = refl
zero_new answer.Text r h = refl
zero_new answer.Void r h = refl
zero_new answer.Null r h = refl
zero_new answer.Found r h = refl
zero_new (answer.Converted failures least most) r h = refl
zero_new answer.AnySize r h = refl
zero_new answer.Flag r h = refl
zero_new answer.TextSure r h = refl
zero_new answer.Made r h = zero_one r h

pub compared_below : (n : ℕ) (b : Bool) (i : Instr) → IsBelow n (comparison_term b i)
compared_below n b (Set x a) = tt
compared_below n b (Arith x kind o a c) = tt
compared_below n b (Fit x kind a) = tt
compared_below n b (Compare x c a d) = tt
compared_below n b (Load x place) = tt
compared_below n b (Store place a) = tt
compared_below n b (Api x shape as') = tt
compared_below n b (Call x f as') = tt
compared_below n b (Forget x) = tt
compared_below n b (Jump to) = tt
compared_below n b (Branch a this other) = tt
compared_below n b (Return o) = tt
compared_below n b Fall = tt

-- a variable gets an answer
pub answered_terms : (k : Known) (x : Option Var) (o : Option Term) → AreTermsSound k.marks k.vars k.slots
    → OptionBelow (count k) o → AreTermsSound (go_on (put_answer x o k)).marks (go_on (put_answer x o k)).vars
    (go_on (put_answer x o k)).slots
answered_terms k None o t h = t
answered_terms k (Some x) None t h = t
answered_terms k (Some x) (Some c) t h = put_terms k.marks k.vars k.slots t x.0 c h

pub answered_made : (k : Known) (x : Option Var) (o : Option Term) (cs : List ℕ)
    → AreMadeSound k.marks k.made k.slots cs
    → AreMadeSound (go_on (put_answer x o k)).marks (go_on (put_answer x o k)).made (go_on (put_answer x o k)).slots cs
answered_made k None o cs h = h
answered_made k (Some x) None cs h = h
answered_made k (Some x) (Some c) cs h = h

pub token_is : (a b : ℕ) → Token a ≡ Token b → a ≡ b
token_is a b e = cc

pub made_as : (ms ms' : List Mark) (made made' : List ℕ) (slots slots' : List Touched) (cs : List ℕ) → ms' ≡ ms
    → made' ≡ made → slots' ≡ slots → AreMadeSound ms made slots cs → AreMadeSound ms' made' slots' cs
made_as ms ms' made made' slots slots' cs e f g h =
    subst (λ z. AreMadeSound z made' slots' cs) (sym e) (subst (λ z. AreMadeSound ms z slots' cs) (sym f)
    (subst (λ z. AreMadeSound ms made z cs) (sym g) h))
