-- Calls of the API (Python/C API Reference Manual 3.11, 'Reference Counting').
--   Outcome                 how a call may end: without a value; with NULL, an object, a text, a known number, another
--                           number
--   outcomes_of_row a, outcomes_of a    the outcomes of a row with this answer, in order; those of a call. One that
--                           returns its argument has one outcome
--   outcome_value o         a value that such a call returns, if it returns one
--   lacks p h, stops ps hs  an argument is NULL where the parameter may not be; so is some argument
--   first_holding hs        the first argument
--   take_over success ts hs s    the arguments that are taken over: a reference to each escapes
--   does own g hs o s       what a call does besides its answer, with this outcome
--   outcome_cases g hs s    the cases of the first part of a call: one for each outcome
--   put_if x h f s          the variable of an answer gets it, if there is one
--   put_reference x n made s    an answer with an object: a token of its own, with this balance, that was made or not
--   new_balance a           that balance: 1 of a new reference, 0 of a borrowed one
--   makes a                 a call with this answer makes the object that it returns
--   any_number x pc s       the case of an answer with any number
--   outcome_case o a x pc s the case of an answer with this outcome
--   argument_case x as pc s the case of an answer that is the first argument
--   answer_cases k a x as pc s    the case of the last part of a call, after the outcome of this number
use Rattle.std.specs.Prelude.{ℕ, pos, negsuc, ℤ, Bool, true, false, List, [], ◌∷◌, map, get_or, Option}
use Rattle.std.specs.Prelude.{Some, None, if◌then◌else◌}
use Rattle.std.specs.List.{enumerate_from, list_any, zip}
use Rattle.pungi_base.specs.declared.value.Value.{Value}
use Rattle.pungi_base.specs.declared.value.Value.TheVariants as value
use Rattle.pungi_api.specs.declared.answer.Answer.{Answer}
use Rattle.pungi_api.specs.declared.answer.Answer.TheVariants as answer
use Rattle.pungi_api.specs.declared.call_answer.CallAnswer.{CallAnswer}
use Rattle.pungi_api.specs.declared.call_answer.CallAnswer.TheVariants.{Of, Argument}
use Rattle.pungi_api.specs.declared.own_effect.OwnEffect.{OwnEffect}
use Rattle.pungi_api.specs.declared.own_effect.OwnEffect.TheVariants.{IncRef, DecRef}
use Rattle.pungi_api.specs.declared.param.Param.{Param}
use Rattle.pungi_api.specs.declared.param.Param.TheVariants as param
use Rattle.pungi_api.specs.declared.signature.Signature.{Signature}
use Rattle.pungi_api.specs.declared.take.Take.{Take}
use Rattle.pungi_world.specs.Calls.{is_call_success, is_taken}
use Rattle.pungi_code.specs.declared.atom.Atom.{Atom}
use Rattle.pungi_code.specs.declared.atom.Var.{Var}
use Rattle.pungi_shape.specs.declared.holding.Holding.{Holding}
use Rattle.pungi_shape.specs.declared.holding.Holding.TheVariants as held
pub use Rattle.pungi_shape.specs.declared.outcome.Outcome.{Outcome}
pub use Rattle.pungi_shape.specs.declared.outcome.Outcome.TheVariants.{Nothing as nothing, Null as null}
pub use Rattle.pungi_shape.specs.declared.outcome.Outcome.TheVariants.{Object as object}
pub use Rattle.pungi_shape.specs.declared.outcome.Outcome.TheVariants.{Text as text, Known as known, Number as number}
use Rattle.pungi_shape.specs.Forms.{Form, zero_form, constant}
use Rattle.pungi_shape.specs.Scenes.{Scene, holding_of, form_of, with_var, add_to_holding, with_token, new_token}
use Rattle.pungi_shape.specs.Cases.{Case, passes_on, leads, frees}

abbrev pub outcomes_of_row : Answer → List Outcome
outcomes_of_row answer.New = null ∷ object ∷ []
outcomes_of_row answer.Borrowed = null ∷ object ∷ []
outcomes_of_row answer.BorrowedSure = object ∷ []
outcomes_of_row answer.Status = known (pos 0) ∷ known (negsuc 0) ∷ []
outcomes_of_row answer.Truth = known (pos 1) ∷ known (pos 0) ∷ known (negsuc 0) ∷ []
outcomes_of_row answer.Size = number ∷ []
outcomes_of_row answer.Int = number ∷ []
outcomes_of_row answer.Long = number ∷ []
outcomes_of_row answer.Text = null ∷ text ∷ []
outcomes_of_row answer.Void = nothing ∷ []
outcomes_of_row answer.Null = null ∷ []
outcomes_of_row answer.Found = known (pos 1) ∷ known (pos 0) ∷ []
outcomes_of_row (answer.Converted failures least most) = number ∷ []
outcomes_of_row answer.AnySize = number ∷ []
outcomes_of_row answer.Flag = number ∷ []
outcomes_of_row answer.TextSure = text ∷ []
outcomes_of_row answer.Made = null ∷ object ∷ []

abbrev pub outcomes_of : CallAnswer → List Outcome
outcomes_of (Of a) = outcomes_of_row a
outcomes_of Argument = nothing ∷ []

abbrev pub outcome_value : Outcome → Option Value
outcome_value nothing = None
outcome_value null = Some value.Null
outcome_value object = Some (value.Object 0)
outcome_value text = Some value.Text
outcome_value (known n) = Some (value.Int n)
outcome_value number = Some (value.Int (pos 0))

-- ---- the first part

abbrev pub lacks : Param → Holding → Bool
lacks param.Object held.Null = true
lacks param.Text held.Null = true
lacks p h = false

abbrev pub stops : List Param → List Holding → Bool
stops ps hs = list_any (λ e. lacks e.0 e.1) (zip ps hs)

abbrev pub first_holding : List Holding → Holding
first_holding [] = held.Null
first_holding (h ∷ hs) = h

abbrev pub take_over : Bool → List Take → List Holding → Scene → Scene
take_over success [] hs s = s
take_over success (t ∷ ts) [] s = s
take_over success (t ∷ ts) (h ∷ hs) s =
    take_over success ts hs (if is_taken success t then add_to_holding h (negsuc 0) s else s)

abbrev pub does : Option OwnEffect → Signature → List Holding → Outcome → Scene → Scene
does None g hs o s = take_over (is_call_success g.answer (outcome_value o)) g.takes hs s
does (Some IncRef) g hs o s = add_to_holding (first_holding hs) (pos 1) s
does (Some DecRef) g hs o s = add_to_holding (first_holding hs) (negsuc 0) s

abbrev pub outcome_cases : Signature → List Holding → Scene → List Case
outcome_cases g hs s =
    if stops g.params hs then [] else
    map (λ e. passes_on e.0 (does g.own g hs e.1 s)) (enumerate_from 0 (outcomes_of g.answer))

-- ---- the answer

abbrev pub put_if : Option Var → Holding → Form → Scene → Scene
put_if None h f s = s
put_if (Some x) h f s = with_var x.0 h f s

abbrev pub put_reference : Option Var → ℤ → Bool → Scene → Scene
put_reference x n made s =
    put_if x (held.Token (new_token s)) (zero_form s.width) (with_token (constant s.width n) made s)

abbrev pub new_balance : CallAnswer → ℤ
new_balance (Of answer.New) = pos 1
new_balance (Of answer.Made) = pos 1
new_balance a = pos 0

abbrev pub makes : CallAnswer → Bool
makes (Of answer.Made) = true
makes a = false

abbrev pub any_number : Option Var → ℕ → Scene → Case
any_number None pc s = leads pc s
any_number (Some x) pc s = frees x.0 pc (with_var x.0 held.Number (zero_form s.width) s)

abbrev pub outcome_case : Outcome → CallAnswer → Option Var → ℕ → Scene → Case
outcome_case nothing a x pc s = leads pc s
outcome_case null a x pc s = leads pc (put_if x held.Null (zero_form s.width) s)
outcome_case object a x pc s = leads pc (put_reference x (new_balance a) (makes a) s)
outcome_case text a x pc s = leads pc (put_if x held.Text (zero_form s.width) s)
outcome_case (known n) a x pc s = leads pc (put_if x (held.Known n) (constant s.width n) s)
outcome_case number a x pc s = any_number x pc s

abbrev pub argument_case : Option Var → List Atom → ℕ → Scene → Case
argument_case x [] pc s = leads pc (put_if x held.Null (zero_form s.width) s)
argument_case x (a ∷ as') pc s = leads pc (put_if x (holding_of s a) (form_of s a) s)

abbrev pub answer_cases : ℕ → CallAnswer → Option Var → List Atom → ℕ → Scene → List Case
answer_cases k (Of a) x as' pc s = outcome_case (get_or (outcomes_of_row a) k nothing) (Of a) x pc s ∷ []
answer_cases k Argument x as' pc s = argument_case x as' pc s ∷ []
