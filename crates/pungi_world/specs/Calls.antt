-- What a call of the API does (Python/C API Reference Manual 3.11, 'Reference Counting').
--   lacks p x                   an argument is NULL where the parameter may not be
--   stops params args           so is some argument
--   first_of args               the first argument
--   call_answer n g args choices    what a call of such a signature returns, and how many choices it uses, where there
--                               are n objects
--   with_new_reference answer w value    the world after the answer of a row: the count of a new reference rises, and
--                               an object that the call makes is one that was made
--   with_answer answer w value  the world after the answer of a call
--   is_zero x, is_object x      a value is 0; it is an object
--   is_success answer value     the answer of a row says that the call succeeded
--   is_call_success answer value    so does that of a call
--   is_taken success t          the call takes over the argument of such a parameter
--   is_taken_at success takes i    it takes over the argument at this place
--   take_over w success takes args    the world after the arguments were taken over
--   described_world g args w value    the world after a call that returns this value, as far as its answer and what it
--                               takes over say
--   own_world own g args w value    the world after it, where it has this effect of its own, or none
--   call_effect                 what a call of the API does
use Rattle.std.specs.Prelude.{ℕ, pos, negsuc, Bool, true, false, List, [], ◌∷◌, length, get_or, Option, None}
use Rattle.std.specs.Prelude.{Some, Result, Ok, Err, if◌then◌else◌}
use Rattle.std.specs.List.{list_any, zip}
use Rattle.pungi_base.specs.declared.value.Value.{Value}
use Rattle.pungi_base.specs.declared.value.Value.TheVariants as value
use Rattle.pungi_base.specs.declared.choice.Choice.{Choice}
use Rattle.pungi_api.specs.declared.param.Param.{Param}
use Rattle.pungi_api.specs.declared.param.Param.TheVariants as param
use Rattle.pungi_api.specs.declared.take.Take.{Take}
use Rattle.pungi_api.specs.declared.take.Take.TheVariants as take
use Rattle.pungi_api.specs.declared.answer.Answer.{Answer}
use Rattle.pungi_api.specs.declared.answer.Answer.TheVariants as answer
use Rattle.pungi_api.specs.declared.call_answer.CallAnswer.{CallAnswer}
use Rattle.pungi_api.specs.declared.call_answer.CallAnswer.TheVariants.{Of, Argument}
use Rattle.pungi_api.specs.declared.own_effect.OwnEffect.{OwnEffect}
use Rattle.pungi_api.specs.declared.own_effect.OwnEffect.TheVariants.{IncRef, DecRef}
use Rattle.pungi_api.specs.declared.signature.Signature.{Signature}
use Rattle.pungi_world.specs.declared.effect.Effect.{Effect}
use Rattle.pungi_world.specs.declared.halt.Halt.{Halt}
use Rattle.pungi_world.specs.declared.halt.Halt.TheVariants.{Stopped}
use Rattle.pungi_world.specs.declared.world.World.{World}
use Rattle.pungi_world.specs.Counts.{with_value, count_value, mark_made, hand_over}
use Rattle.pungi_world.specs.Choices.{answer_of, is_between}
use Rattle.pungi_world.specs.Effects.{◌>>=◌, effect}

abbrev pub lacks : Param → Value → Bool
lacks param.Object value.Null = true
lacks param.Text value.Null = true
lacks p x = false

abbrev pub stops : List Param → List Value → Bool
stops params args = list_any (λ p. lacks p.0 p.1) (zip params args)

abbrev pub first_of : List Value → Value
first_of [] = value.Null
first_of (x ∷ args) = x

-- ---- the answer

abbrev pub call_answer : ℕ → CallAnswer → List Value → List Choice → Result (Option Value × ℕ) Halt
call_answer n (Of a) args choices = answer_of n a choices
call_answer n Argument args choices = Ok (Some (first_of args), 0)

abbrev pub with_new_reference : Answer → World → Option Value → World
with_new_reference a w None = w
with_new_reference answer.New w (Some x) = count_value (with_value w x) x (pos 1)
with_new_reference answer.Made w (Some x) = mark_made (count_value (with_value w x) x (pos 1)) x
with_new_reference a w (Some x) = with_value w x

abbrev pub with_answer : CallAnswer → World → Option Value → World
with_answer (Of a) w v = with_new_reference a w v
with_answer Argument w v = w

abbrev pub is_zero : Value → Bool
is_zero (value.Int n) = is_between (pos 0) (pos 0) n
is_zero x = false

abbrev pub is_object : Value → Bool
is_object (value.Object k) = true
is_object x = false

abbrev pub is_success : Answer → Option Value → Bool
is_success answer.New (Some x) = is_object x
is_success answer.Status (Some x) = is_zero x
is_success a x = false

-- an argument that is returned shows no success
abbrev pub is_call_success : CallAnswer → Option Value → Bool
is_call_success (Of a) v = is_success a v
is_call_success Argument v = false

-- ---- what is taken over

abbrev pub is_taken : Bool → Take → Bool
is_taken success take.Never = false
is_taken success take.Always = true
is_taken success take.OnSuccess = success

abbrev pub is_taken_at : Bool → List Take → ℕ → Bool
is_taken_at success takes i = is_taken success (get_or takes i take.Never)

abbrev pub take_over : World → Bool → List Take → List Value → World
take_over w success [] args = w
take_over w success (t ∷ takes) [] = w
take_over w success (t ∷ takes) (x ∷ args) =
    take_over (if is_taken success t then hand_over w x else w) success takes args

-- ---- the whole call

abbrev pub described_world : Signature → List Value → World → Option Value → World
described_world g args w v = take_over (with_answer g.answer w v) (is_call_success g.answer v) g.takes args

abbrev pub own_world : Option OwnEffect → Signature → List Value → World → Option Value → World
own_world None g args w v = described_world g args w v
own_world (Some IncRef) g args w v = count_value w (first_of args) (pos 1)
own_world (Some DecRef) g args w v = count_value w (first_of args) (negsuc 0)

abbrev pub call_effect : World → Signature → List Value → List Choice → Result (Effect × World) Halt
call_effect w g args choices =
    if stops g.params args then Err Stopped else
    call_answer (length w.accounts) g.answer args choices >>= λ r. Ok
    (effect r.0 r.1, own_world g.own g args w r.0)
