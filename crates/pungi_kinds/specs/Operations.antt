-- What a run does is done with values of their kinds.
--   answer_holds n a o          what a call of the API returns is of its kind; nothing where it returns nothing
--   entered_holds n k vs        the arguments of a call of a function are of the kinds of its parameters
--   OperationHolds codes n o    an operation has values of their kinds, where there are n objects
--   OperationsHold codes n os   so have all of a run
use Rattle.std.specs.Prelude.{◌≡◌, ℕ, Bool, true, false, ◌&&◌, List, [], ◌∷◌, Option, Some, None, map}
use Rattle.pungi_base.specs.declared.value.Value.{Value}
use Rattle.pungi_api.specs.declared.answer.Answer.TheVariants as answer
use Rattle.pungi_api.specs.declared.call_answer.CallAnswer.{CallAnswer}
use Rattle.pungi_api.specs.declared.call_answer.CallAnswer.TheVariants.{Of}
use Rattle.pungi_api.specs.declared.param.Param.TheVariants as param
use Rattle.pungi_world.specs.declared.content.Content.TheVariants.{Holds}
use Rattle.pungi_meaning.specs.Todo.{Operation, Computed, Fitted, Compared, Loaded, Stored, Called, Entered}
use Rattle.pungi_code.specs.declared.code.Codes.{Codes}
use Rattle.pungi_code.specs.Entries.{holds_value}
use Rattle.pungi_code.specs.WellFormed.{CallKinds, kinds_of, returned_param}
use Rattle.pungi_kinds.specs.Contents.{are_two, arguments_hold, contents_hold, IsSlotOf, may_be_compared, SlotHolds}

abbrev pub answer_holds : ℕ → CallAnswer → Option Value → Bool
answer_holds n (Of answer.Void) None = true
answer_holds n (Of answer.Void) (Some v) = false
answer_holds n a None = false
answer_holds n a (Some v) = holds_value n (returned_param a) v

abbrev pub entered_holds : ℕ → CallKinds → List Value → Bool
entered_holds n None vs = false
entered_holds n (Some k) vs = contents_hold n k.0 (map Holds vs)

-- both operands of arithmetic are at most as wide as `long`, and so is a number that is converted
abbrev pub OperationHolds : Codes → ℕ → Operation → Type 0
OperationHolds codes n (Computed p o kind v w) = are_two n param.Long (Holds v) (Holds w) ≡ true
OperationHolds codes n (Fitted p kind v) = holds_value n param.Long v ≡ true
OperationHolds codes n (Compared p c v w) = may_be_compared n c (Holds v) (Holds w) ≡ true
OperationHolds codes n (Loaded p s None) = ⊥
OperationHolds codes n (Loaded p s (Some v)) = IsSlotOf codes s × SlotHolds codes n s (Holds v)
OperationHolds codes n (Stored p s v) = IsSlotOf codes s × SlotHolds codes n s (Holds v)
OperationHolds codes n (Called p g vs e) =
    (arguments_hold n g.params (map Holds vs) && answer_holds n g.answer e.value) ≡ true
OperationHolds codes n (Entered p f vs) = entered_holds n (kinds_of codes f) vs ≡ true

abbrev pub OperationsHold : Codes → ℕ → List Operation → Type 0
OperationsHold codes n [] = Unit {0}
OperationsHold codes n (o ∷ os) = OperationHolds codes n o × OperationsHold codes n os
