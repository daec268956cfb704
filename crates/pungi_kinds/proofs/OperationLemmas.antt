-- Operations that have values of their kinds have them where more objects are there, too.
use Rattle.std.proofs.Common.{◌≡◌, ℕ, ◌≤◌, ◌||◌, Bool, true, false, List, [], ◌∷◌, ◌++◌, Option, Some, None, map, refl}
use Rattle.std.specs.Prelude.{if◌then◌else◌}
use Rattle.pungi_base.specs.declared.value.Value.{Value}
use Rattle.pungi_api.specs.declared.answer.Answer.TheVariants as answer
use Rattle.pungi_api.specs.declared.call_answer.CallAnswer.{CallAnswer}
use Rattle.pungi_api.specs.declared.call_answer.CallAnswer.TheVariants.{Of, Argument}
use Rattle.pungi_api.specs.declared.param.Param.{Param}
use Rattle.pungi_api.specs.declared.param.Param.TheVariants as param
use Rattle.pungi_world.specs.declared.content.Content.{Content}
use Rattle.pungi_world.specs.declared.content.Content.TheVariants.{Holds}
use Rattle.pungi_meaning.specs.declared.cmp.Cmp.{Cmp}
use Rattle.pungi_meaning.specs.Todo.{Operation, Computed, Fitted, Compared, Loaded, Stored, Called, Entered}
use Rattle.pungi_code.specs.declared.code.Codes.{Codes}
use Rattle.pungi_code.specs.WellFormed.{CallKinds, answer_param, is_order, kinds_of}
use Rattle.pungi_layout.proofs.well_formed.Both.{and_true, and_left, and_right}
use Rattle.pungi_kinds.specs.Contents.{are_two, argument_kind, arguments_hold, content_holds, may_be_compared}
use Rattle.pungi_kinds.specs.Operations.{answer_holds, entered_holds, OperationHolds, OperationsHold}
use Rattle.pungi_kinds.proofs.ValueLemmas.{either, or_first, or_second, more_content, more_contents, more_objects}
use Rattle.pungi_kinds.proofs.SlotLemmas.{more_slot}

module _ (codes : Codes) (n m : ℕ) (le : n ≤ m) where
  more_two : (k : Param) (c d : Content) → are_two n k c d ≡ true → are_two m k c d ≡ true
  more_two k c d h =
      and_true (content_holds m k c) (content_holds m k d)
      (more_content n m k c le (and_left (content_holds n k c) (content_holds n k d) h))
      (more_content n m k d le (and_right (content_holds n k c) (content_holds n k d) h))

  more_compared : (o : Cmp) (c d : Content) → may_be_compared n o c d ≡ true → may_be_compared m o c d ≡ true
  more_compared o c d h = by (is_order o) h
    where
      pointers : (are_two n param.ObjectOrNull c d || are_two n param.TextOrNull c d) ≡ true
          → (are_two m param.ObjectOrNull c d || are_two m param.TextOrNull c d) ≡ true
      pointers g =
          let objects = are_two m param.ObjectOrNull c d in
          let texts = are_two m param.TextOrNull c d in
          either (are_two n param.ObjectOrNull c d) (are_two n param.TextOrNull c d)
          (λ k. or_first objects texts (more_two param.ObjectOrNull c d k))
          (λ k. or_second objects texts (more_two param.TextOrNull c d k)) g

      by : (b : Bool) → (if b then are_two n param.Long c d else are_two n param.Long c d
          || (are_two n param.ObjectOrNull c d || are_two n param.TextOrNull c d)) ≡ true
          → (if b then are_two m param.Long c d else are_two m param.Long c d
          || (are_two m param.ObjectOrNull c d || are_two m param.TextOrNull c d)) ≡ true
      by true g = more_two param.Long c d g
      by false g =
          let others = are_two m param.ObjectOrNull c d || are_two m param.TextOrNull c d in
          either (are_two n param.Long c d) (are_two n param.ObjectOrNull c d || are_two n param.TextOrNull c d)
          (λ k. or_first (are_two m param.Long c d) others (more_two param.Long c d k))
          (λ k. or_second (are_two m param.Long c d) others (pointers k)) g

  more_answer : (a : CallAnswer) (o : Option Value) → answer_holds n a o ≡ true → answer_holds m a o ≡ true
  more_answer (Of answer.Void) None h = refl
  more_answer (Of answer.Void) (Some v) h = h
  more_answer (Of _) None h = h
  more_answer Argument None h = h
  more_answer (Of a) (Some v) h = more_objects n m (answer_param a) v le h
  more_answer Argument (Some v) h = more_objects n m param.ObjectOrNull v le h

  more_entered : (k : CallKinds) (vs : List Value) → entered_holds n k vs ≡ true → entered_holds m k vs ≡ true
  more_entered None vs h = h
  more_entered (Some k) vs h = more_contents n m k.0 (map Holds vs) le h

  more_operation : (o : Operation) → OperationHolds codes n o → OperationHolds codes m o
  more_operation (Computed p o kind v w) h = more_two param.Long (Holds v) (Holds w) h
  more_operation (Fitted p kind v) h = more_objects n m param.Long v le h
  more_operation (Compared p c v w) h = more_compared c (Holds v) (Holds w) h
  more_operation (Loaded p s None) h = h
  more_operation (Loaded p s (Some v)) h = (h.0, more_slot codes n m s (Holds v) le h.1)
  more_operation (Stored p s v) h = (h.0, more_slot codes n m s (Holds v) le h.1)
  more_operation (Called p g vs e) h =
      let args = arguments_hold n g.params (map Holds vs) in
      and_true (arguments_hold m g.params (map Holds vs)) (answer_holds m g.answer e.value)
      (more_contents n m (map argument_kind g.params) (map Holds vs) le
      (and_left args (answer_holds n g.answer e.value) h))
      (more_answer g.answer e.value (and_right args (answer_holds n g.answer e.value) h))
  more_operation (Entered p f vs) h = more_entered (kinds_of codes f) vs h

  pub more_operations : (os : List Operation) → OperationsHold codes n os → OperationsHold codes m os
  more_operations [] h = tt
  more_operations (o ∷ os) h = (more_operation o h.0, more_operations os h.1)

pub then_operations : (codes : Codes) (n : ℕ) (os more : List Operation) → OperationsHold codes n os
    → OperationsHold codes n more → OperationsHold codes n (os ++ more)
then_operations codes n [] more h k = k
then_operations codes n (o ∷ os) more h k = (h.0, then_operations codes n os more h.1 k)
