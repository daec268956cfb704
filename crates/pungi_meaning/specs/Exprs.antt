-- What an expression does (C11 6.5), from left to right.
--   base_first place k          the base of a field comes first
--   convert p to from k         a conversion to another kind comes first
--   sign p m k todos            a minus does something, a plus does nothing
--   after_load, after_store, after_call    what a load, a store or a call of the API leaves, where the world accepts it
--   read_local, load_slot, load_field, load_old    what a place holds; to read what is unset stops, and so does a NULL
--                                                  base
--   fetch                       an expression that reads a place
--   store_slot, store_field, store              the newest value is stored, and stays the value of the assignment
--   step_op m, is_and m         the operator of `++` or `--`; an operator is `&&`
--   step, step_place            the remainders of `++` and `--`; the whole of them
--   step_after                  `++` and `--` after a place: what it held stays the value
--   empty_place, empty_after    a place holds NULL from then on, and what it held is the value
--   after_arithmetic            a result, where there is one; else the run stops
--   minus, step_one, compute, fit               the arithmetic of a node
--   compare                     a comparison
--   is_wanted, right_side       the right side of `&&` or `||`, where it is wanted; else the left side decides
--   is_missing q x, has_missing ps args    an argument that is an object, or NULL, is NULL; so is one of these
--   unless_null g args          the signature of a call that returns NULL where one is missing
--   call_row                    a call of the API
--   call, next_arg              a call, once its arguments are there; the next argument of a call, or the call
--   write_local, after_output, write_output    a local gets what a call writes to it
--   end_output, next_output     what comes once such a call has ended with a number
--   evaluate                    an expression
-- Fields and globals are slots of the world. Loads, stores and calls of the API do what pungi_world defines. A call of
-- a function of the file is a step of its own kind, which the run goes on from.
use Rattle.std.specs.Prelude.{ℕ, ◌+◌, ℤ, pos, Bool, true, false, not, List, [], ◌∷◌, length, drop, Option, Some, None}
use Rattle.std.specs.Prelude.{if◌then◌else◌}
use Rattle.std.specs.List.{list_any, zip}
use Rattle.pungi_base.specs.declared.choice.Choice.{Choice}
use Rattle.pungi_base.specs.declared.kind.Kind.{Kind}
use Rattle.pungi_base.specs.declared.kind.Kind.TheVariants as tokens
use Rattle.pungi_base.specs.declared.names.Name.{Name}
use Rattle.pungi_base.specs.declared.pos.Pos.{Pos}
use Rattle.pungi_base.specs.declared.punct.Punct.{Punct}
use Rattle.pungi_base.specs.declared.punct.Punct.TheVariants as puncts
use Rattle.pungi_base.specs.declared.value.Value.{Value}
use Rattle.pungi_base.specs.declared.value.Value.TheVariants as value
use Rattle.pungi_api.specs.declared.answer.Answer.{Answer}
use Rattle.pungi_api.specs.declared.param.Param.{Param}
use Rattle.pungi_api.specs.declared.param.Param.TheVariants as param
use Rattle.pungi_api.specs.declared.signature.Signature.{Signature}
use Rattle.pungi_api.specs.Signatures.{output_signature, null_signature}
use Rattle.pungi_types.specs.declared.kind.ValueKind.{ValueKind}
use Rattle.pungi_resolved.specs.declared.output_step.OutputStep.{OutputStep}
use Rattle.pungi_resolved.specs.declared.output_step.OutputStep.TheVariants.{Ends, Writes}
use Rattle.pungi_resolved.specs.Values as expr
use Rattle.pungi_types.specs.Operators.{is_same_kind, is_void}
use Rattle.pungi_world.specs.declared.content.Content.{Content}
use Rattle.pungi_world.specs.declared.content.Content.TheVariants.{Unset, Holds}
use Rattle.pungi_world.specs.declared.effect.Effect.{Effect}
use Rattle.pungi_world.specs.declared.slot.Slot.{Slot}
use Rattle.pungi_world.specs.declared.slot.Slot.TheVariants.{Global, Field}
use Rattle.pungi_world.specs.Slots.{load_effect, store_effect}
use Rattle.pungi_world.specs.Calls.{call_effect}
use Rattle.pungi_meaning.specs.declared.op.Op.{Op}
use Rattle.pungi_meaning.specs.declared.op.Op.TheVariants as ops
use Rattle.pungi_meaning.specs.declared.cmp.Cmp.{Cmp}
use Rattle.pungi_meaning.specs.declared.cmp.Cmp.TheVariants as cmps
use Rattle.pungi_meaning.specs.Values.{fits, is_true, truth, arithmetic, holds, number_of, op_of, cmp_of, wide}
use Rattle.pungi_meaning.specs.Values.{slot_kind}
use Rattle.pungi_meaning.specs.Todo.{Operation, Computed, Fitted, Compared, Loaded, Stored, Called, Todo, ToEval}
use Rattle.pungi_meaning.specs.Todo.{ToLoad, ToOld, ToStep, ToMinus, ToCompute, ToFit, ToCompare, ToNot, ToEmpty}
use Rattle.pungi_meaning.specs.Todo.{ToRight, ToTruth, ToPick, ToStore, ToArgs, ToOutputs, Target, Row, ToPostfix}
use Rattle.pungi_meaning.specs.Todo.{UnlessNull, WithOutputs, Defined, State, ToYield}
use Rattle.pungi_meaning.specs.Todo.{Step, Goes, Calls, Stops}
use Rattle.pungi_meaning.specs.Todo.{listed_values}
use Rattle.pungi_meaning.specs.Work.{top, below, newest, go_on, push_value, pop_value, replace_value, replace_two}
use Rattle.pungi_meaning.specs.Work.{with_result, content_at, with_local, unused, after_effect}

-- ---- places

abbrev pub base_first : expr.Place → List Todo → List Todo
base_first (expr.field_place q base tag field) k = ToEval base ∷ k
base_first place k = k

abbrev pub read_local : Content → Pos → List Todo → State → Step
read_local Unset p k s = Stops p
read_local (Holds v) p k s = push_value v k s

abbrev pub after_load : Pos → Slot → List Todo → Effect → State → Step
after_load p slot k e s = Goes (Loaded p slot e.value ∷ []) k (record s { values = with_result e.value s.values })

abbrev pub load_slot : List Choice → Pos → ValueKind → Slot → List Todo → State → Step
load_slot choices p kind slot k s =
    after_effect p (load_effect s.world slot (slot_kind kind) (unused choices s)) (after_load p slot k) s

abbrev pub load_field : List Choice → Pos → ValueKind → Value → Name → Name → List Todo → State → Step
load_field choices p kind (value.Object o) tag field k s = load_slot choices p kind (Field o tag field) k s
load_field choices p kind base tag field k s = Stops p

abbrev pub load_old : List Choice → ValueKind → expr.Place → List Todo → State → Step
load_old choices kind (expr.local_place p x) k s = read_local (content_at s.locals x) p k s
load_old choices kind (expr.global_place p n) k s = load_slot choices p kind (Global n) k s
load_old choices kind (expr.field_place p base tag field) k s = load_field choices p kind (top s.values) tag field k s
load_old choices kind expr.no_place k s = go_on k s

abbrev pub fetch : List Choice → ValueKind → expr.Place → List Todo → State → Step
fetch choices kind (expr.field_place p base tag field) k s = go_on (ToEval base ∷ ToLoad p kind tag field ∷ k) s
fetch choices kind place k s = load_old choices kind place k s

abbrev pub after_store : Pos → Slot → Value → List Value → List Todo → Effect → State → Step
after_store p slot v others k e s = Goes (Stored p slot v ∷ []) k (record s { values = v ∷ others })

abbrev pub store_slot : List Choice → Pos → ValueKind → Slot → Value → List Value → List Todo → State → Step
store_slot choices p kind slot v others k s =
    after_effect p (store_effect s.world slot (slot_kind kind) v (unused choices s)) (after_store p slot v others k) s

abbrev pub store_field : List Choice → Pos → ValueKind → Value → Name → Name → Value → List Value → List Todo
    → State → Step
store_field choices p kind (value.Object o) tag field v others k s =
    store_slot choices p kind (Field o tag field) v others k s
store_field choices p kind base tag field v others k s = Stops p

abbrev pub store : List Choice → ValueKind → expr.Place → List Todo → State → Step
store choices kind (expr.local_place p x) k s = go_on k (with_local x (Holds (top s.values)) s)
store choices kind (expr.global_place p n) k s =
    store_slot choices p kind (Global n) (top s.values) (below s.values) k s
store choices kind (expr.field_place p base tag field) k s =
    store_field choices p kind (top (below s.values)) tag field (top s.values) (below (below s.values)) k s
store choices kind expr.no_place k s = go_on k s

-- ---- operators

abbrev pub convert : Pos → ValueKind → ValueKind → List Todo → List Todo
convert p to from k = if is_same_kind (Some to) (Some from) then k else ToFit p to ∷ k

abbrev pub sign : Pos → Kind → ValueKind → List Todo → List Todo
sign p (tokens.Punct puncts.Minus) kind k = ToMinus p kind ∷ k
sign p m kind k = k

abbrev pub step_op : Kind → Op
step_op (tokens.Punct m) = op_of m
step_op m = ops.Add

abbrev pub is_and : Punct → Bool
is_and puncts.AndAnd = true
is_and m = false

abbrev pub step : Pos → Kind → ValueKind → expr.Place → List Todo → List Todo
step p m kind place k = ToStep p (step_op m) (wide kind) ∷ convert p kind (wide kind) (ToStore kind place ∷ k)

abbrev pub step_place : Bool → Pos → Kind → ValueKind → expr.Place → List Todo → State → Step
step_place false p m kind place k s = go_on (base_first place (ToOld kind place ∷ step p m kind place k)) s
step_place true p m kind place k s = go_on (base_first place (ToOld kind place ∷ ToPostfix p m kind place ∷ k)) s

abbrev pub step_after : Pos → Kind → ValueKind → expr.Place → Value → List Todo → State → Step
step_after p m kind place old k s = go_on (step p m kind place (ToYield old ∷ k)) s

-- the old content is the value, and the place holds NULL
abbrev pub empty_place : ValueKind → expr.Place → List Todo → State → Step
empty_place kind place k s = go_on (base_first place (ToOld kind place ∷ ToEmpty kind place ∷ k)) s

abbrev pub empty_after : ValueKind → expr.Place → Value → List Todo → State → Step
empty_after kind place old k s = replace_value [] value.Null (ToStore kind place ∷ ToYield old ∷ k) s

abbrev pub after_arithmetic : Pos → Op → ValueKind → Value → Value → Option ℤ
    → (List Operation → Value → List Todo → State → Step) → List Todo → State → Step
after_arithmetic p o kind v w None go k s = Stops p
after_arithmetic p o kind v w (Some n) go k s = go (Computed p o kind v w ∷ []) (value.Int n) k s

abbrev pub compute : Pos → Op → ValueKind → Value → Value → List Todo → State → Step
compute p o kind v w k s =
    after_arithmetic p o kind v w (arithmetic o kind (number_of v) (number_of w)) replace_two k s

abbrev pub step_one : Pos → Op → ValueKind → Value → List Todo → State → Step
step_one p o kind v k s =
    after_arithmetic p o kind v (value.Int (pos 1)) (arithmetic o kind (number_of v) (pos 1)) replace_value k s

abbrev pub minus : Pos → ValueKind → Value → List Todo → State → Step
minus p kind v k s =
    after_arithmetic p ops.Sub kind (value.Int (pos 0)) v (arithmetic ops.Sub kind (pos 0) (number_of v)) replace_value
    k s

abbrev pub fit : Pos → ValueKind → Value → List Todo → State → Step
fit p kind v k s =
    if fits kind (number_of v) then replace_value (Fitted p kind v ∷ []) (value.Int (number_of v)) k s else Stops p

abbrev pub compare : Pos → Cmp → Value → Value → List Todo → State → Step
compare p c v w k s = replace_two (Compared p c v w ∷ []) (truth (holds c v w)) k s

abbrev pub is_wanted : Bool → Bool → Bool
is_wanted true go_on = go_on
is_wanted false go_on = not go_on

abbrev pub right_side : Bool → Value → expr.Value → List Todo → State → Step
right_side on v b k s =
    if is_wanted on (is_true v) then pop_value (ToEval b ∷ ToTruth ∷ k) s else replace_value [] (truth (not on)) k s

-- ---- calls

abbrev pub after_call : Pos → Signature → List Value → List Value → List Todo → Effect → State → Step
after_call p g args others k e s = Goes (Called p g args e ∷ []) k (record s { values = with_result e.value others })

abbrev pub is_missing : Param → Value → Bool
is_missing param.ObjectOrNull x = not (is_true x)
is_missing q x = false

abbrev pub has_missing : List Param → List Value → Bool
has_missing params args = list_any (λ p. is_missing p.0 p.1) (zip params args)

abbrev pub unless_null : Signature → List Value → Signature
unless_null g args = if has_missing g.params args then null_signature g else g

abbrev pub call_row : List Choice → Pos → Signature → ℕ → List Todo → State → Step
call_row choices p g n k s =
    after_effect p (call_effect s.world g (newest n s.values) (unused choices s))
    (after_call p g (newest n s.values) (drop n s.values) k) s

abbrev pub call : List Choice → Pos → Target → ℕ → List Todo → State → Step
call choices p (Defined f) n k s =
    Calls p f.number (not (is_void f.result)) (newest n s.values) k (record s { values = drop n s.values })
call choices p (Row g) n k s = call_row choices p g n k s
call choices p (UnlessNull g) n k s = call_row choices p (unless_null g (newest n s.values)) n k s
call choices p (WithOutputs g steps) n k s = call_row choices p g n (ToOutputs p steps ∷ k) s

abbrev pub next_arg : List Choice → Pos → Target → List expr.Value → ℕ → Option expr.Value → List Todo → State → Step
next_arg choices p t args i (Some v) k s = go_on (ToEval v ∷ ToArgs p t args (i + 1) ∷ k) s
next_arg choices p t args i None k s = call choices p t (length args) k s

-- ---- variables that a call writes

abbrev pub write_local : ℕ → Option Value → State → State
write_local x None s = s
write_local x (Some v) s = with_local x (Holds v) s

abbrev pub after_output : Pos → ℕ → Answer → List OutputStep → List Todo → Effect → State → Step
after_output p x a steps k e s =
    Goes (Called p (output_signature a) [] e ∷ []) (ToOutputs p steps ∷ k) (write_local x e.value s)

abbrev pub write_output : List Choice → Pos → ℕ → Answer → List OutputStep → List Todo → State → Step
write_output choices p x a steps k s =
    after_effect p (call_effect s.world (output_signature a) [] (unused choices s)) (after_output p x a steps k) s

abbrev pub end_output : Bool → Bool → Pos → List OutputStep → List Operation → List Todo → State → Step
end_output true result p steps os k s = replace_value os (truth result) k s
end_output false result p steps os k s = Goes os (ToOutputs p steps ∷ k) s

-- once every step is done the call has succeeded
abbrev pub next_output : List Choice → Pos → List OutputStep → List Todo → State → Step
next_output choices p [] k s = replace_value [] (truth true) k s
next_output choices p (Ends n result ∷ steps) k s =
    end_output (holds cmps.Equal (top s.values) (value.Int n)) result p steps
    (Compared p cmps.Equal (top s.values) (value.Int n) ∷ []) k s
next_output choices p (Writes x a ∷ steps) k s = write_output choices p x a steps k s

-- ---- a node

abbrev pub evaluate : List Choice → expr.Value → List Todo → State → Step
evaluate choices (expr.constant p n) k s = push_value (value.Int n) k s
evaluate choices (expr.text_of p ns) k s = push_value value.Text k s
evaluate choices (expr.null_of p) k s = push_value value.Null k s
evaluate choices (expr.static_of p n) k s = push_value (value.Object n) k s
evaluate choices (expr.module_of p n) k s = push_value value.Text k s
evaluate choices (expr.read p kind place) k s = fetch choices kind place k s
evaluate choices (expr.inner p v) k s = go_on (ToEval v ∷ k) s
evaluate choices (expr.signed p m kind v) k s = go_on (ToEval v ∷ sign p m kind k) s
evaluate choices (expr.negated p v) k s = go_on (ToEval v ∷ ToNot ∷ k) s
evaluate choices (expr.stepped p is_postfix m kind place) k s = step_place is_postfix p m kind place k s
evaluate choices (expr.emptied p kind place) k s = empty_place kind place k s
evaluate choices (expr.computed p m kind a b) k s = go_on (ToEval a ∷ ToEval b ∷ ToCompute p (op_of m) kind ∷ k) s
evaluate choices (expr.compared p m a b) k s = go_on (ToEval a ∷ ToEval b ∷ ToCompare p (cmp_of m) ∷ k) s
evaluate choices (expr.joined_by p m a b) k s = go_on (ToEval a ∷ ToRight (is_and m) b ∷ k) s
evaluate choices (expr.stored p kind place v) k s = go_on (base_first place (ToEval v ∷ ToStore kind place ∷ k)) s
evaluate choices (expr.updated p m counted kind place v) k s =
    go_on (base_first place (ToOld kind place ∷ ToEval v ∷ ToCompute p (op_of m) counted
    ∷ convert p kind counted (ToStore kind place ∷ k))) s
evaluate choices (expr.chosen p c a b) k s = go_on (ToEval c ∷ ToPick a b ∷ k) s
evaluate choices (expr.converted p kind v) k s = go_on (ToEval v ∷ ToFit p kind ∷ k) s
evaluate choices (expr.cast_of p v) k s = go_on (ToEval v ∷ k) s
evaluate choices (expr.dropped p v) k s = go_on (ToEval v ∷ k) s
evaluate choices (expr.called p f vs) k s = go_on (ToArgs p (Defined f) (listed_values vs) 0 ∷ k) s
evaluate choices (expr.called_row p n g vs) k s = go_on (ToArgs p (Row g) (listed_values vs) 0 ∷ k) s
evaluate choices (expr.called_unless_null p n g vs) k s =
    go_on (ToArgs p (UnlessNull g) (listed_values vs) 0 ∷ k) s
evaluate choices (expr.called_with_outputs p n g vs steps) k s =
    go_on (ToArgs p (WithOutputs g steps) (listed_values vs) 0 ∷ k) s
evaluate choices (expr.nonsense p) k s = Stops p
