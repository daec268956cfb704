-- The columns of values are fewer than five, and a place waits no higher than its nodes allow.
use Rattle.std.proofs.Common.{◌≡◌, ℕ, ◌<◌, Option, Some, None, refl, arith, Bool, true, false, not, if◌then◌else◌}
use Rattle.pungi_api.specs.declared.answer.Answer.{Answer}
use Rattle.pungi_api.specs.declared.answer.Answer.TheVariants as answer
use Rattle.pungi_api.specs.declared.call_answer.CallAnswer.{CallAnswer}
use Rattle.pungi_api.specs.declared.call_answer.CallAnswer.TheVariants.{Of, Argument}
use Rattle.pungi_types.specs.declared.kind.ValueKind.{ValueKind}
use Rattle.pungi_types.specs.declared.kind.ValueKind.TheVariants as kinds
use Rattle.pungi_resolved.specs.Values as expr
use Rattle.pungi_meaning.specs.Values.{fits}
use Rattle.pungi_layout.specs.code.Temporaries.{column, local_column, answer_column, call_column, value_column}
use Rattle.pungi_layout.specs.code.ExprCode.{to_var, above}
use Rattle.pungi_layout.proofs.relation.Waiting.{answer_var, level}

pub column_low : (k : ValueKind) → column k < 5
column_low kinds.Int = omega arith
column_low kinds.Long = omega arith
column_low kinds.Size = omega arith
column_low kinds.Text = omega arith
column_low k = omega arith

pub local_low : (k : Option ValueKind) → local_column k < 5
local_low (Some k) = column_low k
local_low None = omega arith

answer_low : (a : Answer) → answer_column a < 5
answer_low answer.Status = omega arith
answer_low answer.Truth = omega arith
answer_low answer.Int = omega arith
answer_low answer.Long = omega arith
answer_low answer.Size = omega arith
answer_low answer.Text = omega arith
answer_low answer.Found = omega arith
answer_low (answer.Converted failures least most) = omega arith
answer_low answer.AnySize = omega arith
answer_low answer.Flag = omega arith
answer_low answer.TextSure = omega arith
answer_low a = omega arith

call_low : (a : CallAnswer) → call_column a < 5
call_low (Of a) = answer_low a
call_low Argument = omega arith

pub if_low : (b : Bool) (m n : ℕ) → m < 5 → n < 5 → (if b then m else n) < 5
if_low true m n h g = h
if_low false m n h g = g

joined_low : (b c d : Bool) (m n : ℕ) → m < 5 → n < 5 → (if b then (if c then 0 else 1) else (if d then m else n)) < 5
joined_low b c d m n h g = if_low b _ _ (if_low c 0 1 (omega arith) (omega arith)) (if_low d m n h g)

pub value_low : (v : expr.Value) → value_column v < 5
value_low (expr.constant p n) = if_low (fits kinds.Int n) 0 1 (omega arith) (omega arith)
value_low (expr.read p kind place) = column_low kind
value_low (expr.inner p v) = value_low v
value_low (expr.signed p m kind v) = column_low kind
value_low (expr.stepped p is_postfix m kind place) = column_low kind
value_low (expr.emptied p kind place) = column_low kind
value_low (expr.computed p m kind a b) = column_low kind
value_low (expr.stored p kind place v) = column_low kind
value_low (expr.updated p m counted kind place v) = column_low kind
value_low (expr.chosen p c a b) = joined_low _ _ _ (value_column a) (value_column b) (value_low a) (value_low b)
value_low (expr.converted p kind v) = column_low kind
value_low (expr.cast_of p v) = value_low v
value_low (expr.dropped p v) = value_low v
value_low (expr.called p f vs) = local_low f.result
value_low (expr.called_row p n sig vs) = call_low sig.answer
value_low (expr.called_unless_null p n sig vs) = call_low sig.answer
value_low v = omega arith

pub above_is : (place : expr.Place) (d : ℕ) → above place d ≡ level place d
above_is (expr.local_place p x) d = refl
above_is (expr.global_place p n) d = refl
above_is (expr.field_place p base tag field) d = omega arith
above_is expr.no_place d = refl

-- a void result goes nowhere
pub result_is : (b : Bool) (t : ℕ) → (if b then None else Some (to_var t)) ≡ answer_var (not b) t
result_is true t = refl
result_is false t = refl

pub answer_is : (b : Bool) (t : ℕ) → (if b then Some (to_var t) else None) ≡ answer_var b t
answer_is true t = refl
answer_is false t = refl
