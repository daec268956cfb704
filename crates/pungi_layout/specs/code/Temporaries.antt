-- The variables after the locals: one for each kind that a value has and each number of values that wait below it. So a
-- variable has one kind, and an expression uses none that a value waits in.
--   column kind             which of five a value of this kind has
--   local_column k          the column that a local of a kind needs, and a result
--   temp nl d c             the variable of a value that has d values below it
--   joined_column a b       the column of `?:`
--   answer_column, call_column    of the answer of a row, and of a call of the API
--   value_column v          of an expression
--   temp_of nl d v          the variable of its value
--   fitting_column want own    the column of an operand beside one of the column `want`: `NULL` beside a text is one
--   operand nl d want v     the variable of such an operand
--   param_column p          the column that a parameter needs
--   front_column ps, tail ps    the column of the first of the parameters that are left, if any, and those after it
--   arg_var nl d ps v, arg_vars nl d ps vs    the variable of an argument of a call where these parameters are left,
--                                             and those of all, in order
use Rattle.std.specs.Prelude.{ℕ, ◌+◌, ◌*◌, ◌==◌, nat_le, ◌&&◌, List, [], ◌∷◌, Option, Some, None, if◌then◌else◌}
use Rattle.pungi_api.specs.declared.answer.Answer.{Answer}
use Rattle.pungi_api.specs.declared.answer.Answer.TheVariants as answer
use Rattle.pungi_api.specs.declared.call_answer.CallAnswer.{CallAnswer}
use Rattle.pungi_api.specs.declared.call_answer.CallAnswer.TheVariants.{Of, Argument}
use Rattle.pungi_api.specs.declared.param.Param.{Param}
use Rattle.pungi_api.specs.declared.param.Param.TheVariants as param
use Rattle.pungi_types.specs.declared.kind.ValueKind.{ValueKind}
use Rattle.pungi_types.specs.declared.kind.ValueKind.TheVariants as kinds
use Rattle.pungi_resolved.specs.Values as expr
use Rattle.pungi_meaning.specs.Values.{fits}

abbrev pub column : ValueKind → ℕ
column kinds.Int = 0
column kinds.Long = 1
column kinds.Size = 2
column kinds.Text = 3
column k = 4

abbrev pub local_column : Option ValueKind → ℕ
local_column (Some k) = column k
local_column None = 4

abbrev pub temp : ℕ → ℕ → ℕ → ℕ
temp nl d c = nl + 5 * d + c

-- two integers are joined as `+` joins them; beside a NULL stands a pointer of any kind
abbrev pub joined_column : ℕ → ℕ → ℕ
joined_column a b = if nat_le a 2 && nat_le b 2 then (if a + b == 0 then 0 else 1) else (if nat_le a b then a else b)

abbrev pub answer_column : Answer → ℕ
answer_column answer.Status = 0
answer_column answer.Truth = 0
answer_column answer.Int = 0
answer_column answer.Long = 1
answer_column answer.Size = 2
answer_column answer.Text = 3
answer_column answer.Found = 0
answer_column (answer.Converted failures least most) = 0
answer_column answer.AnySize = 2
answer_column answer.Flag = 0
answer_column answer.TextSure = 3
answer_column a = 4

abbrev pub call_column : CallAnswer → ℕ
call_column (Of a) = answer_column a
call_column Argument = 4

abbrev pub value_column : expr.Value → ℕ
value_column (expr.constant p n) = if fits kinds.Int n then 0 else 1
value_column (expr.text_of p ns) = 3
value_column (expr.null_of p) = 4
value_column (expr.static_of p n) = 4
value_column (expr.module_of p n) = 3
value_column (expr.read p kind place) = column kind
value_column (expr.inner p v) = value_column v
value_column (expr.signed p m kind v) = column kind
value_column (expr.negated p v) = 0
value_column (expr.stepped p is_postfix m kind place) = column kind
value_column (expr.emptied p kind place) = column kind
value_column (expr.computed p m kind a b) = column kind
value_column (expr.compared p m a b) = 0
value_column (expr.joined_by p m a b) = 0
value_column (expr.stored p kind place v) = column kind
value_column (expr.updated p m counted kind place v) = column kind
value_column (expr.chosen p c a b) = joined_column (value_column a) (value_column b)
value_column (expr.converted p kind v) = column kind
value_column (expr.cast_of p v) = value_column v
value_column (expr.dropped p v) = value_column v
value_column (expr.called p f vs) = local_column f.result
value_column (expr.called_row p n g vs) = call_column g.answer
value_column (expr.called_unless_null p n g vs) = call_column g.answer
value_column (expr.called_with_outputs p n g vs steps) = 0
value_column (expr.nonsense p) = 0

abbrev pub temp_of : ℕ → ℕ → expr.Value → ℕ
temp_of nl d v = temp nl d (value_column v)

-- `NULL` is a pointer of either kind
abbrev pub fitting_column : ℕ → ℕ → ℕ
fitting_column want own = if want == 3 then 3 else own

abbrev pub operand : ℕ → ℕ → ℕ → expr.Value → ℕ
operand nl d want v = temp nl d (fitting_column want (value_column v))

abbrev pub param_column : Param → ℕ
param_column param.Text = 3
param_column param.TextOrNull = 3
param_column p = 4

abbrev pub front_column : List Param → ℕ
front_column [] = 4
front_column (p ∷ ps) = param_column p

abbrev pub tail : List Param → List Param
tail [] = []
tail (p ∷ ps) = ps

abbrev pub arg_var : ℕ → ℕ → List Param → expr.Value → ℕ
arg_var nl d ps v = operand nl d (front_column ps) v

abbrev pub arg_vars : ℕ → ℕ → List Param → List expr.Value → List ℕ
arg_vars nl d ps [] = []
arg_vars nl d ps (v ∷ vs) = arg_var nl d ps v ∷ arg_vars nl (d + 1) (tail ps) vs
