-- Numbers, truth and comparisons of values (C11 6.2.5, 6.3.1, 6.5): the words that every meaning of a function shares.
--   bits k                the bits of an integer kind beside the sign: `int` has 32 in all, `long` and `Py_ssize_t` 64
--   fits k n              a number is in the range of an integer kind
--   number_of v           a value as a number
--   is_true v             a condition holds: a number that isn't 0, a pointer that isn't NULL (6.8.4.1)
--   truth b               the `int` that says whether something holds (6.5.8, 6.5.9)
--   result_of o a b       what an operator gives without regard to the range; `/` cuts towards 0 (6.5.5)
--   is_undefined o b      a division by 0
--   in_range k n          a number, where it is in range
--   arithmetic o k a b    the result in a kind, where it has one
--   is_equal v w          two numbers or two pointers are equal
--   holds c v w           a comparison
--   op_of, cmp_of m       the operator and the comparison that a punctuator stands for
--   wide k                the kind in which a value of this kind is counted with an `int` (6.3.1.8)
--   slot_kind k           what a slot of this kind holds
use Rattle.std.specs.Prelude.{ℕ, ◌^◌, ◌-◌, ◌==◌, ℤ, pos, negsuc, ◌+ℤ◌, ◌-ℤ◌, ◌*ℤ◌, int_div, int_rem, int_lt, int_le}
use Rattle.std.specs.Prelude.{Bool, true, false, not, Option, Some, None, if◌then◌else◌}
use Rattle.std.specs.Ordering.{int_eq}
use Rattle.pungi_base.specs.declared.punct.Punct.{Punct}
use Rattle.pungi_base.specs.declared.punct.Punct.TheVariants as puncts
use Rattle.pungi_base.specs.declared.value.Value.{Value}
use Rattle.pungi_base.specs.declared.value.Value.TheVariants as value
use Rattle.pungi_api.specs.declared.param.Param.{Param}
use Rattle.pungi_api.specs.declared.param.Param.TheVariants as param
use Rattle.pungi_types.specs.declared.kind.ValueKind.{ValueKind}
use Rattle.pungi_types.specs.declared.kind.ValueKind.TheVariants as kinds
use Rattle.pungi_world.specs.Choices.{is_between}
use Rattle.pungi_meaning.specs.declared.op.Op.{Op}
use Rattle.pungi_meaning.specs.declared.op.Op.TheVariants as ops
use Rattle.pungi_meaning.specs.declared.cmp.Cmp.{Cmp}
use Rattle.pungi_meaning.specs.declared.cmp.Cmp.TheVariants as cmps

abbrev pub bits : ValueKind → ℕ
bits kinds.Int = 31
bits k = 63

abbrev pub fits : ValueKind → ℤ → Bool
fits k n = is_between (negsuc (2 ^ bits k - 1)) (pos (2 ^ bits k - 1)) n

-- a pointer is no number: that result is never used
abbrev pub number_of : Value → ℤ
number_of (value.Int n) = n
number_of v = pos 0

abbrev pub is_true : Value → Bool
is_true (value.Int n) = not (int_eq n (pos 0))
is_true value.Null = false
is_true (value.Object o) = true
is_true value.Text = true

abbrev pub truth : Bool → Value
truth true = value.Int (pos 1)
truth false = value.Int (pos 0)

-- ---- arithmetic

abbrev pub result_of : Op → ℤ → ℤ → ℤ
result_of ops.Add a b = a +ℤ b
result_of ops.Sub a b = a -ℤ b
result_of ops.Mul a b = a *ℤ b
result_of ops.Div a b = int_div a b
result_of ops.Rem a b = int_rem a b

abbrev pub is_undefined : Op → ℤ → Bool
is_undefined ops.Div b = int_eq b (pos 0)
is_undefined ops.Rem b = int_eq b (pos 0)
is_undefined o b = false

abbrev pub in_range : ValueKind → ℤ → Option ℤ
in_range k n = if fits k n then Some n else None

abbrev pub arithmetic : Op → ValueKind → ℤ → ℤ → Option ℤ
arithmetic o k a b = if is_undefined o b then None else in_range k (result_of o a b)

abbrev pub wide : ValueKind → ValueKind
wide kinds.Int = kinds.Int
wide k = kinds.Long

-- ---- comparisons

abbrev pub is_equal : Value → Value → Bool
is_equal (value.Int m) (value.Int n) = int_eq m n
is_equal (value.Object a) (value.Object b) = a == b
is_equal value.Null value.Null = true
is_equal value.Text value.Text = true
is_equal v w = false

abbrev pub holds : Cmp → Value → Value → Bool
holds cmps.Equal v w = is_equal v w
holds cmps.NotEqual v w = not (is_equal v w)
holds cmps.Less v w = int_lt (number_of v) (number_of w)
holds cmps.LessEqual v w = int_le (number_of v) (number_of w)
holds cmps.Greater v w = int_lt (number_of w) (number_of v)
holds cmps.GreaterEqual v w = int_le (number_of w) (number_of v)

-- ---- what stands in the text

abbrev pub op_of : Punct → Op
op_of puncts.Minus = ops.Sub
op_of puncts.MinusMinus = ops.Sub
op_of puncts.MinusAssign = ops.Sub
op_of puncts.Star = ops.Mul
op_of puncts.StarAssign = ops.Mul
op_of puncts.Slash = ops.Div
op_of puncts.SlashAssign = ops.Div
op_of puncts.Percent = ops.Rem
op_of puncts.PercentAssign = ops.Rem
op_of m = ops.Add

abbrev pub cmp_of : Punct → Cmp
cmp_of puncts.NotEqual = cmps.NotEqual
cmp_of puncts.Less = cmps.Less
cmp_of puncts.LessEqual = cmps.LessEqual
cmp_of puncts.Greater = cmps.Greater
cmp_of puncts.GreaterEqual = cmps.GreaterEqual
cmp_of m = cmps.Equal

abbrev pub slot_kind : ValueKind → Param
slot_kind kinds.Int = param.Int
slot_kind kinds.Long = param.Long
slot_kind kinds.Size = param.Size
slot_kind kinds.Text = param.TextOrNull
slot_kind k = param.ObjectOrNull
