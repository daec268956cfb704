-- Operators by what the rules require of their operands, and tests of kinds. Of an operand with no kind nothing is
-- required (C11 6.5).
--   is_bits, is_arithmetic, is_order, is_equality, is_bits_assign, is_arithmetic_assign    binary operators and
--   assignments
--   mark_prefix, prefix_of    what an operator before its operand is
--   is_int, is_integer, is_pointer, is_object, is_text, is_null, is_void    tests of a kind
--   is_same_kind        two kinds are one integer kind
--   wider a b           the kind of arithmetic: Int with Int is Int, any other pair of integers is Long
--   fits a b            a value of the second kind may be assigned to the first
--   comparable a b, joinable a b, joined_kind a b    what `==` and `?:` take, and the kind of `?:`
--   struct_part k, has_same a b    the struct of a pointer
--   both_known a b      both have a kind
--   on_pointers, assigns_pointers    arithmetic on a pointer
use Rattle.std.specs.Prelude.{◌==◌, Bool, true, false, ◌&&◌, ◌||◌, Option, Some, None, is_some, if◌then◌else◌}
use Rattle.pungi_base.specs.declared.kind.Kind.{Kind}
use Rattle.pungi_base.specs.declared.kind.Kind.TheVariants as tokens
use Rattle.pungi_base.specs.declared.names.Name.{Name}
use Rattle.pungi_base.specs.declared.punct.Punct.{Punct}
use Rattle.pungi_base.specs.declared.punct.Punct.TheVariants as puncts
use Rattle.pungi_types.specs.declared.kind.ValueKind.{ValueKind}
use Rattle.pungi_types.specs.declared.operator.Prefix.{Prefix}
use Rattle.pungi_types.specs.declared.operator.Prefix.TheVariants as prefixes
use Rattle.pungi_types.specs.declared.kind.ValueKind.TheVariants as kinds

-- `& | ^ << >>`
abbrev pub is_bits : Punct → Bool
is_bits puncts.And = true
is_bits puncts.Or = true
is_bits puncts.Caret = true
is_bits puncts.ShiftLeft = true
is_bits puncts.ShiftRight = true
is_bits _ = false

-- `+ - * / %`
abbrev pub is_arithmetic : Punct → Bool
is_arithmetic puncts.Plus = true
is_arithmetic puncts.Minus = true
is_arithmetic puncts.Star = true
is_arithmetic puncts.Slash = true
is_arithmetic puncts.Percent = true
is_arithmetic _ = false

-- `< > <= >=`
abbrev pub is_order : Punct → Bool
is_order puncts.Less = true
is_order puncts.Greater = true
is_order puncts.LessEqual = true
is_order puncts.GreaterEqual = true
is_order _ = false

-- `== !=`
abbrev pub is_equality : Punct → Bool
is_equality puncts.Equal = true
is_equality puncts.NotEqual = true
is_equality _ = false

-- `&= |= ^= <<= >>=`
abbrev pub is_bits_assign : Punct → Bool
is_bits_assign puncts.AndAssign = true
is_bits_assign puncts.OrAssign = true
is_bits_assign puncts.CaretAssign = true
is_bits_assign puncts.ShiftLeftAssign = true
is_bits_assign puncts.ShiftRightAssign = true
is_bits_assign _ = false

-- `+= -= *= /= %=`
abbrev pub is_arithmetic_assign : Punct → Bool
is_arithmetic_assign puncts.PlusAssign = true
is_arithmetic_assign puncts.MinusAssign = true
is_arithmetic_assign puncts.StarAssign = true
is_arithmetic_assign puncts.SlashAssign = true
is_arithmetic_assign puncts.PercentAssign = true
is_arithmetic_assign _ = false

abbrev pub mark_prefix : Punct → Prefix
mark_prefix puncts.And = prefixes.Address
mark_prefix puncts.PlusPlus = prefixes.Step
mark_prefix puncts.MinusMinus = prefixes.Step
mark_prefix puncts.Plus = prefixes.Sign
mark_prefix puncts.Minus = prefixes.Sign
mark_prefix puncts.Not = prefixes.Negation
mark_prefix _ = prefixes.LeftOut

abbrev pub prefix_of : Kind → Prefix
prefix_of (tokens.Punct m) = mark_prefix m
prefix_of _ = prefixes.LeftOut

-- .. kinds
abbrev pub is_int : Option ValueKind → Bool
is_int (Some kinds.Int) = true
is_int _ = false

abbrev pub is_integer : Option ValueKind → Bool
is_integer (Some kinds.Int) = true
is_integer (Some kinds.Long) = true
is_integer (Some kinds.Size) = true
is_integer _ = false

abbrev pub is_pointer : Option ValueKind → Bool
is_pointer (Some kinds.Text) = true
is_pointer (Some (kinds.Object s)) = true
is_pointer (Some kinds.Null) = true
is_pointer _ = false

abbrev pub is_object : Option ValueKind → Bool
is_object (Some (kinds.Object s)) = true
is_object _ = false

abbrev pub is_text : Option ValueKind → Bool
is_text (Some kinds.Text) = true
is_text _ = false

abbrev pub is_null : Option ValueKind → Bool
is_null (Some kinds.Null) = true
is_null _ = false

abbrev pub is_void : Option ValueKind → Bool
is_void (Some kinds.Void) = true
is_void _ = false

abbrev pub is_same_kind : Option ValueKind → Option ValueKind → Bool
is_same_kind (Some kinds.Int) (Some kinds.Int) = true
is_same_kind (Some kinds.Long) (Some kinds.Long) = true
is_same_kind (Some kinds.Size) (Some kinds.Size) = true
is_same_kind _ _ = false

-- Int with Int is Int, any other pair of integers is Long
abbrev pub wider : Option ValueKind → Option ValueKind → ValueKind
wider a b = (if is_int a && is_int b then kinds.Int else kinds.Long)

-- a value of the second kind may be assigned to the first
abbrev pub fits : Option ValueKind → Option ValueKind → Bool
fits a b =
    (is_integer a && is_integer b) || ((is_object a && (is_object b || is_null b))
    || (is_text a && (is_text b || is_null b)))

-- `==`: two integers, two objects, or a pointer and NULL
abbrev pub comparable : Option ValueKind → Option ValueKind → Bool
comparable a b =
    (is_integer a && is_integer b) || ((is_object a && is_object b)
    || ((is_null a && is_pointer b) || (is_pointer a && is_null b)))

-- both branches of `?:` are integers, or objects, or texts; beside a NULL the other is a pointer
abbrev pub joinable : Option ValueKind → Option ValueKind → Bool
joinable a b = comparable a b || (is_text a && is_text b)

abbrev pub struct_part : Option ValueKind → Option Name
struct_part (Some (kinds.Object s)) = s
struct_part _ = None

abbrev pub has_same : Option Name → Option Name → Bool
has_same (Some a) (Some b) = a.0 == b.0
has_same _ _ = false

-- the kind of `?:`: over two objects of different structs it has no struct
abbrev pub joined_kind : Option ValueKind → Option ValueKind → Option ValueKind
joined_kind a b =
    (if is_integer a && is_integer b then Some (wider a b) else
    (if is_null a then b else
    (if is_null b then a else
    (if is_text a then a else
    (if has_same (struct_part a) (struct_part b) then a else Some (kinds.Object None))))))

abbrev pub both_known : Option ValueKind → Option ValueKind → Bool
both_known a b = is_some a && is_some b

-- arithmetic on a pointer
abbrev pub on_pointers : Punct → Option ValueKind → Option ValueKind → Bool
on_pointers m a b = is_arithmetic m && (is_pointer a || is_pointer b)

abbrev pub assigns_pointers : Punct → Option ValueKind → Option ValueKind → Bool
assigns_pointers m a b = is_arithmetic_assign m && (is_pointer a || is_pointer b)
