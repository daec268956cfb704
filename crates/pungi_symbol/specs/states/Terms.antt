-- What tokens stand for, and what is known of them.
--   Table                    the values of the tokens: the static objects, then the arguments, then the choices; and
--                            the results of the computations that are no sums
--   value_at vs t, at table t    the value of a token
--   computed_at table j      the result of a computation
--   low_of, high_of r        the least and the greatest number of a range
--   is_zero_node, is_same_node, is_computed    a node is the number 0; two nodes are the same; a node is the result of
--                            a computation
--   NodeBelow n x            a node is no result of a computation, or that of one of the first n
--   node_value table n       the number at a node
--   sum_value table s        the number that a sum stands for
--   content_of table x       what a term stands for
--   is_mark m v              a mark is true of a value
--   outcomes_of_mark m       the answers to whether a token is NULL, in order
--   failed_after, converted_to    how an argument parser ends, by a number: it failed after so many units, or converted
--                            so many
--   conversions failures least most    the ways in which an argument parser ends: it fails after fewer units than this,
--                            or it converts from the least number of them to the most
--   outcomes_of_answer a     the outcomes that a call may have, in order
--   place_of ms v            the number of the answer that a value is
--   mark_at ms k             the mark that an answer leaves
--   value_of_mark m          a value that a mark is true of, where it is known what the value is
use Rattle.std.specs.Prelude.{ℕ, suc, ◌-◌, ◌^◌, ◌==◌, ◌<◌, ℤ, pos, negsuc, ◌+ℤ◌, Bool, true, false, List, [], ◌∷◌, get_or}
use Rattle.std.specs.Prelude.{◌++◌, map, if◌then◌else◌}
use Rattle.std.specs.List.{range_with_len}
use Rattle.std.specs.Ordering.{int_eq}
use Rattle.pungi_base.specs.declared.value.Value.{Value}
use Rattle.pungi_base.specs.declared.value.Value.TheVariants as value
use Rattle.pungi_api.specs.declared.answer.Answer.{Answer}
use Rattle.pungi_api.specs.declared.answer.Answer.TheVariants as answer
use Rattle.pungi_world.specs.declared.content.Content.{Content}
use Rattle.pungi_world.specs.declared.content.Content.TheVariants as content
use Rattle.pungi_world.specs.Choices.{is_between}
use Rattle.pungi_meaning.specs.Values.{number_of}
use Rattle.pungi_symbol.specs.declared.states.integer_range.IntegerRange.{IntegerRange}
use Rattle.pungi_symbol.specs.declared.states.integer_range.IntegerRange.TheVariants as ranges
use Rattle.pungi_symbol.specs.declared.states.node.Node.{Node}
use Rattle.pungi_symbol.specs.declared.states.node.Node.TheVariants as nodes
use Rattle.pungi_symbol.specs.declared.states.sum.Sum.{Sum as SumOf}
use Rattle.pungi_symbol.specs.declared.states.term.Term.{Term}
use Rattle.pungi_symbol.specs.declared.states.term.Term.TheVariants.{Unset, Null, Text, Number, Token, Sum}
use Rattle.pungi_symbol.specs.declared.states.mark.Mark.{Mark}
use Rattle.pungi_symbol.specs.declared.states.mark.Mark.TheVariants.{Pointer, TextPointer, IsNull, IsObject, IsText}
use Rattle.pungi_symbol.specs.declared.states.mark.Mark.TheVariants.{IsNumber, IsConverted, Integer}

-- a computation that is no sum may count as any number
pub record Table : Type 0 where
  pub values : List Value
  pub computed : List ℤ

abbrev pub value_at : List Value → ℕ → Value
value_at values t = get_or values t value.Null

abbrev pub at : Table → ℕ → Value
at table t = value_at table.values t

abbrev pub computed_at : Table → ℕ → ℤ
computed_at table j = get_or table.computed j (pos 0)

abbrev pub low_of : IntegerRange → ℤ
low_of ranges.Int = negsuc (2 ^ 31 - 1)
low_of ranges.Long = negsuc (2 ^ 63 - 1)
low_of ranges.SizeOrError = negsuc 0
low_of ranges.Flag = pos 0

abbrev pub high_of : IntegerRange → ℤ
high_of ranges.Int = pos (2 ^ 31 - 1)
high_of ranges.Long = pos (2 ^ 63 - 1)
high_of ranges.SizeOrError = pos (2 ^ 63 - 1)
high_of ranges.Flag = pos 1

abbrev pub is_zero_node : Node → Bool
is_zero_node nodes.Zero = true
is_zero_node (nodes.Token t) = false
is_zero_node (nodes.Computed j) = false

abbrev pub is_same_node : Node → Node → Bool
is_same_node nodes.Zero b = is_zero_node b
is_same_node (nodes.Token t) (nodes.Token u) = t == u
is_same_node (nodes.Token t) nodes.Zero = false
is_same_node (nodes.Token t) (nodes.Computed j) = false
is_same_node (nodes.Computed i) (nodes.Computed j) = i == j
is_same_node (nodes.Computed i) nodes.Zero = false
is_same_node (nodes.Computed i) (nodes.Token t) = false

abbrev pub is_computed : Node → Bool
is_computed nodes.Zero = false
is_computed (nodes.Token t) = false
is_computed (nodes.Computed j) = true

abbrev pub NodeBelow : ℕ → Node → Type 0
NodeBelow n nodes.Zero = Unit {0}
NodeBelow n (nodes.Token t) = Unit {0}
NodeBelow n (nodes.Computed j) = j < n

abbrev pub node_value : Table → Node → ℤ
node_value table nodes.Zero = pos 0
node_value table (nodes.Token t) = number_of (at table t)
node_value table (nodes.Computed j) = computed_at table j

abbrev pub sum_value : Table → SumOf → ℤ
sum_value table s = node_value table s.node +ℤ s.plus

abbrev pub content_of : Table → Term → Content
content_of table Unset = content.Unset
content_of table Null = content.Holds value.Null
content_of table Text = content.Holds value.Text
content_of table (Number n) = content.Holds (value.Int n)
content_of table (Token t) = content.Holds (at table t)
content_of table (Sum s) = content.Holds (value.Int (sum_value table s))

abbrev pub is_mark : Mark → Value → Bool
is_mark Pointer value.Null = true
is_mark Pointer (value.Object k) = true
is_mark Pointer (value.Int n) = false
is_mark Pointer value.Text = false
is_mark TextPointer value.Null = true
is_mark TextPointer (value.Object k) = false
is_mark TextPointer (value.Int n) = false
is_mark TextPointer value.Text = true
is_mark IsNull value.Null = true
is_mark IsNull (value.Object k) = false
is_mark IsNull (value.Int n) = false
is_mark IsNull value.Text = false
is_mark IsObject value.Null = false
is_mark IsObject (value.Object k) = true
is_mark IsObject (value.Int n) = false
is_mark IsObject value.Text = false
is_mark IsText value.Null = false
is_mark IsText (value.Object k) = false
is_mark IsText (value.Int n) = false
is_mark IsText value.Text = true
is_mark (IsNumber m) value.Null = false
is_mark (IsNumber m) (value.Object k) = false
is_mark (IsNumber m) (value.Int n) = int_eq n m
is_mark (IsNumber m) value.Text = false
is_mark (IsConverted m) value.Null = false
is_mark (IsConverted m) (value.Object k) = false
is_mark (IsConverted m) (value.Int n) = int_eq n m
is_mark (IsConverted m) value.Text = false
is_mark (Integer r) value.Null = false
is_mark (Integer r) (value.Object k) = false
is_mark (Integer r) (value.Int n) = is_between (low_of r) (high_of r) n
is_mark (Integer r) value.Text = false

abbrev pub outcomes_of_mark : Mark → List Mark
outcomes_of_mark Pointer = IsNull ∷ IsObject ∷ []
outcomes_of_mark TextPointer = IsNull ∷ IsText ∷ []
outcomes_of_mark IsNull = []
outcomes_of_mark IsObject = []
outcomes_of_mark IsText = []
outcomes_of_mark (IsNumber n) = []
outcomes_of_mark (IsConverted n) = []
outcomes_of_mark (Integer r) = Integer r ∷ []

abbrev pub failed_after : ℕ → Mark
failed_after k = IsConverted (negsuc k)

abbrev pub converted_to : ℕ → Mark
converted_to k = IsConverted (pos k)

abbrev pub conversions : ℕ → ℕ → ℕ → List Mark
conversions failures least most =
    map failed_after (range_with_len 0 failures) ++ map converted_to (range_with_len least (suc most - least))

-- a call that always returns an object has one outcome, and so has one that returns a number which answers don't tell
-- apart
abbrev pub outcomes_of_answer : Answer → List Mark
outcomes_of_answer answer.New = IsNull ∷ IsObject ∷ []
outcomes_of_answer answer.Borrowed = IsNull ∷ IsObject ∷ []
outcomes_of_answer answer.BorrowedSure = IsObject ∷ []
outcomes_of_answer answer.Status = IsNumber (pos 0) ∷ IsNumber (negsuc 0) ∷ []
outcomes_of_answer answer.Truth = IsNumber (pos 1) ∷ IsNumber (pos 0) ∷ IsNumber (negsuc 0) ∷ []
outcomes_of_answer answer.Text = IsNull ∷ IsText ∷ []
outcomes_of_answer answer.Size = Integer ranges.SizeOrError ∷ []
outcomes_of_answer answer.Int = Integer ranges.Int ∷ []
outcomes_of_answer answer.Long = Integer ranges.Long ∷ []
outcomes_of_answer answer.Void = []
outcomes_of_answer answer.Null = []
outcomes_of_answer answer.Found = IsNumber (pos 1) ∷ IsNumber (pos 0) ∷ []
outcomes_of_answer (answer.Converted failures least most) = conversions failures least most
outcomes_of_answer answer.AnySize = Integer ranges.Long ∷ []
outcomes_of_answer answer.Flag = Integer ranges.Flag ∷ []
outcomes_of_answer answer.TextSure = IsText ∷ []
outcomes_of_answer answer.Made = IsNull ∷ IsObject ∷ []

abbrev pub place_of : List Mark → Value → ℕ
place_of [] v = 0
place_of (m ∷ ms) v = if is_mark m v then 0 else suc (place_of ms v)

abbrev pub mark_at : List Mark → ℕ → Mark
mark_at ms k = get_or ms k IsNull

abbrev pub value_of_mark : Mark → Value
value_of_mark Pointer = value.Null
value_of_mark TextPointer = value.Null
value_of_mark IsNull = value.Null
value_of_mark IsObject = value.Object 0
value_of_mark IsText = value.Text
value_of_mark (IsNumber n) = value.Int n
value_of_mark (IsConverted n) = value.Int n
value_of_mark (Integer r) = value.Int (pos 0)
