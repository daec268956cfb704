-- Which choices are accepted, and what they mean (Python/C API Reference Manual 3.11). A choice that isn't accepted
-- counts as a missing one.
--   value_of c                    the value that a choice stands for
--   is_null, is_text c            a choice is NULL, or a text
--   is_object_choice n c                 it is one of the n objects that are there, or the next one
--   is_next n c                   it is the next one
--   is_between low high n         a number is in this range
--   is_number low high c          a choice is such a number
--   is_conversion failures least most c  an argument parser ends so
--   is_accepted n answer c        a call with this answer accepts it, where there are n objects
--   choose n answer choices       the value that such a call returns
--   answer_of n answer choices    what it returns, and how many choices it uses
use Rattle.std.specs.Prelude.{ℕ, ◌-◌, ◌^◌, ◌==◌, ℤ, pos, negsuc, int_le, nat_le, nat_lt, Bool, true, false, ◌&&◌, ◌||◌}
use Rattle.std.specs.Prelude.{List, [], ◌∷◌, Option, None, Some, Result, Ok, Err, if◌then◌else◌}
use Rattle.pungi_base.specs.declared.value.Value.{Value}
use Rattle.pungi_base.specs.declared.value.Value.TheVariants as value
use Rattle.pungi_base.specs.declared.choice.Choice.{Choice}
use Rattle.pungi_base.specs.declared.choice.Choice.TheVariants as choice
use Rattle.pungi_api.specs.declared.answer.Answer.{Answer}
use Rattle.pungi_api.specs.declared.answer.Answer.TheVariants as answer
use Rattle.pungi_world.specs.declared.halt.Halt.{Halt}
use Rattle.pungi_world.specs.declared.halt.Halt.TheVariants.{NeedsChoice}
use Rattle.pungi_world.specs.Effects.{◌>>=◌}

-- an argument parser that succeeded gives how many units it converted, and one that failed after k of them gives
-- -1 - k
abbrev pub value_of : Choice → Value
value_of choice.Null = value.Null
value_of (choice.Object k) = value.Object k
value_of (choice.Int n) = value.Int n
value_of choice.Text = value.Text
value_of (choice.Given k) = value.Int (pos k)
value_of (choice.Failed k) = value.Int (negsuc k)

abbrev pub is_null : Choice → Bool
is_null choice.Null = true
is_null c = false

abbrev pub is_text : Choice → Bool
is_text choice.Text = true
is_text c = false

abbrev pub is_object_choice : ℕ → Choice → Bool
is_object_choice n (choice.Object k) = nat_le k n
is_object_choice n c = false

abbrev pub is_next : ℕ → Choice → Bool
is_next n (choice.Object k) = k == n
is_next n c = false

abbrev pub is_between : ℤ → ℤ → ℤ → Bool
is_between low high n = int_le low n && int_le n high

abbrev pub is_number : ℤ → ℤ → Choice → Bool
is_number low high (choice.Int n) = is_between low high n
is_number low high c = false

abbrev pub is_conversion : ℕ → ℕ → ℕ → Choice → Bool
is_conversion failures least most (choice.Given k) = nat_le least k && nat_le k most
is_conversion failures least most (choice.Failed k) = nat_lt k failures
is_conversion failures least most c = false

-- `int` has 32 bits, `long` and `Py_ssize_t` have 64
abbrev pub is_accepted : ℕ → Answer → Choice → Bool
is_accepted n answer.New c = is_null c || is_object_choice n c
is_accepted n answer.Borrowed c = is_null c || is_object_choice n c
is_accepted n answer.BorrowedSure c = is_object_choice n c
is_accepted n answer.Status c = is_number (negsuc 0) (pos 0) c
is_accepted n answer.Truth c = is_number (negsuc 0) (pos 1) c
is_accepted n answer.Size c = is_number (negsuc 0) (pos (2 ^ 63 - 1)) c
is_accepted n answer.Int c = is_number (negsuc (2 ^ 31 - 1)) (pos (2 ^ 31 - 1)) c
is_accepted n answer.Long c = is_number (negsuc (2 ^ 63 - 1)) (pos (2 ^ 63 - 1)) c
is_accepted n answer.Text c = is_null c || is_text c
is_accepted n answer.Void c = false
is_accepted n answer.Null c = false
is_accepted n answer.Found c = is_number (pos 0) (pos 1) c
is_accepted n (answer.Converted failures least most) c = is_conversion failures least most c
is_accepted n answer.AnySize c = is_number (negsuc (2 ^ 63 - 1)) (pos (2 ^ 63 - 1)) c
is_accepted n answer.Flag c = is_number (pos 0) (pos 1) c
is_accepted n answer.TextSure c = is_text c
is_accepted n answer.Made c = is_null c || is_next n c

abbrev pub choose : ℕ → Answer → List Choice → Result Value Halt
choose n a [] = Err NeedsChoice
choose n a (c ∷ choices) = if is_accepted n a c then Ok (value_of c) else Err NeedsChoice

abbrev pub answer_of : ℕ → Answer → List Choice → Result (Option Value × ℕ) Halt
answer_of n answer.Void choices = Ok (None, 0)
answer_of n answer.Null choices = Ok (Some value.Null, 0)
answer_of n a choices = choose n a choices >>= λ x. Ok (Some x, 1)
