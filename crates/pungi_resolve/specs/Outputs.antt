-- What a call writes, and what comes after it has ended with a number (Python/C API Reference Manual 3.11, 'Parsing
-- arguments and building values').
--   local_output a m, written_local env a e    the local whose address an argument is, which gets such a value
--   output_of env ws e            what the call writes to an argument where these are wanted
--   outputs_of env ws es          .. to its arguments, in order
--   ends_if b n gives             the call returns this where it has ended so, if that can be
--   unit_steps least fails i outs    the units from number i on: an argument parser may have succeeded before a unit from
--                                 the least number on, and before the second one it may have failed
--   parser_steps least fails outs    all that comes after an argument parser
--   number_in_front o             the value of a constant argument
--   and_last vs v                 arguments and one more
--   parsed_ending f outs, parse_ending format outs, unpacked_ending least outs, unpack_ending least outs, next_ending outs
--                                 what the calls take, return and do once they have ended; none where a rule holds in the
--                                 call
--   position_local outs           the local that holds the position of `PyDict_Next`
--   built_signature format        what a call of `Py_BuildValue` takes and returns; none where its format has a fault
--   ending_value, next_from, built_value    the calls, where that is known
--   parse_value, unpack_value, next_value, build_value    the calls
use Rattle.std.specs.Prelude.{ℕ, ◌+◌, ℤ, pos, negsuc, nat_le, nat_lt, max, Bool, true, false, ◌&&◌, List, [], ◌∷◌, ◌++◌}
use Rattle.std.specs.Prelude.{length, Option, Some, None, is_none, if◌then◌else◌}
use Rattle.pungi_base.specs.declared.names.Name.{Name}
use Rattle.pungi_base.specs.declared.pos.Pos.{Pos}
use Rattle.pungi_tree.specs.Syntax.{Expr, word, int, unary, Exprs, no_exprs, expr_and}
use Rattle.pungi_format.specs.InFormat.{in_fault, in_format}
use Rattle.pungi_format.specs.OutFormat.{out_fault, out_units}
use Rattle.pungi_format.specs.declared.in_format.InFormat.{InFormat}
use Rattle.pungi_api.specs.declared.answer.Answer.{Answer}
use Rattle.pungi_api.specs.declared.answer.Answer.TheVariants as answer
use Rattle.pungi_api.specs.declared.signature.Signature.{Signature}
use Rattle.pungi_api.specs.Signatures.{simple_signature, build_signature, parse_params, unpack_params, next_params}
use Rattle.pungi_types.specs.Calls.{other_wants}
use Rattle.pungi_types.specs.Formats.{is_few}
use Rattle.pungi_types.specs.Names.{Env, Meaning, a_local, meaning_of}
use Rattle.pungi_types.specs.declared.kind.ValueKind.TheVariants as kinds
use Rattle.pungi_types.specs.declared.wants.Want.{Want}
use Rattle.pungi_types.specs.declared.wants.Want.TheVariants as wanted
use Rattle.pungi_resolved.specs.declared.output_step.OutputStep.{OutputStep}
use Rattle.pungi_resolved.specs.declared.output_step.OutputStep.TheVariants.{Ends, Writes}
use Rattle.pungi_resolved.specs.Values.{Value, read, called_unless_null, called_with_outputs, nonsense, Values}
use Rattle.pungi_resolved.specs.Values.{no_values, value_and, local_place}
use Rattle.pungi_resolve.specs.declared.outputs.Ending.{Ending}

abbrev pub local_output : Answer → Meaning → List OutputStep
local_output a (a_local l) = Writes l.number a ∷ []
local_output a m = []

abbrev pub written_local : Env → Answer → Expr → List OutputStep
written_local env a (unary p k (word q n)) = local_output a (meaning_of env n.0)
written_local env a e = []

abbrev pub output_of : Env → List Want → Expr → List OutputStep
output_of env (wanted.Output a ∷ ws) e = written_local env a e
output_of env (wanted.OptionalOutput a ∷ ws) e = written_local env a e
output_of env (wanted.Position ∷ ws) e = written_local env answer.AnySize e
output_of env ws e = []

abbrev pub outputs_of : Env → List Want → Exprs → List OutputStep
outputs_of env ws no_exprs = []
outputs_of env ws (expr_and e es) = output_of env ws e ++ outputs_of env (other_wants ws) es

abbrev pub ends_if : Bool → ℤ → Bool → List OutputStep
ends_if true n gives = Ends n gives ∷ []
ends_if false n gives = []

abbrev pub unit_steps : ℕ → Bool → ℕ → List OutputStep → List OutputStep
unit_steps least fails i [] = []
unit_steps least fails i (o ∷ outs) =
    ends_if (nat_le least i) (pos i) true ++ (ends_if (fails && nat_lt 0 i) (negsuc i) false
    ++ o ∷ unit_steps least fails (i + 1) outs)

abbrev pub parser_steps : ℕ → Bool → List OutputStep → List OutputStep
parser_steps least fails outs = Ends (negsuc 0) false ∷ unit_steps least fails 0 outs

abbrev pub number_in_front : Option Expr → ℕ
number_in_front (Some (int p (pos v) l u)) = v
number_in_front _ = 0

abbrev pub and_last : Values → Value → Values
and_last no_values v = value_and v no_values
and_last (value_and w vs) v = value_and w (and_last vs v)

-- ---- what the calls take, return and do once they have ended

abbrev pub parsed_ending : InFormat → List OutputStep → Ending
parsed_ending f outs = record {
  signature = simple_signature (parse_params f.units)
      (answer.Converted (max 1 (length outs)) f.required (length outs));
  steps = parser_steps f.required true outs;
}

abbrev pub parse_ending : Option (List ℕ) → List OutputStep → Option Ending
parse_ending None outs = None
parse_ending (Some format) outs =
    if is_none (in_fault format) && (is_few (length outs) && is_few (in_format format).required)
    then Some (parsed_ending (in_format format) outs) else None

abbrev pub unpacked_ending : ℕ → List OutputStep → Ending
unpacked_ending least outs = record {
  signature = simple_signature unpack_params (answer.Converted 1 least (length outs));
  steps = parser_steps least false outs;
}

abbrev pub unpack_ending : ℕ → List OutputStep → Option Ending
unpack_ending least outs =
    if is_few (length outs) && is_few least then Some (unpacked_ending least outs) else None

abbrev pub next_ending : List OutputStep → Ending
next_ending outs = record {
  signature = simple_signature next_params answer.Found;
  steps = Ends (pos 0) false ∷ outs;
}

abbrev pub position_local : List OutputStep → Option ℕ
position_local (Writes x a ∷ outs) = Some x
position_local outs = None

abbrev pub built_signature : Option (List ℕ) → Option Signature
built_signature None = None
built_signature (Some format) =
    if is_none (out_fault format) then Some (build_signature (out_units format)) else None

-- ---- the calls

abbrev pub ending_value : Pos → Name → Option Ending → Values → Value
ending_value p n None vs = nonsense p
ending_value p n (Some e) vs = called_with_outputs p n e.signature vs e.steps

abbrev pub parse_value : Pos → Name → Option (List ℕ) → List OutputStep → Values → Value
parse_value p n format outs vs = ending_value p n (parse_ending format outs) vs

abbrev pub unpack_value : Pos → Name → ℕ → List OutputStep → Values → Value
unpack_value p n least outs vs = ending_value p n (unpack_ending least outs) vs

-- the position is read where the call stands
abbrev pub next_from : Option ℕ → Pos → Name → List OutputStep → Values → Value
next_from None p n outs vs = nonsense p
next_from (Some x) p n outs vs =
    called_with_outputs p n (next_ending outs).signature (and_last vs (read p kinds.Size (local_place p x)))
    (next_ending outs).steps

abbrev pub next_value : Pos → Name → List OutputStep → Values → Value
next_value p n outs vs = next_from (position_local outs) p n outs vs

abbrev pub built_value : Pos → Name → Option Signature → Values → Value
built_value p n None vs = nonsense p
built_value p n (Some g) vs = called_unless_null p n g vs

abbrev pub build_value : Pos → Name → Option (List ℕ) → Values → Value
build_value p n format vs = built_value p n (built_signature format) vs
