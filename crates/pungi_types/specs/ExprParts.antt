-- Where rules hold in the node of an expression, by the kinds of its operands (C11 6.5).
--   used_of k e          the value of an expression of this kind is used
--   word_findings m p    a word that means this
--   step_findings p place k e    `++` or `--` after an operand
--   binary_findings p m k a l b, assign_findings p m place k a l b, cond_findings p j c k a l b    operators between
--   operands of these kinds
--   made_findings to p k e    `PyObject_New` of this type, with an argument of this kind
--   special_in r         the rule of its own that a row has, if there is a row and it has one
--   fixed_met o n all front    the arguments before the format are there and fit, where a call has n arguments of which
--   so many fit before the first that doesn't; all do where there is no format
--   call_findings env p f es fixed all    a call whose arguments before the format are met or not, and all of them
use Rattle.std.specs.Prelude.{ℕ, nat_lt, nat_le, Bool, ◌&&◌, ◌||◌, not, Option, Some, None}
use Rattle.pungi_base.specs.declared.pos.Pos.{Pos}
use Rattle.pungi_base.specs.declared.punct.Punct.{Punct}
use Rattle.pungi_tree.specs.Syntax.{Expr, Exprs}
use Rattle.pungi_api.specs.declared.row.Row.{Row}
use Rattle.pungi_api.specs.declared.special.Special.{Special}
use Rattle.pungi_types.specs.Names.{Env, Meaning}
use Rattle.pungi_types.specs.Findings.{Findings, ◌and◌, when, when_some}
use Rattle.pungi_types.specs.Operators.{is_bits, is_bits_assign, is_pointer, is_void, on_pointers, assigns_pointers}
use Rattle.pungi_types.specs.Calls.{is_word, callee, takes_arguments, special_form, call_format, made_wrong}
use Rattle.pungi_types.specs.Exprs.{void_call, operand, is_function_meaning, is_unknown, unary_wrong, binary_wrong}
use Rattle.pungi_types.specs.Exprs.{assign_wrong, cond_wrong, is_unknown_call, is_value_called}
use Rattle.pungi_types.specs.Formats.{format_pos}
use Rattle.pungi_types.specs.declared.kind.ValueKind.{ValueKind}
use Rattle.pungi_types.specs.declared.operator.Prefix.TheVariants as prefixes

abbrev pub used_of : Option ValueKind → Expr → Findings
used_of k e = when_some (is_void k) (void_call e) 10

abbrev pub word_findings : Meaning → Pos → Findings
word_findings m p = when (is_function_meaning m) p 3 and when (is_unknown m) p 9

abbrev pub step_findings : Pos → Bool → Option ValueKind → Expr → Findings
step_findings p place k e =
    when (unary_wrong prefixes.Step place (operand k e)) p 10 and (used_of k e and when (is_pointer k) p 13)

abbrev pub binary_findings : Pos → Punct → Option ValueKind → Expr → Option ValueKind → Expr → Findings
binary_findings p m k a l b =
    when (is_bits m) p 2 and (when (binary_wrong m (operand k a) (operand l b)) p 10
    and ((used_of k a and used_of l b) and when (on_pointers m k l) p 13))

abbrev pub assign_findings : Pos → Punct → Bool → Option ValueKind → Expr → Option ValueKind → Expr → Findings
assign_findings p m place k a l b =
    when (is_bits_assign m) p 2 and (when (assign_wrong m place (operand k a) (operand l b)) p 10
    and ((used_of k a and used_of l b) and when (assigns_pointers m k l) p 13))

abbrev pub cond_findings : Pos → Option ValueKind → Expr → Option ValueKind → Expr → Option ValueKind → Expr → Findings
cond_findings p j c k a l b =
    when (cond_wrong (operand j c) (operand k a) (operand l b)) p 10 and (used_of j c and (used_of k a and used_of l b))

abbrev pub made_findings : Option ValueKind → Pos → Option ValueKind → Expr → Findings
made_findings to p k e = when (made_wrong to (operand k e)) p 10 and used_of k e

abbrev pub special_in : Option Row → Option Special
special_in None = None
special_in (Some r) = special_form r.form

abbrev pub fixed_met : Option ℕ → ℕ → Bool → ℕ → Bool
fixed_met None n all front = all
fixed_met (Some i) n all front = nat_lt i n && nat_le i front

abbrev pub call_findings : Env → Pos → Expr → Exprs → Bool → Bool → Findings
call_findings env p f es fixed all =
    when (not (is_word f)) p 3 and (when (is_unknown_call env (callee env f)) p 9
    and (when (is_value_called (callee env f) || (takes_arguments (callee env f) && not fixed)) p 10
    and when_some (fixed && not all) (format_pos (call_format (callee env f)) es) 11))
