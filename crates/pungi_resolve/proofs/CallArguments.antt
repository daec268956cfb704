-- The arguments of a call that is sound are sound.
use Rattle.std.proofs.Common.{◌≡◌, ℕ, true, List, Option, Some, None, refl}
use Rattle.pungi_base.specs.declared.names.Name.{Name}
use Rattle.pungi_base.specs.declared.pos.Pos.{Pos}
use Rattle.pungi_tree.specs.Syntax.{Exprs}
use Rattle.pungi_api.specs.declared.param.Param.{Param}
use Rattle.pungi_api.specs.declared.row.Row.{Row}
use Rattle.pungi_api.specs.declared.signature.Signature.{Signature}
use Rattle.pungi_api.specs.declared.special.Special.{Special}
use Rattle.pungi_api.specs.declared.special.Special.TheVariants as specials
use Rattle.pungi_types.specs.Calls.{Callee, defined, a_row, special_form}
use Rattle.pungi_types.specs.Formats.{arg_at, format_at}
use Rattle.pungi_types.specs.Names.{Env}
use Rattle.pungi_resolved.specs.Values.{Value, Values, no_values, value_and}
use Rattle.pungi_resolved.specs.declared.output_step.OutputStep.{OutputStep}
use Rattle.pungi_resolve.specs.Exprs.{call_value, special_value}
use Rattle.pungi_resolve.specs.Outputs.{and_last, number_in_front, parse_ending, unpack_ending, position_local}
use Rattle.pungi_resolve.specs.Outputs.{built_signature, ending_value, next_from, built_value}
use Rattle.pungi_resolve.specs.Sound.{is_sound, are_sound}
use Rattle.pungi_resolve.specs.declared.outputs.Ending.{Ending}
use Rattle.pungi_resolve.proofs.Clean.{and_true, and_left, and_right}

ending-args : (p : Pos) (n : Name) (o : Option Ending) (vs : Values) → is_sound (ending_value p n o vs) ≡ true
    → are_sound vs ≡ true
ending-args p n None vs h = absurd (cc)
ending-args p n (Some e) vs h = h

built-args : (p : Pos) (n : Name) (o : Option Signature) (vs : Values) → is_sound (built_value p n o vs) ≡ true
    → are_sound vs ≡ true
built-args p n None vs h = absurd (cc)
built-args p n (Some e) vs h = h

last-args : (vs : Values) (v : Value) → are_sound (and_last vs v) ≡ true → are_sound vs ≡ true
last-args no_values v h = refl
last-args (value_and w vs) v h =
    and_true _ _ (and_left (is_sound w) (are_sound (and_last vs v)) h)
    (last-args vs v (and_right (is_sound w) (are_sound (and_last vs v)) h))

next-args : (o : Option ℕ) (p : Pos) (n : Name) (outs : List OutputStep) (vs : Values)
    → is_sound (next_from o p n outs vs) ≡ true → are_sound vs ≡ true
next-args None p n outs vs h = absurd (cc)
next-args (Some x) p n outs vs h = last-args vs _ h

special-args : (s : Option Special) (env : Env) (p : Pos) (r : Row) (n : Name) (es : Exprs) (given : List Param)
    (outs : List OutputStep) (vs : Values) → is_sound (special_value s env p r n es given outs vs) ≡ true
    → are_sound vs ≡ true
special-args (Some specials.ParseTuple) env p r n es given outs vs h =
    ending-args p n (parse_ending (format_at env.file.texts 1 es) outs) vs h
special-args (Some specials.UnpackTuple) env p r n es given outs vs h =
    ending-args p n (unpack_ending (number_in_front (arg_at 2 es)) outs) vs h
special-args (Some specials.DictNext) env p r n es given outs vs h = next-args (position_local outs) p n outs vs h
special-args (Some specials.BuildValue) env p r n es given outs vs h =
    built-args p n (built_signature (format_at env.file.texts 0 es)) vs h
special-args _ env p r n es given outs vs h = h

pub call-args : (env : Env) (p : Pos) (c : Callee) (n : Name) (es : Exprs) (given : List Param)
    (outs : List OutputStep) (vs : Values) → is_sound (call_value env p c n es given outs vs) ≡ true
    → are_sound vs ≡ true
call-args env p (defined d) n es given outs vs h = h
call-args env p (a_row r) n es given outs vs h = special-args (special_form r.form) env p r n es given outs vs h
call-args env p _ n es given outs vs h = absurd (cc)
