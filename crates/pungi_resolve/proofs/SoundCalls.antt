-- A call in which no rule holds is sound once it is resolved: its format is there and has no fault, it writes few
-- variables, and what it wants of its arguments is there.
use Rattle.std.proofs.Common.{◌≡◌, ℕ, zero, suc, ◌+◌, ◌-◌, ◌≤◌, arith, Bool, true, false, List, [], ◌∷◌}
use Rattle.std.proofs.Common.{◌++◌, length, replicate, Option, Some, None, refl, sym, subst}
use Rattle.std.proofs.Common.{length-append}
use Rattle.std.proofs.lemmas.Bool.Decides.{nat_tests}
use Rattle.std.specs.Prelude.{pos, negsuc, ◌&&◌, ◌||◌, ◌==◌, not, is_some, is_none, if◌then◌else◌}
use Rattle.std.specs.Option.{option_to_list}
use Rattle.std.specs.List.{before_first}
use Rattle.pungi_base.specs.declared.kind.Kind.{Kind}
use Rattle.pungi_base.specs.declared.names.Name.{Name}
use Rattle.pungi_base.specs.declared.pos.Pos.{Pos}
use Rattle.pungi_tree.specs.Syntax.{Expr, word, int, unary, Exprs, no_exprs, expr_and}
use Rattle.pungi_format.specs.InFormat.{in_fault, in_format, units_of, required_of, unit_before, bar_byte, ends_units}
use Rattle.pungi_format.specs.OutFormat.{out_units}
use Rattle.pungi_format.specs.declared.in_unit.InUnit.{InUnit}
use Rattle.pungi_format.specs.declared.in_unit.InUnit.TheVariants as unit
use Rattle.pungi_api.specs.Signatures.{build_signature}
use Rattle.pungi_api.specs.declared.answer.Answer.{Answer}
use Rattle.pungi_api.specs.declared.answer.Answer.TheVariants as answers
use Rattle.pungi_api.specs.declared.param.Param.{Param}
use Rattle.pungi_api.specs.declared.row.Form.{Form}
use Rattle.pungi_api.specs.declared.row.Form.TheVariants as forms
use Rattle.pungi_api.specs.declared.row.Row.{Row}
use Rattle.pungi_api.specs.declared.special.Special.TheVariants as specials
use Rattle.pungi_types.specs.declared.kind.ValueKind.{ValueKind}
use Rattle.pungi_types.specs.declared.kind.ValueKind.TheVariants as kinds
use Rattle.pungi_types.specs.declared.wants.Want.{Want}
use Rattle.pungi_types.specs.declared.wants.Want.TheVariants as wanted
use Rattle.pungi_types.specs.Names.{Env, Meaning, a_local, meaning_of}
use Rattle.pungi_types.specs.Calls.{Callee, no_word, a_value, no_function, takes_arguments, defined, a_row, how_many}
use Rattle.pungi_types.specs.Calls.{call_wants, special_form, special_wants, own_wants, other_wants, argument_form}
use Rattle.pungi_types.specs.Calls.{is_limit_form}
use Rattle.pungi_types.specs.Exprs.{is_value_called, is_call_met, is_unknown_call, kind_of}
use Rattle.pungi_types.specs.Formats.{is_few, is_fine_in, is_fine_out, in_wants, unit_wants, parse_wants, build_wants}
use Rattle.pungi_types.specs.Formats.{parsed_wants, an_object, format_at, arg_at}
use Rattle.pungi_resolve.specs.Exprs.{call_value, special_value}
use Rattle.pungi_resolve.specs.Outputs.{written_local, local_output, output_of, outputs_of, number_in_front, and_last}
use Rattle.pungi_resolve.specs.Outputs.{parse_value, unpack_value, next_value, build_value, parsed_ending}
use Rattle.pungi_resolve.specs.Outputs.{unpacked_ending}
use Rattle.pungi_resolve.specs.Outputs.{ending_value, built_value}
use Rattle.pungi_resolve.specs.Sound.{is_sound, are_sound}
use Rattle.pungi_resolve.proofs.Clean.{and_left, and_right, and_true}
use Rattle.pungi_resolve.proofs.Argued.{AreArgued, position-local}
use Rattle.pungi_resolve.proofs.SoundParts.{is_callable}
use Rattle.pungi_resolved.specs.Values.{Value, Values, no_values, value_and}
use Rattle.pungi_resolved.specs.declared.output_step.OutputStep.{OutputStep}

-- .. how many variables are written
abbrev one_written : Want → ℕ
one_written (wanted.Output a) = 1
one_written (wanted.OptionalOutput a) = 1
one_written wanted.Position = 1
one_written _ = 0

abbrev written_in : List Want → ℕ
written_in [] = 0
written_in (w ∷ ws) = one_written w + written_in ws

meaning-few : (a : Answer) (m : Meaning) → length (local_output a m) ≤ 1
meaning-few a (a_local l) = omega arith
meaning-few a _ = omega arith

under-few : (env : Env) (a : Answer) (p : Pos) (k : Kind) (e : Expr) → length (written_local env a (unary p k e)) ≤ 1
under-few env a p k (word q n) = meaning-few a (meaning_of env n.0)
under-few env a p k _ = omega arith

local-few : (env : Env) (a : Answer) (e : Expr) → length (written_local env a e) ≤ 1
local-few env a (unary p k e) = under-few env a p k e
local-few env a _ = omega arith

first-few : (env : Env) (w : Want) (ws : List Want) (e : Expr) → length (output_of env (w ∷ ws) e) ≤ one_written w
first-few env (wanted.Output a) ws e = local-few env a e
first-few env (wanted.OptionalOutput a) ws e = local-few env a e
first-few env wanted.Position ws e = local-few env answers.AnySize e
first-few env _ ws e = omega arith

outputs-few : (env : Env) (ws : List Want) (es : Exprs) → length (outputs_of env ws es) ≤ written_in ws
outputs-few env ws no_exprs = omega arith
outputs-few env [] (expr_and e es) = outputs-few env [] es
outputs-few env (w ∷ ws) (expr_and e es) =
    let l = length-append (output_of env (w ∷ ws) e) (outputs_of env ws es) in
    let f = first-few env w ws e in
    let g = outputs-few env ws es in
    omega (arith, l, f, g)

pub few-below : (m n : ℕ) → m ≤ n → is_few n ≡ true → is_few m ≡ true
few-below m n h k = grind (arith, nat_tests)

-- .. formats
unit-written : (u : InUnit) (ws : List Want) → written_in (unit_wants u ++ ws) ≡ 1 + written_in ws
unit-written unit.Object ws = omega arith
unit-written unit.ObjectOf ws = omega arith
unit-written unit.Int ws = omega arith
unit-written unit.Long ws = omega arith
unit-written unit.Size ws = omega arith
unit-written unit.Truth ws = omega arith
unit-written unit.Text ws = omega arith
unit-written unit.TextOrNull ws = omega arith

units-written : (us : List InUnit) → written_in (in_wants us) ≡ length us
units-written [] = refl
units-written (u ∷ us) =
    let w = unit-written u (in_wants us) in let l = units-written us in omega (arith, w, l)

required-few : (text : List ℕ) → required_of text ≤ length (units_of text)
required-few [] = omega arith
required-few (b ∷ bs) =
    let l = length-append (option_to_list (unit_before b bs)) (units_of bs) in
    let r = required-few bs in
    elim (b == bar_byte) as (λ c. (if c then 0 else length (option_to_list (unit_before b bs)) + required_of bs)
    ≤ length (units_of (b ∷ bs))) [ true ↦ omega arith | false ↦ omega (arith, l, r) ]

-- the format is there, and has no fault
pub format-fine : (env : Env) (b : Bool) (ws : List Want) (es : Exprs) → AreArgued env (wanted.Format b ∷ ws) es
    → b ≡ true
format-fine env b ws no_exprs h = absurd (cc)
format-fine env b ws (expr_and e es) h = h.0.met

pub parse-fine : (env : Env) (w : Want) (b : Bool) (ws : List Want) (es : Exprs)
    → AreArgued env (w ∷ wanted.Format b ∷ ws) es → b ≡ true
parse-fine env w b ws no_exprs h = absurd (cc)
parse-fine env w b ws (expr_and e es) h = format-fine env b ws es h.1

parsed-sound : (env : Env) (p : Pos) (n : Name) (bytes : List ℕ) (b : Bool) (es : Exprs) (vs : Values)
    → is_fine_in bytes ≡ b → b ≡ true
    → AreArgued env (an_object ∷ wanted.Format b ∷ parsed_wants b bytes) es → are_sound vs ≡ true
    → is_sound (parse_value p n (Some bytes) (outputs_of env (an_object ∷ wanted.Format b ∷ parsed_wants b bytes) es)
    vs) ≡ true
parsed-sound env p n bytes false es vs f e h s = absurd (cc)
parsed-sound env p n bytes true es vs f e h s =
    let outs = outputs_of env (an_object ∷ wanted.Format true ∷ parsed_wants true bytes) es in
    let few = and_right (is_none (in_fault bytes)) (is_few (length (in_format bytes).units)) f in
    let o = outputs-few env (an_object ∷ wanted.Format true ∷ parsed_wants true bytes) es in
    let w = units-written (in_format bytes).units in
    let t : is_none (in_fault bytes) && (is_few (length outs) && is_few (in_format bytes).required) ≡ true =
    and_true _ _ (and_left _ (is_few (length (in_format bytes).units)) f) (and_true _ _
    (few-below (length outs) (length (in_format bytes).units) (omega (arith, o, w)) few)
    (few-below (in_format bytes).required (length (in_format bytes).units)
    (required-few (before_first ends_units bytes)) few)) in
    subst (λ (c : Bool). is_sound (ending_value p n (if c then Some (parsed_ending (in_format bytes) outs) else None) vs)
    ≡ true) (sym t) s

parse-sound : (env : Env) (p : Pos) (n : Name) (o : Option (List ℕ)) (es : Exprs) (vs : Values)
    → AreArgued env (parse_wants o) es → are_sound vs ≡ true
    → is_sound (parse_value p n o (outputs_of env (parse_wants o) es) vs) ≡ true
parse-sound env p n None es vs h s = let f = parse-fine env an_object false [] es h in absurd (cc)
parse-sound env p n (Some bytes) es vs h s =
    parsed-sound env p n bytes (is_fine_in bytes) es vs refl (parse-fine env an_object (is_fine_in bytes) _ es h) h s

built-sound : (p : Pos) (n : Name) (bytes : List ℕ) (vs : Values) → is_fine_out bytes ≡ true → are_sound vs ≡ true
    → is_sound (build_value p n (Some bytes) vs) ≡ true
built-sound p n bytes vs f s =
    subst (λ (c : Bool). is_sound (built_value p n (if c then Some (build_signature (out_units bytes)) else None) vs)
    ≡ true) (sym f) s

build-sound : (env : Env) (p : Pos) (n : Name) (o : Option (List ℕ)) (es : Exprs) (vs : Values)
    → AreArgued env (build_wants o) es → are_sound vs ≡ true → is_sound (build_value p n o vs) ≡ true
build-sound env p n None es vs h s = let f = format-fine env false [] es h in absurd (cc)
build-sound env p n (Some bytes) es vs h s =
    built-sound p n bytes vs (format-fine env (is_fine_out bytes) _ es h) s

-- .. `PyArg_UnpackTuple`
items-written : (n : ℕ) → written_in (replicate n (wanted.Output answers.BorrowedSure)) ≡ n
items-written zero = refl
items-written (suc n) = let l = items-written n in omega (arith, l)

front-few : (env : Env) (m : ℕ) (e : Expr) → is_limit_form m (argument_form env e) ≡ true
    → number_in_front (Some e) ≤ m
front-few env m (int p (pos v) l u) h = grind (arith, nat_tests)
front-few env m (int p (negsuc v) l u) h = omega arith
front-few env m _ h = omega arith

known-limit : (k : Option ValueKind) (b : Bool) → is_some k ≡ true → (is_none k || b) ≡ true → b ≡ true
known-limit None b s h = absurd (cc)
known-limit (Some k) b s h = h

third-few : (env : Env) (v w : Want) (m : ℕ) (ws : List Want) (es : Exprs)
    → AreArgued env (v ∷ w ∷ wanted.AtMost m ∷ ws) es → number_in_front (arg_at 2 es) ≤ m
third-few env v w m ws no_exprs h = absurd (cc)
third-few env v w m ws (expr_and d no_exprs) h = let x = h.1 in absurd (cc)
third-few env v w m ws (expr_and d (expr_and e no_exprs)) h = let x = h.1.1 in absurd (cc)
third-few env v w m ws (expr_and d (expr_and e (expr_and f es))) h =
    front-few env m f (known-limit (kind_of env f) (is_limit_form m (argument_form env f)) (h.1.1.0.known refl)
    h.1.1.0.met)

-- what is wanted of a call with n arguments, which are few
abbrev pub limits : ℕ → List Want
limits n =
    an_object ∷ wanted.OfKind kinds.Text ∷ wanted.AtMost (n - 4) ∷ wanted.Count (n - 4)
    ∷ replicate (n - 4) (wanted.Output answers.BorrowedSure)

-- a call without arguments has few
pub few-argued : (env : Env) (es : Exprs) → is_few (how_many es) ≡ false → AreArgued env [] es → ⊥
few-argued env no_exprs f h = grind (arith, nat_tests)
few-argued env (expr_and e es) f h = let m = h.0.met in cc

unpack-sound : (env : Env) (p : Pos) (n : Name) (b : Bool) (es : Exprs) (vs : Values) → is_few (how_many es) ≡ b
    → AreArgued env (if b then limits (how_many es) else []) es → are_sound vs ≡ true
    → is_sound (unpack_value p n (number_in_front (arg_at 2 es)) (outputs_of env (if b then limits (how_many es) else
    []) es) vs) ≡ true
unpack-sound env p n false es vs f h s = absurd (few-argued env es f h)
unpack-sound env p n true es vs f h s =
    let ws = limits (how_many es) in
    let outs = outputs_of env ws es in
    let least = number_in_front (arg_at 2 es) in
    let o = outputs-few env ws es in
    let w = items-written (how_many es - 4) in
    let l = third-few env an_object (wanted.OfKind kinds.Text) (how_many es - 4) _ es h in
    let t : is_few (length outs) && is_few least ≡ true =
    and_true _ _ (few-below (length outs) (how_many es) (omega (arith, o, w)) f) (few-below least (how_many es)
    (omega (arith, l)) f) in
    subst (λ (c : Bool). is_sound (ending_value p n (if c then Some (unpacked_ending least outs) else None) vs) ≡ true)
    (sym t) s

-- .. `PyDict_Next`
last-sound : (vs : Values) (v : Value) → are_sound vs ≡ true → is_sound v ≡ true → are_sound (and_last vs v) ≡ true
last-sound no_values v h k = and_true _ _ k refl
last-sound (value_and w vs) v h k =
    and_true _ _ (and_left _ _ h) (last-sound vs v (and_right _ _ h) k)

next-sound : (env : Env) (p : Pos) (n : Name) (m : ℕ) (es : Exprs) (vs : Values)
    → AreArgued env (own_wants specials.DictNext m) es → are_sound vs ≡ true
    → is_sound (next_value p n (outputs_of env (own_wants specials.DictNext m) es) vs) ≡ true
next-sound env p n m no_exprs vs h s = absurd (cc)
next-sound env p n m (expr_and d no_exprs) vs h s = let x = h.1 in absurd (cc)
next-sound env p n m (expr_and d (expr_and e es)) vs h s =
    let l = position-local env _ e h.1.0 in
    let rest = outputs_of env (other_wants (other_wants (own_wants specials.DictNext m))) es in
    subst (λ (outs : List OutputStep). is_sound (next_value p n (outs ++ rest) vs) ≡ true) (sym l.steps)
    (last-sound vs _ s refl)

-- .. a call
special-sound : (env : Env) (p : Pos) (r : Row) (f : Form) (n : Name) (es : Exprs) (given : List Param) (vs : Values)
    → AreArgued env (special_wants (special_form f) env (a_row (record r { form = f })) es) es → are_sound vs ≡ true
    → is_sound (special_value (special_form f) env p r n es given (outputs_of env (special_wants (special_form f) env
    (a_row (record r { form = f })) es) es) vs) ≡ true
special-sound env p r (forms.Special specials.ParseTuple) n es given vs h s =
    parse-sound env p n (format_at env.file.texts 1 es) es vs h s
special-sound env p r (forms.Special specials.UnpackTuple) n es given vs h s =
    unpack-sound env p n (is_few (how_many es)) es vs refl h s
special-sound env p r (forms.Special specials.DictNext) n es given vs h s = next-sound env p n (how_many es) es vs h s
special-sound env p r (forms.Special specials.BuildValue) n es given vs h s =
    build-sound env p n (format_at env.file.texts 0 es) es vs h s
special-sound env p r _ n es given vs h s = s

pub call-sound : (env : Env) (c : Callee) (p : Pos) (n : Name) (es : Exprs) (given : List Param) (vs : Values)
    → is_callable c ≡ true → (is_value_called c || (takes_arguments c && not (is_call_met env c es))) ≡ false
    → is_unknown_call env c ≡ false → AreArgued env (call_wants env c es) es → are_sound vs ≡ true
    → is_sound (call_value env p c n es given (outputs_of env (call_wants env c es) es) vs) ≡ true
call-sound env no_word p n es given vs k h u a s = absurd (cc)
call-sound env a_value p n es given vs k h u a s = absurd (cc)
call-sound env no_function p n es given vs k h u a s = absurd (cc)
call-sound env (defined d) p n es given vs k h u a s = s
call-sound env (a_row r) p n es given vs k h u a s = special-sound env p r r.form n es given vs a s
