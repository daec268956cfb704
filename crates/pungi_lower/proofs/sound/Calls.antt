-- What is sound for the layout of a call, from its arguments.
use Rattle.std.proofs.Common.{◌≡◌, ℕ, ◌<◌, Bool, true, false, List, [], ◌∷◌, Option, Some, None, refl, ap, ◌+◌, ◌++◌}
use Rattle.std.proofs.Common.{◌⊎◌, inl, inr, length, max, sym, subst}
use Rattle.std.specs.Prelude.{◌&&◌, ◌||◌, not, is_some, is_none, if◌then◌else◌, ℤ, pos, negsuc, nat_le, nat_lt}
use Rattle.pungi_base.specs.declared.names.Name.{Name}
use Rattle.pungi_base.specs.declared.pos.Pos.{Pos}
use Rattle.pungi_tree.specs.Syntax.{Expr, Item, text, Exprs, no_exprs, expr_and, Params, params, ParamDecls, no_params}
use Rattle.pungi_tree.specs.Syntax.{param_and, param_decl}
use Rattle.pungi_api.specs.declared.answer.Answer.{Answer}
use Rattle.pungi_api.specs.declared.answer.Answer.TheVariants as answers
use Rattle.pungi_api.specs.declared.param.Param.{Param}
use Rattle.pungi_api.specs.declared.row.Form.{Form}
use Rattle.pungi_api.specs.declared.row.Form.TheVariants as forms
use Rattle.pungi_api.specs.declared.row.Row.{Row}
use Rattle.pungi_api.specs.declared.special.Special.{Special}
use Rattle.pungi_api.specs.declared.special.Special.TheVariants as specials
use Rattle.pungi_api.specs.Signatures.{own_answer, form_signature, signature_of, simple_signature, build_signature}
use Rattle.pungi_api.specs.Signatures.{parse_params, unpack_params}
use Rattle.pungi_types.specs.declared.kind.ValueKind.{ValueKind}
use Rattle.pungi_types.specs.declared.kind.ValueKind.TheVariants as kinds
use Rattle.pungi_types.specs.declared.local.Local.{Local}
use Rattle.pungi_types.specs.declared.wants.Want.{Want}
use Rattle.pungi_types.specs.declared.wants.Want.TheVariants as wanted
use Rattle.pungi_types.specs.Names.{Env}
use Rattle.pungi_types.specs.Operators.{is_integer, is_void, is_object, is_text, fits}
use Rattle.pungi_types.specs.Calls.{is_place, is_module_address, argument_form, Callee, no_word, a_value, defined}
use Rattle.pungi_types.specs.Calls.{a_row, no_function, is_module_form, is_place_form, is_count_form, is_null_form}
use Rattle.pungi_types.specs.Calls.{wants_module, wants_place, first_met, row_kind, result_kind, is_limit_form}
use Rattle.pungi_types.specs.Calls.{wants_output, other_wants, special_form, call_wants, kind_want, param_kind}
use Rattle.pungi_types.specs.Calls.{param_wants, params_wants}
use Rattle.pungi_types.specs.Exprs.{kind_of}
use Rattle.pungi_resolve.specs.Exprs.{resolve, place_of, convert, or_int, call_value, module_address, want_kind}
use Rattle.pungi_resolve.specs.Exprs.{resolve_all, special_value}
use Rattle.pungi_types.specs.Formats.{expr_pos, is_few, format_at, arg_at, param_want}
use Rattle.pungi_resolved.specs.Values.{Value, Values, emptied, no_values, value_and, read, local_place, called_row}
use Rattle.pungi_resolve.proofs.Clean.{and_right}
use Rattle.pungi_resolve.proofs.SoundExprs.{Good}
use Rattle.pungi_layout.specs.code.Parts.{has_value, has_call_value, gives}
use Rattle.pungi_layout.specs.code.Sound.{IsSound, AreSound, AreWritten}
use Rattle.pungi_lower.proofs.Written.{form_written, module_written, null_written, count_written, required}
use Rattle.pungi_lower.proofs.Written.{table_address, limit_written, argument}
use Rattle.pungi_format.specs.InFormat.{in_fault, in_format}
use Rattle.pungi_format.specs.OutFormat.{out_fault, out_units}
use Rattle.pungi_api.specs.declared.param.Param.TheVariants as param
use Rattle.pungi_resolve.specs.Outputs.{written_local, output_of, outputs_of, ends_if, unit_steps, parser_steps}
use Rattle.pungi_resolve.specs.Outputs.{position_local, ending_value, next_from, built_value, and_last, number_in_front}
use Rattle.pungi_resolve.specs.Outputs.{parse_value, unpack_value, build_value}
use Rattle.pungi_resolved.specs.declared.output_step.OutputStep.{OutputStep}
use Rattle.pungi_resolved.specs.declared.output_step.OutputStep.TheVariants.{Ends, Writes}
use Rattle.pungi_resolve.proofs.Argued.{IsArgued, AreArgued, ToLocal, output-local, position-local, optional-local}
use Rattle.pungi_lower.proofs.kinds.Calls.{is_made}
use Rattle.pungi_lower.proofs.kinds.Arguments.{is_literal, Takes, AreTaken, as_said, of_kind, counted, limited}
use Rattle.pungi_lower.proofs.kinds.Arguments.{formatted, anything, closing, cleared}
use Rattle.pungi_lower.proofs.kinds.Formats.{form_params, row_taken}
use Rattle.pungi_lower.proofs.sound.Parts.{IsBelow, HasNumbers, Works, Given, convert-works, module-works}

-- .. what a call writes
pub written-after : (n : ℕ) (xs ys : List OutputStep) → AreWritten n xs → AreWritten n ys → AreWritten n (xs ++ ys)
written-after n [] ys h k = k
written-after n (Ends i gives ∷ xs) ys h k = written-after n xs ys h k
written-after n (Writes x a ∷ xs) ys h k = (h.0, written-after n xs ys h.1 k)

ends-written : (n : ℕ) (b : Bool) (i : ℤ) (gives : Bool) → AreWritten n (ends_if b i gives)
ends-written n true i gives = tt
ends-written n false i gives = tt

and-unit : (n : ℕ) (o : OutputStep) (outs rest : List OutputStep) → AreWritten n (o ∷ outs) → AreWritten n rest
    → AreWritten n (o ∷ rest)
and-unit n (Ends i gives) outs rest h k = k
and-unit n (Writes x a) outs rest h k = (h.0, k)

other-units : (n : ℕ) (o : OutputStep) (outs : List OutputStep) → AreWritten n (o ∷ outs) → AreWritten n outs
other-units n (Ends i gives) outs h = h
other-units n (Writes x a) outs h = h.1

units-written : (n least : ℕ) (fails : Bool) (i : ℕ) (outs : List OutputStep) → AreWritten n outs
    → AreWritten n (unit_steps least fails i outs)
units-written n least fails i [] h = tt
units-written n least fails i (o ∷ outs) h =
    let rest = units-written n least fails (i + 1) outs (other-units n o outs h) in
    written-after n (ends_if (nat_le least i) (pos i) true) _ (ends-written n (nat_le least i) (pos i) true)
    (written-after n (ends_if (fails && nat_lt 0 i) (negsuc i) false) _
    (ends-written n (fails && nat_lt 0 i) (negsuc i) false)
    (and-unit n o outs (unit_steps least fails (i + 1) outs) h rest))

parser-written : (n least : ℕ) (fails : Bool) (outs : List OutputStep) → AreWritten n outs
    → AreWritten n (parser_steps least fails outs)
parser-written n least fails outs h = units-written n least fails 0 outs h

position-written : (n : ℕ) (outs : List OutputStep) → AreWritten n outs → (x : ℕ) → position_local outs ≡ Some x
    → x < n
position-written n [] h x e = absurd (cc)
position-written n (Ends i gives ∷ outs) h x e = absurd (cc)
position-written n (Writes y a ∷ outs) h x e =
    let same : y ≡ x = cc in
    subst (λ (z : ℕ). z < n) same h.0

module _ (n : ℕ) (env : Env) (has : HasNumbers n env) where
  one-written : (a : Answer) (e : Expr) → ToLocal env a e → AreWritten n (written_local env a e)
  one-written a e l =
      let b = subst (λ (o : Option Local). IsBelow n o) l.there (has.locals l.name) in
      subst (λ (steps : List OutputStep). AreWritten n steps) (sym l.steps) (b, tt)

  optional-written : (a : Answer) (e : Expr) → (written_local env a e ≡ []) ⊎ ToLocal env a e
      → AreWritten n (written_local env a e)
  optional-written a e (inl h) = subst (λ (steps : List OutputStep). AreWritten n steps) (sym h) tt
  optional-written a e (inr l) = one-written a e l

  first-written : (ws : List Want) (e : Expr) → IsArgued env ws e → AreWritten n (output_of env ws e)
  first-written (wanted.Output a ∷ ws) e h = one-written a e (output-local env a ws e h)
  first-written (wanted.OptionalOutput a ∷ ws) e h = optional-written a e (optional-local env a ws e h)
  first-written (wanted.Position ∷ ws) e h = one-written answers.AnySize e (position-local env ws e h)
  first-written _ e h = tt

  pub outputs-written : (ws : List Want) (es : Exprs) → AreArgued env ws es → AreWritten n (outputs_of env ws es)
  outputs-written ws no_exprs h = tt
  outputs-written ws (expr_and e es) h =
      written-after n (output_of env ws e) (outputs_of env (other_wants ws) es) (first-written ws e h.0)
      (outputs-written (other_wants ws) es h.1)

-- .. calls
plain-gives : (a : Answer) → is_void (Some (row_kind forms.Plain a)) ≡ false → has_value a ≡ true
plain-gives answers.Void h = absurd (cc)
plain-gives _ h = refl

own-gives : (s : Special) (a : Answer) → is_made (forms.Special s) ≡ false
    → is_void (Some (row_kind (forms.Special s) a)) ≡ false → has_call_value (own_answer s) ≡ true
own-gives specials.ParseTuple a m h = absurd (cc)
own-gives specials.UnpackTuple a m h = absurd (cc)
own-gives specials.DictNext a m h = absurd (cc)
own-gives specials.BuildValue a m h = absurd (cc)
own-gives specials.NewRef a m h = refl
own-gives specials.XNewRef a m h = refl
own-gives specials.TuplePack a m h = refl
own-gives specials.CallFunctionObjArgs a m h = refl
own-gives specials.ErrFormat a m h = refl
own-gives _ a m h = absurd (cc)

row-gives : (f : Form) (row : Row) (given : List Param) → is_made f ≡ false
    → is_void (Some (row_kind f row.answer)) ≡ false → has_call_value (form_signature f row given).answer ≡ true
row-gives forms.Plain row given m h = plain-gives row.answer h
row-gives (forms.Special s) row given m h = own-gives s row.answer m h

-- .. one that is made of a format or of the number of its arguments
module _ (n : ℕ) where
  ending-works : (p : Pos) (w : Name) (ps : List Param) (a : Answer) (steps : List OutputStep) (b void : Bool)
      (vs : Values) → has_value a ≡ true → AreSound n vs → AreWritten n steps
      → Given n (ending_value p w (if b then Some (record { signature = simple_signature ps a; steps = steps }) else
      None) vs) void
  ending-works p w ps a steps true void vs g s o = record { sound = (s, o, g); gives = λ x. refl }
  ending-works p w ps a steps false void vs g s o = record { sound = tt; gives = λ x. refl }

  parse-works : (p : Pos) (w : Name) (o : Option (List ℕ)) (outs : List OutputStep) (vs : Values) (void : Bool)
      → AreSound n vs → AreWritten n outs → Given n (parse_value p w o outs vs) void
  parse-works p w None outs vs void s k = record { sound = tt; gives = λ x. refl }
  parse-works p w (Some bytes) outs vs void s k =
      ending-works p w (parse_params (in_format bytes).units) (answers.Converted (max 1 (length outs))
      (in_format bytes).required (length outs)) (parser_steps (in_format bytes).required true outs)
      (is_none (in_fault bytes) && (is_few (length outs) && is_few (in_format bytes).required)) void vs refl s
      (parser-written n (in_format bytes).required true outs k)

  unpack-works : (p : Pos) (w : Name) (least : ℕ) (outs : List OutputStep) (vs : Values) (void : Bool)
      → AreSound n vs → AreWritten n outs → Given n (unpack_value p w least outs vs) void
  unpack-works p w least outs vs void s k =
      ending-works p w unpack_params (answers.Converted 1 least (length outs)) (parser_steps least false outs)
      (is_few (length outs) && is_few least) void vs refl s (parser-written n least false outs k)

  last-works : (vs : Values) (v : Value) → AreSound n vs → gives v ≡ true → IsSound n v → AreSound n (and_last vs v)
  last-works no_values v h g s = (g, s, tt)
  last-works (value_and w vs) v h g s = (h.0, h.1, last-works vs v h.2 g s)

  next-works : (p : Pos) (w : Name) (o : Option ℕ) (outs : List OutputStep) (vs : Values) (void : Bool)
      → AreSound n vs → AreWritten n outs → ((x : ℕ) → o ≡ Some x → x < n) → Given n (next_from o p w outs vs) void
  next-works p w None outs vs void s k f = record { sound = tt; gives = λ x. refl }
  next-works p w (Some x) outs vs void s k f = record {
    sound = (last-works vs (read p kinds.Size (local_place p x)) s refl (f x refl), k, refl);
    gives = λ x. refl;
  }

  built-works : (p : Pos) (w : Name) (bytes : List ℕ) (b : Bool) (vs : Values) (void : Bool) → AreSound n vs
      → Given n (built_value p w (if b then Some (build_signature (out_units bytes)) else None) vs) void
  built-works p w bytes true vs void s = record { sound = (s, refl); gives = λ x. refl }
  built-works p w bytes false vs void s = record { sound = tt; gives = λ x. refl }

  build-works : (p : Pos) (w : Name) (o : Option (List ℕ)) (vs : Values) (void : Bool) → AreSound n vs
      → Given n (build_value p w o vs) void
  build-works p w None vs void s = record { sound = tt; gives = λ x. refl }
  build-works p w (Some bytes) vs void s = built-works p w bytes (is_none (out_fault bytes)) vs void s

  -- .. a row
  same-form : (p : Pos) (w : Name) (row : Row) (f : Form) (given : List Param) (vs : Values) → row.form ≡ f
      → is_made f ≡ false → AreSound n vs
      → Given n (called_row p w (signature_of row given) vs) (is_void (Some (row_kind f row.answer)))
  same-form p w row f given vs e m s = record {
    sound = s;
    gives = λ x. subst (λ (g : Form). has_call_value (form_signature g row given).answer ≡ true) (sym e)
        (row-gives f row given m x);
  }

  form-works : (env : Env) (p : Pos) (w : Name) (row : Row) (f : Form) (es : Exprs) (given : List Param)
      (outs : List OutputStep) (vs : Values) → row.form ≡ f → AreSound n vs → AreWritten n outs
      → Given n (special_value (special_form f) env p row w es given outs vs) (is_void (Some (row_kind f row.answer)))
  form-works env p w row (forms.Special specials.ParseTuple) es given outs vs e s k =
      parse-works p w (format_at env.file.texts 1 es) outs vs false s k
  form-works env p w row (forms.Special specials.UnpackTuple) es given outs vs e s k =
      unpack-works p w (number_in_front (arg_at 2 es)) outs vs false s k
  form-works env p w row (forms.Special specials.DictNext) es given outs vs e s k =
      next-works p w (position_local outs) outs vs false s k (position-written n outs k)
  form-works env p w row (forms.Special specials.BuildValue) es given outs vs e s k =
      build-works p w (format_at env.file.texts 0 es) vs false s
  form-works env p w row forms.Plain es given outs vs e s k = same-form p w row forms.Plain given vs e refl s
  form-works env p w row (forms.Special x) es given outs vs e s k =
      same-form p w row (forms.Special x) given vs e refl s

  pub callee-works : (env : Env) (c : Callee) (p : Pos) (w : Name) (es : Exprs) (given : List Param)
      (outs : List OutputStep) (vs : Values) → AreSound n vs → AreWritten n outs
      → Given n (call_value env p c w es given outs vs) (is_void (result_kind env c))
  callee-works env (defined d) p w es given outs vs s k = record { sound = s; gives = λ x. ap not x }
  callee-works env (a_row r) p w es given outs vs s k = form-works env p w r r.form es given outs vs refl s k
  callee-works env no_word p w es given outs vs s k = record { sound = tt; gives = λ x. refl }
  callee-works env a_value p w es given outs vs s k = record { sound = tt; gives = λ x. refl }
  callee-works env no_function p w es given outs vs s k = record { sound = tt; gives = λ x. refl }

pub met-same : (w m : Bool) (k : Option ValueKind) → w ≡ true → m ≡ true
    → is_void (if w && m then k else None) ≡ false → is_void k ≡ false
met-same true true k e f h = h
met-same _ _ k e f h = absurd (cc)

-- .. formats among the arguments
abbrev pub wants_format : List Want → Bool
wants_format (wanted.Format b ∷ ws) = true
wants_format _ = false

-- each is a literal
abbrev pub AreLiterals : List Want → Exprs → Type 0
AreLiterals ws no_exprs = Unit {0}
AreLiterals ws (expr_and e es) = (wants_format ws ≡ true → is_literal e ≡ true) × AreLiterals (other_wants ws) es

no-output : (w : Want) (ws : List Want) → wants_output (w ∷ ws) ≡ true → wants_format (w ∷ ws) ≡ true → ⊥
no-output (wanted.Format b) ws h k = cc
no-output (wanted.Output a) ws h k = cc
no-output (wanted.OptionalOutput a) ws h k = cc
no-output wanted.Position ws h k = cc
no-output _ ws h k = cc

no-format : (v w : Want) (ws : List Want) → v ≡ w → wants_format (w ∷ ws) ≡ false → wants_format (v ∷ ws) ≡ true → ⊥
no-format v w ws e f h =
    let k = subst (λ (u : Want). wants_format (u ∷ ws) ≡ true) e h in cc

param-format : (p : Param) (ws : List Want) → wants_format (param_want p ∷ ws) ≡ false
param-format param.Int ws = refl
param-format param.Long ws = refl
param-format param.Size ws = refl
param-format param.Text ws = refl
param-format param.TextOrNull ws = refl
param-format param.Object ws = refl
param-format param.ObjectOrNull ws = refl
param-format param.ModuleDef ws = refl

literal-taken : (env : Env) (w : Want) (p : Param) (e : Expr) (ws : List Want) → Takes env w p e
    → wants_format (w ∷ ws) ≡ true → is_literal e ≡ true
literal-taken env w p e ws (formatted b i j l) h = l
literal-taken env w p e ws (as_said i) h = absurd (no-format w (param_want p) ws i (param-format p ws) h)
literal-taken env w p e ws (of_kind k j i l) h = absurd (no-format w (wanted.OfKind k) ws i refl h)
literal-taken env w p e ws (counted n i j) h = absurd (no-format w (wanted.Count n) ws i refl h)
literal-taken env w p e ws (limited n i j) h = absurd (no-format w (wanted.AtMost n) ws i refl h)
literal-taken env w p e ws (anything i j) h = absurd (no-format w wanted.Anything ws i refl h)
literal-taken env w p e ws (closing i j) h = absurd (no-format w wanted.NullConstant ws i refl h)
literal-taken env w p e ws (cleared i j) h = absurd (no-format w wanted.ObjectPlace ws i refl h)

literals-taken : (env : Env) (ws : List Want) (ps : List Param) (es : Exprs) → AreTaken env ws ps es → AreLiterals ws es
literals-taken env ws ps no_exprs k = tt
literals-taken env [] [] (expr_and e es) k = (λ h. absurd (cc), literals-taken env [] [] es tt)
literals-taken env [] (p ∷ ps) (expr_and e es) k = absurd k
literals-taken env (w ∷ ws) [] (expr_and e es) k =
    (λ h. absurd (no-output w ws k.0 h), literals-taken env ws [] es k.1)
literals-taken env (w ∷ ws) (p ∷ ps) (expr_and e es) (inl k) =
    (λ h. absurd (no-output w ws k.0 h), literals-taken env ws (p ∷ ps) es k.1)
literals-taken env (w ∷ ws) (p ∷ ps) (expr_and e es) (inr k) =
    (λ h. literal-taken env w p e ws k.0 h, literals-taken env ws ps es k.1)

kind-format : (k : Option ValueKind) (ws : List Want) → wants_format (kind_want k ∷ ws) ≡ false
kind-format None ws = refl
kind-format (Some k) ws = refl

none-literals : (es : Exprs) → AreLiterals [] es
none-literals no_exprs = tt
none-literals (expr_and e es) = (λ h. absurd (cc), none-literals es)

decls-literals : (file : List Item) (ds : ParamDecls) (es : Exprs) → AreLiterals (param_wants file ds) es
decls-literals file ds no_exprs = tt
decls-literals file no_params (expr_and e es) = none-literals (expr_and e es)
decls-literals file (param_and (param_decl qs s d) ds) (expr_and e es) = (
  λ h. absurd (no-format _ _ (param_wants file ds) refl (kind-format (param_kind file s d) (param_wants file ds)) h),
  decls-literals file ds es,
)

definition-literals : (file : List Item) (ps : Params) (es : Exprs) → AreLiterals (params_wants file ps) es
definition-literals file (params ds v dots) es = decls-literals file ds es

pub call-literals : (env : Env) (c : Callee) (es : Exprs) → AreArgued env (call_wants env c es) es
    → AreLiterals (call_wants env c es) es
call-literals env (a_row r) es x =
    literals-taken env (call_wants env (a_row r) es) (form_params env r.form r es) es (row_taken env r.form r es x)
call-literals env (defined d) es x = definition-literals env.file.items d.params es
call-literals env no_word es x = none-literals es
call-literals env a_value es x = none-literals es
call-literals env no_function es x = none-literals es

-- .. arguments
none_or : (x y z : Bool) → ((x && false) || ((y && (false || false)) || (z && (false || false)))) ≡ true → ⊥
none_or true true true h = cc
none_or true true false h = cc
none_or true false true h = cc
none_or true false false h = cc
none_or false true true h = cc
none_or false true false h = cc
none_or false false true h = cc
none_or false false false h = cc

pub fits-not_void : (a k : Option ValueKind) → fits a k ≡ true → is_void k ≡ false
fits-not_void a (Some kinds.Void) h = absurd (none_or (is_integer a) (is_object a) (is_text a) h)
fits-not_void a _ h = refl

kind-met : (w : ValueKind) (k : Option ValueKind) → (is_none k || fits (Some w) k) ≡ true → is_void k ≡ false
kind-met w None h = refl
kind-met w (Some k) h = fits-not_void (Some w) (Some k) h

anything-met : (b : Bool) → not b ≡ true → b ≡ false
anything-met false h = refl
anything-met true h = absurd (cc)

integer-not_void : (k : Option ValueKind) → is_integer k ≡ true → is_void k ≡ false
integer-not_void (Some kinds.Void) h = absurd (cc)
integer-not_void _ h = refl

no-table : (m : Bool) → m ≡ true → m ≡ false → ⊥
no-table true h e = cc
no-table false h e = cc

literal-not_void : (env : Env) (e : Expr) → is_literal e ≡ true → is_void (kind_of env e) ≡ false
literal-not_void env (text p ns) h = refl
literal-not_void env _ h = absurd (cc)

arg-not_void : (env : Env) (ws : List Want) (e : Expr) → wants_output ws ≡ false
    → (wants_format ws ≡ true → is_literal e ≡ true)
    → first_met ws (argument_form env e) (kind_of env e) ≡ true
    → (wants_module ws && is_module_address env e) ≡ false → is_some (kind_of env e) ≡ true
    → is_void (kind_of env e) ≡ false
arg-not_void env [] e o l h n s = absurd (cc)
arg-not_void env (wanted.Anything ∷ ws) e o l h n s = anything-met (is_void (kind_of env e)) h
arg-not_void env (wanted.OfKind w ∷ ws) e o l h n s = kind-met w (kind_of env e) h
arg-not_void env (wanted.ModuleTable ∷ ws) e o l h n s =
    absurd (no-table (is_module_address env e) (table_address (is_module_address env e)
    (is_module_form (argument_form env e)) (kind_of env e) (λ x. s) (module_written env e (argument_form env e)
    (form_written env e)) h) n)
arg-not_void env (wanted.ObjectPlace ∷ ws) e o l h n s =
    let o = fits (Some (kinds.Object None)) (kind_of env e) in
    fits-not_void (Some (kinds.Object None)) (kind_of env e) (and_right (is_place_form (argument_form env e)) o
    (required (kind_of env e) (is_place_form (argument_form env e) && o) s h))
arg-not_void env (wanted.Count m ∷ ws) e o l h n s =
    integer-not_void (kind_of env e) (count_written env e m (argument_form env e) (form_written env e) (required
    (kind_of env e) (is_count_form m (argument_form env e)) s h) s)
arg-not_void env (wanted.AtMost m ∷ ws) e o l h n s =
    integer-not_void (kind_of env e) (limit_written env e m (argument_form env e) (form_written env e) (required
    (kind_of env e) (is_limit_form m (argument_form env e)) s h) s)
arg-not_void env (wanted.Format b ∷ ws) e o l h n s = literal-not_void env e (l refl)
arg-not_void env (wanted.Output a ∷ ws) e o l h n s = absurd (cc)
arg-not_void env (wanted.OptionalOutput a ∷ ws) e o l h n s = absurd (cc)
arg-not_void env (wanted.Position ∷ ws) e o l h n s = absurd (cc)
arg-not_void env (wanted.NullConstant ∷ ws) e o l h n s =
    ap is_void (null_written env e (argument_form env e) (form_written env e) (required (kind_of env e)
    (is_null_form (argument_form env e)) s h))

-- a place that is emptied, or a value
other-works : (n : ℕ) (env : Env) (ws : List Want) (e : Expr) (b : Bool) → (wants_place ws && is_place env e) ≡ b
    → is_void (kind_of env e) ≡ false → Works n env e
    → Given n (if b then emptied (expr_pos e) (or_int (kind_of env e)) (place_of env e) else convert (expr_pos e)
    (want_kind ws) (kind_of env e) (resolve env e)) false
other-works n env ws e true t k w =
    record { sound = w.place (and_right (wants_place ws) (is_place env e) t); gives = λ x. refl }
other-works n env ws e false t k w =
    convert-works n (expr_pos e) (want_kind ws) (kind_of env e) (resolve env e) (w.gives k) w.sound

pub arg-works : (n : ℕ) (env : Env) (ws : List Want) (e : Expr) (b : Bool)
    → (wants_module ws && is_module_address env e) ≡ b → wants_output ws ≡ false
    → (wants_format ws ≡ true → is_literal e ≡ true)
    → first_met ws (argument_form env e) (kind_of env e) ≡ true
    → (b ≡ false → Good env e) → (b ≡ false → Works n env e)
    → Given n (if b then module_address e else (if wants_place ws && is_place env e then emptied (expr_pos e)
    (or_int (kind_of env e)) (place_of env e) else convert (expr_pos e) (want_kind ws) (kind_of env e)
    (resolve env e))) false
arg-works n env ws e true t o l m g w = module-works n e
arg-works n env ws e false t o l m g w =
    other-works n env ws e (wants_place ws && is_place env e) refl (arg-not_void env ws e o l m t (g refl).known)
    (w refl)

-- what the call writes has no value
pub all-works : (n : ℕ) (env : Env) (ws : List Want) (e : Expr) (es : Exprs) (b : Bool) → wants_output ws ≡ b
    → (b ≡ false → Given n (argument env ws e) false) → AreSound n (resolve_all env (other_wants ws) es)
    → AreSound n (if b then resolve_all env (other_wants ws) es else value_and (argument env ws e)
    (resolve_all env (other_wants ws) es))
all-works n env ws e es true t g h = h
all-works n env ws e es false t g h = let x = g refl in (x.gives refl, x.sound, h)
