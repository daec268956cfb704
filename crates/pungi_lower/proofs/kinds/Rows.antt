-- Calls of rows of the kinds that the rules know, also those that are made of a format or of the number of their
-- arguments.
use Rattle.std.proofs.Common.{◌≡◌, ℕ, ◌<◌, ◌≤◌, ◌^◌, arith, Bool, true, false, List, [], ◌∷◌, ◌++◌, length, max, Option}
use Rattle.std.proofs.Common.{Some, None, refl, ap, sym, subst, ◌∙◌}
use Rattle.std.proofs.lemmas.Bool.Decides.{nat_tests}
use Rattle.std.specs.Prelude.{◌&&◌, is_none, if◌then◌else◌}
use Rattle.pungi_base.specs.declared.names.Name.{Name}
use Rattle.pungi_base.specs.declared.pos.Pos.{Pos}
use Rattle.pungi_tree.specs.Syntax.{Exprs, no_exprs, expr_and}
use Rattle.pungi_format.specs.InFormat.{in_fault, in_format}
use Rattle.pungi_format.specs.OutFormat.{out_units}
use Rattle.pungi_api.specs.Rows.{fits_int, is_row}
use Rattle.pungi_api.specs.Signatures.{signature_of, form_signature, parse_params, unpack_params, next_params}
use Rattle.pungi_api.specs.Signatures.{build_signature}
use Rattle.pungi_api.proofs.SignatureLemmas.{is_simple, is_build, is_null_build}
use Rattle.pungi_api.specs.declared.answer.Answer.TheVariants as answers
use Rattle.pungi_api.specs.declared.param.Param.{Param}
use Rattle.pungi_api.specs.declared.param.Param.TheVariants as param
use Rattle.pungi_api.specs.declared.row.Form.{Form}
use Rattle.pungi_api.specs.declared.row.Form.TheVariants as forms
use Rattle.pungi_api.specs.declared.row.Row.{Row}
use Rattle.pungi_api.specs.declared.special.Special.TheVariants as specials
use Rattle.pungi_types.specs.declared.kind.ValueKind.TheVariants as kinds
use Rattle.pungi_types.specs.Names.{Env}
use Rattle.pungi_types.specs.Calls.{how_many, own_wants, special_form, row_kind, other_wants}
use Rattle.pungi_types.specs.Formats.{is_few, is_fine_out, build_wants, format_at, arg_at}
use Rattle.pungi_resolve.specs.Exprs.{given_params, special_value}
use Rattle.pungi_resolve.specs.Outputs.{outputs_of, position_local, parsed_ending, unpacked_ending, ending_value}
use Rattle.pungi_resolve.specs.Outputs.{built_value, next_from, and_last, number_in_front, parse_value, unpack_value}
use Rattle.pungi_resolve.specs.Outputs.{build_value}
use Rattle.pungi_resolved.specs.Values.{Value, Values, no_values, value_and, read, local_place, called_row}
use Rattle.pungi_resolved.specs.declared.output_step.OutputStep.{OutputStep}
use Rattle.pungi_resolve.proofs.Known.{HasKinds}
use Rattle.pungi_resolve.proofs.Clean.{and_left, and_right}
use Rattle.pungi_resolve.proofs.Argued.{AreArgued, position-local}
use Rattle.pungi_resolve.proofs.SoundCalls.{format-fine}
use Rattle.pungi_layout.proofs.well_formed.Instructions.{le_true}
use Rattle.pungi_layout.specs.kinds.Typed.{Known, IsHeld, IsTyped, IsArgument, AreTyped, AreWritable}
use Rattle.pungi_lower.proofs.kinds.Parts.{Typed}
use Rattle.pungi_lower.proofs.kinds.Words.{HasVars}
use Rattle.pungi_lower.proofs.kinds.Calls.{is_made, row_typed}
use Rattle.pungi_lower.proofs.kinds.Formats.{parsed_params, built_params, form_params, form_wants}
use Rattle.pungi_lower.proofs.kinds.Outputs.{parser_writable, local_held, outputs_writable, parse_write, unpack_write}

parsed_int : (n least : ℕ) → is_few n ≡ true → fits_int (answers.Converted (max 1 n) least n) ≡ true
parsed_int n least h =
    let l : n < 2 ^ 31 = grind (arith, nat_tests) in
    let m : max 1 n ≤ 2 ^ 31 = omega arith in
    rw (le_true (max 1 n) (2 ^ 31) m) h

few_most : (n : ℕ) → is_few n ≡ true → n ≤ 2 ^ 31
few_most n h = grind (arith, nat_tests)

module _ (file : Known) (vars : List Param) where
  -- .. an argument parser
  parse_typed : (p : Pos) (n : Name) (env : Env) (o : Option (List ℕ)) (outs : List OutputStep) (vs : Values)
      → AreTyped file vars (parsed_params env o) vs → AreWritable vars outs
      → Typed file vars (Some kinds.Int) (parse_value p n o outs vs)
  parse_typed p n env None outs vs t w = record { typed = tt; kin = refl }
  parse_typed p n env (Some bytes) outs vs t w =
      let few = is_few (length outs) && is_few (in_format bytes).required in
      elim (is_none (in_fault bytes) && few) as (λ c. (is_none (in_fault bytes) && few) ≡ c
      → Typed file vars (Some kinds.Int) (ending_value p n (if c then Some (parsed_ending (in_format bytes) outs)
      else None) vs)) [
        | true ↦ λ e.
            let i = and_left (is_few (length outs)) (is_few (in_format bytes).required)
            (and_right (is_none (in_fault bytes)) few e) in
            let f = few_most (length outs) i in
            record {
              typed = (
                is_simple (parse_params (in_format bytes).units) (answers.Converted (max 1 (length outs))
                    (in_format bytes).required (length outs))
                    (parsed_int (length outs) (in_format bytes).required i),
                refl,
                refl,
                t,
                parser_writable vars
                    (in_format bytes).required true outs f w,
              );
              kin = refl;
            }
        | false ↦ λ e. record { typed = tt; kin = refl }
      ] refl

  unpack_typed : (p : Pos) (n : Name) (least : ℕ) (outs : List OutputStep) (vs : Values)
      → AreTyped file vars unpack_params vs → AreWritable vars outs
      → Typed file vars (Some kinds.Int) (unpack_value p n least outs vs)
  unpack_typed p n least outs vs t w =
      elim (is_few (length outs) && is_few least) as (λ c. (is_few (length outs) && is_few least) ≡ c
      → Typed file vars (Some kinds.Int) (ending_value p n (if c then Some (unpacked_ending least outs) else None)
      vs)) [
        | true ↦ λ e.
            let i = and_left (is_few (length outs)) (is_few least) e in
            let f = few_most (length outs) i in
            record {
              typed = (
                is_simple unpack_params (answers.Converted 1 least (length outs)) i,
                refl,
                refl,
                t,
                parser_writable vars least false outs f w,
              );
              kin = refl;
            }
        | false ↦ λ e. record { typed = tt; kin = refl }
      ] refl

  -- .. `PyDict_Next`
  last_typed : (ps : List Param) (q : Param) (vs : Values) (v : Value) → AreTyped file vars ps vs → IsArgument q v
      → IsTyped file vars v → AreTyped file vars (ps ++ q ∷ []) (and_last vs v)
  last_typed [] q no_values v h a t = (a, t, tt)
  last_typed (p ∷ ps) q (value_and w vs) v h a t = (h.0, h.1, last_typed ps q vs v h.2 a t)
  last_typed [] q (value_and w vs) v h a t = absurd h
  last_typed (p ∷ ps) q no_values v h a t = absurd h

  next_typed : (p : Pos) (n : Name) (o : Option ℕ) (outs : List OutputStep) (vs : Values)
      → ((x : ℕ) → o ≡ Some x → IsHeld vars x param.Size) → AreTyped file vars (param.Object ∷ []) vs
      → AreWritable vars outs → Typed file vars (Some kinds.Int) (next_from o p n outs vs)
  next_typed p n None outs vs x t w = record { typed = tt; kin = refl }
  next_typed p n (Some x) outs vs h t w = record {
    typed = (
      is_simple next_params answers.Found refl,
      refl,
      refl,
      last_typed (param.Object ∷ []) param.Size vs
          (read p kinds.Size (local_place p x)) t (omega arith) (refl, h x refl),
      (refl, w),
    );
    kin = refl;
  }

  -- .. `Py_BuildValue`
  build_typed : (p : Pos) (n : Name) (env : Env) (o : Option (List ℕ)) (es : Exprs) (vs : Values)
      → AreArgued env (build_wants o) es → AreTyped file vars (built_params env o) vs
      → Typed file vars (Some (kinds.Object None)) (build_value p n o vs)
  build_typed p n env None es vs a t = let f = format-fine env false [] es a in absurd (cc)
  build_typed p n env (Some bytes) es vs a t =
      let f = format-fine env (is_fine_out bytes) _ es a in
      subst (λ (c : Bool). Typed file vars (Some (kinds.Object None)) (built_value p n
      (if c then Some (build_signature (out_units bytes)) else None) vs)) (sym f) (record {
        typed = (is_build (out_units bytes), is_null_build (out_units bytes), refl, t);
        kin = refl;
      })

-- the local of the position
at_position : (vars : List Param) (env : Env) → HasKinds env → HasVars vars env → (m : ℕ) (es : Exprs)
    → AreArgued env (own_wants specials.DictNext m) es → (x : ℕ)
    → position_local (outputs_of env (own_wants specials.DictNext m) es) ≡ Some x → IsHeld vars x param.Size
at_position vars env h b m no_exprs a x e = absurd (cc)
at_position vars env h b m (expr_and c no_exprs) a x e = absurd (cc)
at_position vars env h b m (expr_and c (expr_and d es)) a x e =
    let l = position-local env _ d a.1.0 in
    let rest = outputs_of env (other_wants (other_wants (own_wants specials.DictNext m))) es in
    let same : position_local (outputs_of env (own_wants specials.DictNext m) (expr_and c (expr_and d es)))
    ≡ Some l.local.number = ap (λ (outs : List OutputStep). position_local (outs ++ rest)) l.steps in
    let there : l.local.number ≡ x = cc in
    subst (λ (y : ℕ). IsHeld vars y param.Size) there (local_held vars env h b answers.AnySize d l)

-- .. a row
module _ (file : Known) (vars : List Param) (env : Env) (has : HasKinds env) (held : HasVars vars env) where
  same_form : (p : Pos) (w : Name) (row : Row) (f : Form) (es : Exprs) (vs : Values) → is_row row ≡ true
      → row.form ≡ f → is_made f ≡ false
      → AreTyped file vars (form_signature f row (given_params env es)).params vs
      → Typed file vars (Some (row_kind f row.answer)) (called_row p w (signature_of row (given_params env es)) vs)
  same_form p w row f es vs r e m t =
      let P : Form → Type 0 = λ g. AreTyped file vars (form_signature g row (given_params env es)).params vs in
      let Q : Form → Type 0 = λ g. Typed file vars (Some (row_kind g row.answer)) (called_row p w
      (signature_of row (given_params env es)) vs) in
      subst Q e (row_typed file vars p w row (given_params env es) vs r (ap is_made e ∙ m) (subst P (sym e) t))

  pub form_typed : (p : Pos) (w : Name) (row : Row) (f : Form) (es : Exprs) (vs : Values) → is_row row ≡ true
      → row.form ≡ f → AreArgued env (form_wants env f row es) es → AreTyped file vars (form_params env f row es) vs
      → Typed file vars (Some (row_kind f row.answer)) (special_value (special_form f) env p row w es
      (given_params env es) (outputs_of env (form_wants env f row es) es) vs)
  form_typed p w row (forms.Special specials.ParseTuple) es vs r e a t =
      let ws = form_wants env (forms.Special specials.ParseTuple) row es in
      parse_typed file vars p w env (format_at env.file.texts 1 es) (outputs_of env ws es) vs t (outputs_writable vars
      env has held ws es (parse_write (format_at env.file.texts 1 es)) a)
  form_typed p w row (forms.Special specials.UnpackTuple) es vs r e a t =
      let ws = form_wants env (forms.Special specials.UnpackTuple) row es in
      unpack_typed file vars p w (number_in_front (arg_at 2 es)) (outputs_of env ws es) vs t (outputs_writable vars
      env has held ws es (unpack_write (how_many es)) a)
  form_typed p w row (forms.Special specials.DictNext) es vs r e a t =
      let ws = own_wants specials.DictNext (how_many es) in
      next_typed file vars p w (position_local (outputs_of env ws es)) (outputs_of env ws es) vs (at_position vars env
      has held (how_many es) es a) t (outputs_writable vars env has held ws es refl a)
  form_typed p w row (forms.Special specials.BuildValue) es vs r e a t =
      build_typed file vars p w env (format_at env.file.texts 0 es) es vs a t
  form_typed p w row forms.Plain es vs r e a t = same_form p w row forms.Plain es vs r e refl t
  form_typed p w row (forms.Special s) es vs r e a t = same_form p w row (forms.Special s) es vs r e refl t
