-- What the rules want of the arguments of a row is what it takes, also where a format or the number of the arguments
-- says it.
--   literal_there         a format is a literal
--   parsed_params, built_params o    what a call takes with this format
--   form_params f env row es         what a row takes as values: of `PyDict_Next` that is the dict
--   form_wants f env row es          what is wanted of its arguments
use Rattle.std.proofs.Common.{◌≡◌, ℕ, zero, suc, ◌-◌, Bool, true, false, List, [], ◌∷◌, map, replicate, Option, Some}
use Rattle.std.proofs.Common.{None, inr, refl}
use Rattle.std.specs.Prelude.{if◌then◌else◌}
use Rattle.pungi_tree.specs.Syntax.{Expr, text, Exprs, no_exprs, expr_and}
use Rattle.pungi_format.specs.InFormat.{in_format}
use Rattle.pungi_format.specs.OutFormat.{out_units}
use Rattle.pungi_format.specs.declared.in_unit.InUnit.{InUnit}
use Rattle.pungi_format.specs.declared.in_unit.InUnit.TheVariants as unit
use Rattle.pungi_api.specs.Signatures.{form_signature, unit_param, typed_params, parse_params, unpack_params}
use Rattle.pungi_api.specs.declared.answer.Answer.{Answer}
use Rattle.pungi_api.specs.declared.answer.Answer.TheVariants as answers
use Rattle.pungi_api.specs.declared.param.Param.{Param}
use Rattle.pungi_api.specs.declared.param.Param.TheVariants as param
use Rattle.pungi_api.specs.declared.row.Form.{Form}
use Rattle.pungi_api.specs.declared.row.Form.TheVariants as forms
use Rattle.pungi_api.specs.declared.row.Row.{Row}
use Rattle.pungi_api.specs.declared.special.Special.TheVariants as specials
use Rattle.pungi_types.specs.declared.wants.Want.{Want}
use Rattle.pungi_types.specs.declared.wants.Want.TheVariants as wanted
use Rattle.pungi_types.specs.Names.{Env}
use Rattle.pungi_types.specs.Calls.{a_row, how_many, own_wants, special_form, special_wants}
use Rattle.pungi_types.specs.Formats.{is_few, is_fine_in, is_fine_out, in_wants, parsed_wants, parse_wants, built_wants}
use Rattle.pungi_types.specs.Formats.{build_wants, format_at, literal_of, an_object}
use Rattle.pungi_resolve.specs.Exprs.{given_params}
use Rattle.pungi_resolve.proofs.Argued.{AreArgued}
use Rattle.pungi_resolve.proofs.SoundCalls.{format-fine, parse-fine, limits, few-argued}
use Rattle.pungi_lower.proofs.kinds.Arguments.{is_literal, AreTaken, as_said, counted, limited, formatted, output_taken}
use Rattle.pungi_lower.proofs.kinds.Arguments.{params_taken, cleared_taken, packed_taken, called_taken, format_taken}

literal_there : (texts : List (List ℕ)) (e : Expr) (bytes : List ℕ) → literal_of texts e ≡ Some bytes
    → is_literal e ≡ true
literal_there texts (text p ns) bytes h = refl
literal_there texts _ bytes h = absurd (cc)

module _ (env : Env) where
  -- .. `PyArg_ParseTuple`
  abbrev pub parsed_params : Option (List ℕ) → List Param
  parsed_params None = []
  parsed_params (Some bytes) = parse_params (in_format bytes).units

  one_taken : (a : Answer) (us : List InUnit) (ps : List Param) (es : Exprs)
      → ((rest : Exprs) → AreTaken env (in_wants us) ps rest)
      → AreTaken env (wanted.Output a ∷ in_wants us) ps es
  one_taken a us ps no_exprs f = tt
  one_taken a us ps (expr_and e es) f = output_taken env (wanted.Output a) (in_wants us) ps e es refl (f es)

  units_taken : (us : List InUnit) (es : Exprs) → AreTaken env (in_wants us) (typed_params us) es
  units_taken [] es = tt
  units_taken (unit.Object ∷ us) es = one_taken answers.BorrowedSure us (typed_params us) es (units_taken us)
  units_taken (unit.ObjectOf ∷ us) no_exprs = tt
  units_taken (unit.ObjectOf ∷ us) (expr_and e es) =
      inr (as_said refl, one_taken answers.BorrowedSure us (typed_params us) es (units_taken us))
  units_taken (unit.Int ∷ us) es = one_taken answers.Int us (typed_params us) es (units_taken us)
  units_taken (unit.Long ∷ us) es = one_taken answers.Long us (typed_params us) es (units_taken us)
  units_taken (unit.Size ∷ us) es = one_taken answers.AnySize us (typed_params us) es (units_taken us)
  units_taken (unit.Truth ∷ us) es = one_taken answers.Flag us (typed_params us) es (units_taken us)
  units_taken (unit.Text ∷ us) es = one_taken answers.TextSure us (typed_params us) es (units_taken us)
  units_taken (unit.TextOrNull ∷ us) es = one_taken answers.Text us (typed_params us) es (units_taken us)

  parsed_taken : (bytes : List ℕ) (b : Bool) (es : Exprs) → b ≡ true
      → AreTaken env (parsed_wants b bytes) (typed_params (in_format bytes).units) es
  parsed_taken bytes true es h = units_taken (in_format bytes).units es
  parsed_taken bytes false es h = absurd (cc)

  fine_taken : (bytes : List ℕ) (b : Bool) (es : Exprs) → format_at env.file.texts 1 es ≡ Some bytes → b ≡ true
      → AreTaken env (an_object ∷ wanted.Format b ∷ parsed_wants b bytes) (parse_params (in_format bytes).units) es
  fine_taken bytes b no_exprs t h = tt
  fine_taken bytes b (expr_and d no_exprs) t h = inr (as_said refl, tt)
  fine_taken bytes b (expr_and d (expr_and e es)) t h =
      let l = literal_there env.file.texts e bytes t in
      inr (as_said refl, inr (formatted b refl refl l, parsed_taken bytes b es h))

  parse_taken : (o : Option (List ℕ)) (es : Exprs) → format_at env.file.texts 1 es ≡ o
      → AreArgued env (parse_wants o) es → AreTaken env (parse_wants o) (parsed_params o) es
  parse_taken None es t h = let f = parse-fine env an_object false [] es h in absurd (cc)
  parse_taken (Some bytes) es t h =
      fine_taken bytes (is_fine_in bytes) es t (parse-fine env an_object (is_fine_in bytes) _ es h)

  -- .. `Py_BuildValue`
  abbrev pub built_params : Option (List ℕ) → List Param
  built_params None = []
  built_params (Some bytes) = param.Text ∷ map unit_param (out_units bytes)

  built_taken : (bytes : List ℕ) (b : Bool) (es : Exprs) → b ≡ true
      → AreTaken env (built_wants b bytes) (map unit_param (out_units bytes)) es
  built_taken bytes true es h = params_taken env (map unit_param (out_units bytes)) es
  built_taken bytes false es h = absurd (cc)

  values_taken : (bytes : List ℕ) (b : Bool) (es : Exprs) → format_at env.file.texts 0 es ≡ Some bytes → b ≡ true
      → AreTaken env (wanted.Format b ∷ built_wants b bytes) (param.Text ∷ map unit_param (out_units bytes)) es
  values_taken bytes b no_exprs t h = tt
  values_taken bytes b (expr_and e es) t h =
      inr (formatted b refl refl (literal_there env.file.texts e bytes t), built_taken bytes b es h)

  build_taken : (o : Option (List ℕ)) (es : Exprs) → format_at env.file.texts 0 es ≡ o
      → AreArgued env (build_wants o) es → AreTaken env (build_wants o) (built_params o) es
  build_taken None es t h = let f = format-fine env false [] es h in absurd (cc)
  build_taken (Some bytes) es t h =
      values_taken bytes (is_fine_out bytes) es t (format-fine env (is_fine_out bytes) _ es h)

  -- .. `PyArg_UnpackTuple`
  items_taken : (m : ℕ) (es : Exprs) → AreTaken env (replicate m (wanted.Output answers.BorrowedSure)) [] es
  items_taken zero es = tt
  items_taken (suc m) no_exprs = tt
  items_taken (suc m) (expr_and e es) = (refl, items_taken m es)

  limits_taken : (n : ℕ) (es : Exprs) → AreTaken env (limits n) unpack_params es
  limits_taken n no_exprs = tt
  limits_taken n (expr_and c no_exprs) = inr (as_said refl, tt)
  limits_taken n (expr_and c (expr_and d no_exprs)) = inr (as_said refl, inr (as_said refl, tt))
  limits_taken n (expr_and c (expr_and d (expr_and e no_exprs))) =
      inr (as_said refl, inr (as_said refl, inr (limited (n - 4) refl refl, tt)))
  limits_taken n (expr_and c (expr_and d (expr_and e (expr_and f es)))) =
      inr (
        as_said refl,
        inr (
          as_said refl,
          inr (
            limited (n - 4) refl refl,
            inr (
              counted (n - 4) refl refl,
              items_taken (n - 4) es,
            ),
          ),
        ),
      )

  unpack_taken : (b : Bool) (es : Exprs) → is_few (how_many es) ≡ b
      → AreArgued env (if b then limits (how_many es) else []) es
      → AreTaken env (if b then limits (how_many es) else []) unpack_params es
  unpack_taken true es f h = limits_taken (how_many es) es
  unpack_taken false es f h = absurd (few-argued env es f h)

  -- .. `PyDict_Next`
  variables_taken : (es : Exprs)
      → AreTaken env (wanted.Position ∷ wanted.OptionalOutput answers.BorrowedSure
      ∷ wanted.OptionalOutput answers.BorrowedSure ∷ []) [] es
  variables_taken no_exprs = tt
  variables_taken (expr_and c no_exprs) = (refl, tt)
  variables_taken (expr_and c (expr_and d no_exprs)) = (refl, (refl, tt))
  variables_taken (expr_and c (expr_and d (expr_and e es))) = (refl, (refl, (refl, tt)))

  next_taken : (n : ℕ) (es : Exprs) → AreTaken env (own_wants specials.DictNext n) (param.Object ∷ []) es
  next_taken n no_exprs = tt
  next_taken n (expr_and e es) = inr (as_said refl, variables_taken es)

  -- .. a row
  abbrev pub form_params : Form → Row → Exprs → List Param
  form_params (forms.Special specials.ParseTuple) row es = parsed_params (format_at env.file.texts 1 es)
  form_params (forms.Special specials.BuildValue) row es = built_params (format_at env.file.texts 0 es)
  form_params (forms.Special specials.UnpackTuple) row es = unpack_params
  form_params (forms.Special specials.DictNext) row es = param.Object ∷ []
  form_params f row es = (form_signature f row (given_params env es)).params

  abbrev pub form_wants : Form → Row → Exprs → List Want
  form_wants f row es = special_wants (special_form f) env (a_row (record row { form = f })) es

  pub row_taken : (f : Form) (row : Row) (es : Exprs) → AreArgued env (form_wants f row es) es
      → AreTaken env (form_wants f row es) (form_params f row es) es
  row_taken forms.Plain row es h = params_taken env row.params es
  row_taken (forms.Special specials.ParseTuple) row es h = parse_taken (format_at env.file.texts 1 es) es refl h
  row_taken (forms.Special specials.BuildValue) row es h = build_taken (format_at env.file.texts 0 es) es refl h
  row_taken (forms.Special specials.UnpackTuple) row es h = unpack_taken (is_few (how_many es)) es refl h
  row_taken (forms.Special specials.DictNext) row es h = next_taken (how_many es) es
  row_taken (forms.Special specials.IncRef) row es h = params_taken env (param.Object ∷ []) es
  row_taken (forms.Special specials.DecRef) row es h = params_taken env (param.Object ∷ []) es
  row_taken (forms.Special specials.NewRef) row es h = params_taken env (param.Object ∷ []) es
  row_taken (forms.Special specials.Clear) row es h = cleared_taken env es
  row_taken (forms.Special specials.TuplePack) row es h = packed_taken env es
  row_taken (forms.Special specials.CallFunctionObjArgs) row es h = called_taken env es
  row_taken (forms.Special specials.ErrFormat) row es h = format_taken env es
  row_taken (forms.Special _) row es h = params_taken env (param.ObjectOrNull ∷ []) es
