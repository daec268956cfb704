-- What a call writes is of the kinds of the locals, and what it ends with is a constant.
use Rattle.std.proofs.Common.{◌≡◌, ℕ, zero, suc, ◌+◌, ◌-◌, ◌^◌, ◌≤◌, replicate, arith, Bool, true, false, List, [], ◌∷◌, ◌++◌, length, Option}
use Rattle.std.proofs.Common.{Some, None, inl, inr, ◌⊎◌, refl, sym, subst}
use Rattle.std.specs.Prelude.{ℤ, pos, negsuc, nat_le, nat_lt, ◌&&◌, if◌then◌else◌}
use Rattle.std.specs.List.{list_all}
use Rattle.pungi_tree.specs.Syntax.{Expr, Exprs, no_exprs, expr_and}
use Rattle.pungi_format.specs.InFormat.{in_format}
use Rattle.pungi_format.specs.declared.in_unit.InUnit.{InUnit}
use Rattle.pungi_format.specs.declared.in_unit.InUnit.TheVariants as unit
use Rattle.pungi_api.specs.Rows.{fits_int}
use Rattle.pungi_api.specs.declared.answer.Answer.{Answer}
use Rattle.pungi_api.specs.declared.answer.Answer.TheVariants as answers
use Rattle.pungi_api.specs.declared.param.Param.{Param}
use Rattle.pungi_types.specs.declared.kind.ValueKind.{ValueKind}
use Rattle.pungi_types.specs.declared.kind.ValueKind.TheVariants as kinds
use Rattle.pungi_types.specs.declared.local.Local.{Local}
use Rattle.pungi_types.specs.declared.wants.Want.{Want}
use Rattle.pungi_types.specs.declared.wants.Want.TheVariants as wanted
use Rattle.pungi_types.specs.Formats.{an_object, in_wants, is_few, is_fine_in, parse_wants, parsed_wants, unpack_wants}
use Rattle.pungi_types.specs.Names.{Env}
use Rattle.pungi_types.specs.Calls.{answer_kind, output_fits, other_wants}
use Rattle.pungi_resolve.specs.Outputs.{written_local, output_of, outputs_of, ends_if, unit_steps, parser_steps}
use Rattle.pungi_resolved.specs.declared.output_step.OutputStep.{OutputStep}
use Rattle.pungi_resolved.specs.declared.output_step.OutputStep.TheVariants.{Ends, Writes}
use Rattle.pungi_meaning.specs.Values.{slot_kind}
use Rattle.pungi_code.specs.WellFormed.{is_constant}
use Rattle.pungi_resolve.proofs.Clean.{and_left, and_right}
use Rattle.pungi_resolve.proofs.Known.{HasKinds, is_known_local, is_value_kind}
use Rattle.pungi_resolve.proofs.Argued.{IsArgued, AreArgued, ToLocal, output-local, position-local, optional-local}
use Rattle.pungi_layout.specs.kinds.Typed.{IsHeld, AreWritable}
use Rattle.pungi_layout.proofs.well_formed.Instructions.{le_true}
use Rattle.pungi_lower.proofs.kinds.Words.{HasVars, IsKindHeld, IsLocalHeld, constant_pos}

constant_neg : (n : ℕ) → n ≤ 9223372036854775806 → is_constant (negsuc n) ≡ true
constant_neg n h = rw (le_true n 9223372036854775806 h) refl

-- .. what is written is within its kind
abbrev pub writes_int : Want → Bool
writes_int (wanted.Output a) = fits_int a
writes_int (wanted.OptionalOutput a) = fits_int a
writes_int w = true

others_write : (ws : List Want) → list_all writes_int ws ≡ true → list_all writes_int (other_wants ws) ≡ true
others_write [] f = refl
others_write (w ∷ ws) f = and_right (writes_int w) (list_all writes_int ws) f

in_write : (us : List InUnit) → list_all writes_int (in_wants us) ≡ true
in_write [] = refl
in_write (unit.Object ∷ us) = in_write us
in_write (unit.ObjectOf ∷ us) = in_write us
in_write (unit.Int ∷ us) = in_write us
in_write (unit.Long ∷ us) = in_write us
in_write (unit.Size ∷ us) = in_write us
in_write (unit.Truth ∷ us) = in_write us
in_write (unit.Text ∷ us) = in_write us
in_write (unit.TextOrNull ∷ us) = in_write us

parsed_write : (b : Bool) (bytes : List ℕ) → list_all writes_int (parsed_wants b bytes) ≡ true
parsed_write true bytes = in_write (in_format bytes).units
parsed_write false bytes = refl

pub parse_write : (o : Option (List ℕ)) → list_all writes_int (parse_wants o) ≡ true
parse_write None = refl
parse_write (Some bytes) = parsed_write (is_fine_in bytes) bytes

items_write : (n : ℕ) → list_all writes_int (replicate n (wanted.Output answers.BorrowedSure)) ≡ true
items_write zero = refl
items_write (suc n) = items_write n

pub unpack_write : (n : ℕ) → list_all writes_int (unpack_wants n) ≡ true
unpack_write n =
    elim (is_few n) as (λ b. list_all writes_int (if b then an_object ∷ wanted.OfKind kinds.Text
    ∷ wanted.AtMost (n - 4) ∷ wanted.Count (n - 4) ∷ replicate (n - 4) (wanted.Output answers.BorrowedSure) else [])
    ≡ true) [
      | true ↦ items_write (n - 4)
      | false ↦ refl
    ]

module _ (vars : List Param) where
  -- .. what comes after an argument parser
  writable_after : (xs ys : List OutputStep) → AreWritable vars xs → AreWritable vars ys → AreWritable vars (xs ++ ys)
  writable_after [] ys h k = k
  writable_after (Ends n gives ∷ xs) ys h k = (h.0, writable_after xs ys h.1 k)
  writable_after (Writes x a ∷ xs) ys h k = (h.0, h.1, writable_after xs ys h.2 k)

  ends_writable : (b : Bool) (n : ℤ) (gives : Bool) → is_constant n ≡ true → AreWritable vars (ends_if b n gives)
  ends_writable true n gives h = (h, tt)
  ends_writable false n gives h = tt

  and_unit : (o : OutputStep) (outs rest : List OutputStep) → AreWritable vars (o ∷ outs) → AreWritable vars rest
      → AreWritable vars (o ∷ rest)
  and_unit (Ends n gives) outs rest h k = (h.0, k)
  and_unit (Writes x a) outs rest h k = (h.0, h.1, k)

  other_units : (o : OutputStep) (outs : List OutputStep) → AreWritable vars (o ∷ outs) → AreWritable vars outs
  other_units (Ends n gives) outs h = h.1
  other_units (Writes x a) outs h = h.2

  units_writable : (least : ℕ) (fails : Bool) (i : ℕ) (outs : List OutputStep) → i + length outs ≤ 2 ^ 31
      → AreWritable vars outs → AreWritable vars (unit_steps least fails i outs)
  units_writable least fails i [] b h = tt
  units_writable least fails i (o ∷ outs) b h =
      let rest = units_writable least fails (i + 1) outs (omega (arith, b)) (other_units o outs h) in
      writable_after (ends_if (nat_le least i) (pos i) true) _
      (ends_writable (nat_le least i) (pos i) true (constant_pos i (omega (arith, b))))
      (writable_after (ends_if (fails && nat_lt 0 i) (negsuc i) false) _
      (ends_writable (fails && nat_lt 0 i) (negsuc i) false (constant_neg i (omega (arith, b))))
      (and_unit o outs (unit_steps least fails (i + 1) outs) h rest))

  pub parser_writable : (least : ℕ) (fails : Bool) (outs : List OutputStep) → length outs ≤ 2 ^ 31
      → AreWritable vars outs → AreWritable vars (parser_steps least fails outs)
  parser_writable least fails outs b h = (refl, units_writable least fails 0 outs (omega (arith, b)) h)

  -- .. a local that is written
  kind_held : (w : ValueKind) (k : Option ValueKind) (x : ℕ) → output_fits w k ≡ true → is_value_kind k ≡ true
      → IsKindHeld vars x k → IsHeld vars x (slot_kind w)
  kind_held (kinds.Object s) (Some (kinds.Object t)) x f v h = h.1
  kind_held kinds.Text (Some kinds.Text) x f v h = h.1
  kind_held kinds.Int (Some kinds.Int) x f v h = h.1
  kind_held kinds.Long (Some kinds.Long) x f v h = h.1
  kind_held kinds.Size (Some kinds.Size) x f v h = h.1
  kind_held kinds.Null (Some k) x f v h = absurd (cc)
  kind_held kinds.Void (Some k) x f v h = absurd (cc)
  kind_held w None x f v h = absurd (cc)
  kind_held _ _ x f v h = absurd (cc)

  module _ (env : Env) (has : HasKinds env) (held : HasVars vars env) where
    pub local_held : (a : Answer) (e : Expr) (l : ToLocal env a e)
        → IsHeld vars l.local.number (slot_kind (answer_kind a))
    local_held a e l =
        let v = subst (λ (o : Option Local). is_known_local o ≡ true) l.there (has.locals l.name) in
        let h = subst (λ (o : Option Local). IsLocalHeld vars o) l.there (held.locals l.name) in
        kind_held (answer_kind a) l.local.kind l.local.number l.fits v h

    one_writable : (a : Answer) (e : Expr) → fits_int a ≡ true → ToLocal env a e
        → AreWritable vars (written_local env a e)
    one_writable a e f l =
        subst (λ (steps : List OutputStep). AreWritable vars steps) (sym l.steps) (local_held a e l, f, tt)

    optional_writable : (a : Answer) (e : Expr) → fits_int a ≡ true → (written_local env a e ≡ []) ⊎ ToLocal env a e
        → AreWritable vars (written_local env a e)
    optional_writable a e f (inl h) = subst (λ (steps : List OutputStep). AreWritable vars steps) (sym h) tt
    optional_writable a e f (inr l) = one_writable a e f l

    first_writable : (ws : List Want) (e : Expr) → list_all writes_int ws ≡ true → IsArgued env ws e
        → AreWritable vars (output_of env ws e)
    first_writable (wanted.Output a ∷ ws) e f h =
        one_writable a e (and_left (fits_int a) (list_all writes_int ws) f) (output-local env a ws e h)
    first_writable (wanted.OptionalOutput a ∷ ws) e f h =
        optional_writable a e (and_left (fits_int a) (list_all writes_int ws) f) (optional-local env a ws e h)
    first_writable (wanted.Position ∷ ws) e f h = one_writable answers.AnySize e refl (position-local env ws e h)
    first_writable _ e f h = tt

    pub outputs_writable : (ws : List Want) (es : Exprs) → list_all writes_int ws ≡ true → AreArgued env ws es
        → AreWritable vars (outputs_of env ws es)
    outputs_writable ws no_exprs f h = tt
    outputs_writable ws (expr_and e es) f h =
        writable_after (output_of env ws e) (outputs_of env (other_wants ws) es) (first_writable ws e f h.0)
        (outputs_writable (other_wants ws) es (others_write ws f) h.1)
