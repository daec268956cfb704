-- Calls of well-formed rows have well-formed signatures.
use Rattle.std.proofs.Common.{◌≡◌, ℕ, suc, ◌+◌, ◌-◌, ◌<◌, ◌++◌, ◌&&◌, Bool, true, false, List, [], ◌∷◌, length, replicate}
use Rattle.std.proofs.Common.{refl, ap, ◌∙◌, append_assoc, arith, map}
use Rattle.pungi_format.specs.declared.out_unit.OutUnit.{OutUnit}
use Rattle.pungi_format.specs.declared.out_unit.OutUnit.TheVariants as unit
use Rattle.pungi_api.specs.declared.answer.Answer.{Answer}
use Rattle.pungi_api.specs.declared.answer.Answer.TheVariants as answer
use Rattle.pungi_api.specs.declared.param.Param.{Param}
use Rattle.pungi_api.specs.declared.row.Form.{Form}
use Rattle.pungi_api.specs.declared.row.Form.TheVariants as form
use Rattle.pungi_api.specs.declared.row.Row.{Row}
use Rattle.pungi_api.specs.declared.special.Special.{Special}
use Rattle.pungi_api.specs.declared.special.Special.TheVariants as special
use Rattle.pungi_api.specs.declared.take.Take.TheVariants as takes
use Rattle.pungi_api.specs.Rows.{is_row, fits_form, fits_int, may_take, may_take_all}
use Rattle.pungi_api.specs.Signatures.{simple_signature, unit_param, unit_take, build_signature, null_signature}
use Rattle.pungi_api.specs.Signatures.{signature_of, form_signature, special_signature, own_params, own_answer, row_answer}
use Rattle.pungi_api.specs.Signatures.{returns_object, is_signature, own_effect, has_outcomes}

-- one of so many that are to come
pub replicate_step : {A : Type 0} (xs : List A) (x : A) (i n : ℕ) → i < n
    → (xs ++ x ∷ []) ++ replicate (n - (i + 1)) x ≡ xs ++ replicate (n - i) x
replicate_step xs x i n h =
    let e : suc (n - (i + 1)) ≡ n - i = omega arith in
    append_assoc xs (x ∷ []) (replicate (n - (i + 1)) x) ∙ ap (λ m. xs ++ replicate m x) e

both : (b c : Bool) → b ≡ true → c ≡ true → (b && c) ≡ true
both true c h e = e
both false c h e = h

none_taken : (a : Answer) (ps : List Param) → may_take_all a ps (replicate (length ps) takes.Never) ≡ true
none_taken a [] = refl
none_taken a (p ∷ ps) = none_taken a ps

returned : (s : Special) (given : List Param) → returns_object (own_answer s) (own_params s given) ≡ true
returned special.NewRef given = refl
returned special.XNewRef given = refl
returned s given = refl

has_own_outcomes : (s : Special) → has_outcomes (own_effect s) (own_answer s) ≡ true
has_own_outcomes special.IncRef = refl
has_own_outcomes special.XIncRef = refl
has_own_outcomes special.NewRef = refl
has_own_outcomes special.XNewRef = refl
has_own_outcomes special.DecRef = refl
has_own_outcomes special.XDecRef = refl
has_own_outcomes special.Clear = refl
has_own_outcomes special.TuplePack = refl
has_own_outcomes special.CallFunctionObjArgs = refl
has_own_outcomes special.ErrFormat = refl
has_own_outcomes special.ParseTuple = refl
has_own_outcomes special.UnpackTuple = refl
has_own_outcomes special.DictNext = refl
has_own_outcomes special.BuildValue = refl

special_well_formed : (s : Special) (given : List Param) → is_signature (special_signature s given) ≡ true
special_well_formed s given =
    both (may_take_all (row_answer (own_answer s)) (own_params s given)
    (replicate (length (own_params s given)) takes.Never))
    (returns_object (own_answer s) (own_params s given) && has_outcomes (own_effect s) (own_answer s))
    (none_taken (row_answer (own_answer s)) (own_params s given))
    (both (returns_object (own_answer s) (own_params s given)) (has_outcomes (own_effect s) (own_answer s))
    (returned s given) (has_own_outcomes s))

form_well_formed : (f : Form) (row : Row) (given : List Param) → fits_form f row ≡ true
    → is_signature (form_signature f row given) ≡ true
form_well_formed form.Plain row given h = h
form_well_formed (form.Special s) row given h = special_well_formed s given

pub is_simple : (ps : List Param) (a : Answer) → fits_int a ≡ true → is_signature (simple_signature ps a) ≡ true
is_simple ps a h = both (may_take_all a ps (replicate (length ps) takes.Never)) (fits_int a) (none_taken a ps) h

unit_taken : (a : Answer) (u : OutUnit) → may_take a (unit_param u) (unit_take u) ≡ true
unit_taken a unit.Take = refl
unit_taken a unit.Keep = refl
unit_taken a unit.Int = refl
unit_taken a unit.Long = refl
unit_taken a unit.Size = refl
unit_taken a unit.TextOrNull = refl

units_taken : (a : Answer) (us : List OutUnit) → may_take_all a (map unit_param us) (map unit_take us) ≡ true
units_taken a [] = refl
units_taken a (u ∷ us) =
    both (may_take a (unit_param u) (unit_take u)) (may_take_all a (map unit_param us) (map unit_take us))
    (unit_taken a u) (units_taken a us)

pub is_build : (us : List OutUnit) → is_signature (build_signature us) ≡ true
is_build us = both (may_take_all answer.New (map unit_param us) (map unit_take us)) true (units_taken answer.New us) refl

pub is_null_build : (us : List OutUnit) → is_signature (null_signature (build_signature us)) ≡ true
is_null_build us =
    both (may_take_all answer.Null (map unit_param us) (map unit_take us)) true (units_taken answer.Null us) refl

pub are_signatures : (row : Row) (given : List Param) → is_row row ≡ true
    → is_signature (signature_of row given) ≡ true
are_signatures row given h = form_well_formed row.form row given h
