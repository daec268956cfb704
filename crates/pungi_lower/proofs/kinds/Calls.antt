-- Casts, addresses and calls of the kinds that the rules know.
use Rattle.std.proofs.Common.{◌≡◌, ℕ, ◌+◌, ◌<◌, inl, arith, Bool, true, false, List, [], ◌∷◌, length, Option, Some}
use Rattle.std.proofs.Common.{None, refl, sym, subst}
use Rattle.std.specs.Prelude.{◌&&◌, ◌||◌, not, is_some, is_none, if◌then◌else◌}
use Rattle.pungi_base.specs.declared.names.Name.{Name}
use Rattle.pungi_base.specs.declared.pos.Pos.{Pos}
use Rattle.pungi_tree.specs.Syntax.{Expr, word, Item, TypeName, type_name}
use Rattle.pungi_api.specs.Rows.{row_in, is_row}
use Rattle.pungi_api.specs.Signatures.{own_answer, form_signature, signature_of}
use Rattle.pungi_api.proofs.SignatureLemmas.{are_signatures, is_simple}
use Rattle.pungi_api.specs.declared.answer.Answer.{Answer}
use Rattle.pungi_api.specs.declared.answer.Answer.TheVariants as answers
use Rattle.pungi_api.specs.declared.param.Param.{Param}
use Rattle.pungi_api.specs.declared.param.Param.TheVariants as param
use Rattle.pungi_api.specs.declared.row.Form.{Form}
use Rattle.pungi_api.specs.declared.row.Form.TheVariants as forms
use Rattle.pungi_api.specs.declared.row.Row.{Row}
use Rattle.pungi_api.specs.declared.special.Special.{Special}
use Rattle.pungi_api.specs.declared.special.Special.TheVariants as specials
use Rattle.pungi_types.specs.declared.kind.ValueKind.{ValueKind}
use Rattle.pungi_types.specs.declared.kind.ValueKind.TheVariants as kinds
use Rattle.pungi_types.specs.declared.local.Local.{Local}
use Rattle.pungi_types.specs.Files.{SourceFile, Definition, definitions, definition_in}
use Rattle.pungi_types.specs.Kinds.{type_kind, spec_base, struct_only, made_struct}
use Rattle.pungi_types.specs.Names.{Env, local_in, global_kind, is_own_static, is_type_object, static_number}
use Rattle.pungi_types.specs.Names.{statics_in}
use Rattle.pungi_types.specs.Operators.{is_integer, is_void, fits, is_same_kind}
use Rattle.pungi_types.specs.Calls.{names_type_object, Callee, a_value, a_row, no_function, callee, local_called_or}
use Rattle.pungi_types.specs.Calls.{defined_or, row_or, row_kind, made_wrong, made_kind}
use Rattle.pungi_types.specs.Exprs.{cast_kind}
use Rattle.pungi_resolve.specs.Exprs.{convert_some, cast_value, static_address, made_value}
use Rattle.pungi_resolve.proofs.Clean.{and_right, not_false}
use Rattle.pungi_resolved.specs.Values.{Value, Values, called_row, converted, cast_of, dropped}
use Rattle.pungi_layout.specs.code.Temporaries.{answer_column, call_column, value_column}
use Rattle.pungi_layout.specs.kinds.Typed.{Known, IsObject, AreTyped}
use Rattle.pungi_lower.proofs.kinds.Parts.{Kin, kin_number, kin_column, kin_if, kin_unless, Typed, convert_going}
use Rattle.pungi_lower.proofs.kinds.Statics.{type_object_there}
use Rattle.pungi_lower.proofs.kinds.Operators.{found, kin_cast, cast_numbers, number_column, counted_kept}

-- .. casts
kin_void : (to : Option ValueKind) (v : Value) → is_void to ≡ true → Kin to v
kin_void (Some kinds.Void) v h = tt
kin_void _ v h = absurd (cc)

unless_void : (v s f : Bool) → v ≡ false → ((v && s) || f) ≡ true → f ≡ true
unless_void false s f e h = h
unless_void true s f e h = absurd (cc)

-- a call that is made of a format or of the number of its arguments
abbrev pub is_made : Form → Bool
is_made (forms.Special specials.ParseTuple) = true
is_made (forms.Special specials.UnpackTuple) = true
is_made (forms.Special specials.DictNext) = true
is_made (forms.Special specials.BuildValue) = true
is_made _ = false

-- what `PyObject_New` gives is a pointer to a struct
struct_kin : (k : Option ValueKind) (v : Value) → IsObject v → Kin (struct_only k) v
struct_kin (Some (kinds.Object (Some s))) v h = h
struct_kin _ v h = tt

made_kin : (items : List Item) (t : TypeName) (v : Value) → IsObject v → Kin (made_struct items t) v
made_kin items (type_name s stars) v h = struct_kin (type_kind items (spec_base s) (length stars + 1)) v h

-- an argument of a kind that isn't wrong is an object, or NULL
pub made_fits : (to k : Option ValueKind) → is_some k ≡ true → made_wrong to k ≡ false
    → fits (Some (kinds.Object None)) k ≡ true
made_fits None k s h = absurd (cc)
made_fits (Some t) None s h = absurd (cc)
made_fits (Some t) (Some k) s h = not_false (fits (Some (kinds.Object None)) (Some k)) h

module _ (file : Known) (vars : List Param) where
  to_number : (p : Pos) (to from : Option ValueKind) (v : Value) → is_integer to ≡ true → is_integer from ≡ true
      → Typed file vars from v → Typed file vars to (convert_some p to v)
  to_number p None from v i j x = absurd (cc)
  to_number p (Some k) from v i j x =
      let c = number_column k i in
      record {
        typed = (c, kin_number from v j x.kin, x.typed);
        kin = kin_column k (converted p k v) (counted_kept k c) refl;
      }

  to_scalar : (p : Pos) (to from : Option ValueKind) (v : Value) → fits to from ≡ true → Typed file vars from v
      → Typed file vars to (if is_integer to && not (is_same_kind to from) then convert_some p to v else cast_of p v)
  to_scalar p to from v f x =
      elim (is_integer to && not (is_same_kind to from)) as (λ b. ((is_integer to && not (is_same_kind to from))
      ≡ b) → Typed file vars to (if b then convert_some p to v else cast_of p v)) [
        | true ↦ λ e. let c = cast_numbers to from f e in to_number p to from v c.0 c.1 x
        | false ↦ λ e. record { typed = x.typed; kin = kin_cast p to from v f e x.kin }
      ] refl

  pub cast_typed : (p : Pos) (to from : Option ValueKind) (v : Value) → is_some (cast_kind to from) ≡ true
      → Typed file vars from v → Typed file vars (cast_kind to from) (cast_value p to from v)
  cast_typed p to from v h x =
      let c = found ((is_void to && is_some from) || fits to from) to h in
      elim (is_void to) as (λ b. (is_void to ≡ b)
      → Typed file vars (cast_kind to from) (if b then dropped p v else (if is_integer to
      && not (is_same_kind to from) then convert_some p to v else cast_of p v))) [
        | true ↦ λ e. record {
          typed = x.typed;
          kin = kin_if ((is_void to && is_some from) || fits to from) to
              (dropped p v) (kin_void to (dropped p v) e);
        }
        | false ↦ λ e.
            let t = to_scalar p to from v (unless_void (is_void to) (is_some from) (fits to from) e c) x in
            record { typed = t.typed; kin = kin_if ((is_void to && is_some from) || fits to from) to _ t.kin }
      ] refl

  -- .. addresses
  pub static_typed : (env : Env) (p : Pos) (e : Expr) → file.statics ≡ statics_in env.file.items
      → is_some (if names_type_object env e then Some (kinds.Object None) else None) ≡ true
      → Typed file vars (if names_type_object env e then Some (kinds.Object None) else None) (static_address env p e)
  static_typed env p (word q w) s h =
      let named = found (names_type_object env (word q w)) (Some (kinds.Object None)) h in
      let object = and_right (is_none (local_in env.locals w.0)) (is_type_object env.file.items w.0) named in
      record {
        typed = subst (λ (all : ℕ). static_number env.file.items w.0 < all) (sym s)
            (type_object_there env.file.items w.0 object);
        kin = kin_if (names_type_object env (word q w))
            (Some (kinds.Object None)) (static_address env p (word q w)) refl;
      }
  static_typed env p _ s h = absurd (cc)

  -- .. `PyObject_New`
  -- what the call takes is known by the kind of the argument, and what it gives by what is asked of a used value
  pub made_typed : (items : List Item) (p : Pos) (t : TypeName) (k asked : Option ValueKind) (v : Value)
      → is_some k ≡ true → made_wrong (made_struct items t) k ≡ false → Typed file vars k v
      → Typed file vars (made_kind (made_struct items t) asked) (made_value p v)
  made_typed items p t k asked v s h x =
      let g = convert_going file vars p (Some (kinds.Object None)) k v (made_fits (made_struct items t) k s h) x in
      record {
        typed = (is_simple (param.Object ∷ []) answers.Made refl, (g.goes.1, g.typed, tt));
        kin = kin_unless (made_wrong (made_struct items t) asked) (made_struct items t) (made_value p v)
            (made_kin items t (made_value p v) refl);
      }

  -- .. calls
  plain_kin : (a : Answer) (v : Value) → value_column v ≡ answer_column a → Kin (Some (row_kind forms.Plain a)) v
  plain_kin answers.Status v e = e
  plain_kin answers.Truth v e = e
  plain_kin answers.Int v e = e
  plain_kin answers.Long v e = omega (arith, e)
  plain_kin answers.Size v e = e
  plain_kin answers.Text v e = inl e
  plain_kin answers.TextSure v e = inl e
  plain_kin answers.Void v e = tt
  plain_kin _ v e = e

  special_kin : (s : Special) (a : Answer) (v : Value) → is_made (forms.Special s) ≡ false
      → value_column v ≡ call_column (own_answer s) → Kin (Some (row_kind (forms.Special s) a)) v
  special_kin specials.ParseTuple a v m e = absurd (cc)
  special_kin specials.UnpackTuple a v m e = absurd (cc)
  special_kin specials.DictNext a v m e = absurd (cc)
  special_kin specials.BuildValue a v m e = absurd (cc)
  special_kin specials.NewRef a v m e = e
  special_kin specials.XNewRef a v m e = e
  special_kin specials.TuplePack a v m e = e
  special_kin specials.CallFunctionObjArgs a v m e = e
  special_kin specials.ErrFormat a v m e = e
  special_kin _ a v m e = tt

  row_kin : (f : Form) (row : Row) (given : List Param) (v : Value) → is_made f ≡ false
      → value_column v ≡ call_column (form_signature f row given).answer → Kin (Some (row_kind f row.answer)) v
  row_kin forms.Plain row given v m e = plain_kin row.answer v e
  row_kin (forms.Special s) row given v m e = special_kin s row.answer v m e

  pub row_typed : (p : Pos) (w : Name) (row : Row) (given : List Param) (vs : Values) → is_row row ≡ true
      → is_made row.form ≡ false → AreTyped file vars (signature_of row given).params vs
      → Typed file vars (Some (row_kind row.form row.answer)) (called_row p w (signature_of row given) vs)
  row_typed p w row given vs r m h = record {
    typed = (are_signatures row given r, h);
    kin = row_kin row.form row given (called_row p w (signature_of row given) vs) m refl;
  }

-- .. rows
-- each row of a table is one
abbrev pub HasRows : Env → Type 0
HasRows env = (w : ℕ) (r : Row) → row_in env.file.rows w ≡ Some r → is_row r ≡ true

abbrev pub IsRowOf : Callee → Type 0
IsRowOf (a_row r) = is_row r ≡ true
IsRowOf c = Unit {0}

row_of : (file : SourceFile) (w : ℕ) (o : Option Row) → row_in file.rows w ≡ o
    → ((r : Row) → row_in file.rows w ≡ Some r → is_row r ≡ true) → IsRowOf (row_or file.items w o)
row_of file w (Some r) e h = h r e
row_of file w None e h =
    elim (is_some (global_kind file.items w) || is_own_static file.items w) as
    (λ b. IsRowOf (if b then a_value else no_function)) [ true ↦ tt | false ↦ tt ]

defined_row : (env : Env) → HasRows env → (w : ℕ) (x : Option Definition) → IsRowOf (defined_or env w x)
defined_row env h w (Some d) = tt
defined_row env h w None = row_of env.file w (row_in env.file.rows w) refl (h w)

called_is : (env : Env) → HasRows env → (w : ℕ) (o : Option Local) → IsRowOf (local_called_or env w o)
called_is env h w (Some l) = tt
called_is env h w None = defined_row env h w (definition_in (definitions env.file.items) w)

pub callee_row : (env : Env) → HasRows env → (f : Expr) → IsRowOf (callee env f)
callee_row env h (word p w) = called_is env h w.0 (local_in env.locals w.0)
callee_row env h _ = tt
