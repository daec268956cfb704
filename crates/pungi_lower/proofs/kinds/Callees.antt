-- Calls of functions of the file of the kinds that the rules know.
use Rattle.std.proofs.Common.{◌≡◌, ℕ, inl, arith, Bool, true, false, List, [], ◌∷◌, map, Option, Some, None, refl, sym}
use Rattle.std.proofs.Common.{ap, subst, ◌∙◌}
use Rattle.std.specs.Prelude.{◌||◌, is_some, if◌then◌else◌}
use Rattle.pungi_base.specs.declared.names.Name.{Name}
use Rattle.pungi_base.specs.declared.pos.Pos.{Pos}
use Rattle.pungi_tree.specs.Syntax.{Expr, word, Params, params, ParamDecls, no_params, param_and, param_decl, Item}
use Rattle.pungi_api.specs.Rows.{row_in}
use Rattle.pungi_api.specs.declared.param.Param.{Param}
use Rattle.pungi_api.specs.declared.row.Row.{Row}
use Rattle.pungi_types.specs.declared.kind.ValueKind.{ValueKind}
use Rattle.pungi_types.specs.declared.kind.ValueKind.TheVariants as kinds
use Rattle.pungi_types.specs.declared.local.Local.{Local}
use Rattle.pungi_types.specs.declared.wants.Want.{Want}
use Rattle.pungi_types.specs.Files.{Definition, definitions, definition_in, number_in}
use Rattle.pungi_types.specs.Kinds.{type_kind, spec_base}
use Rattle.pungi_types.specs.Names.{Env, local_in, global_kind, is_own_static}
use Rattle.pungi_types.specs.Calls.{Callee, defined, callee, local_called_or, defined_or, kind_want, param_kind}
use Rattle.pungi_types.specs.Calls.{param_wants, params_wants, is_refused, result_kind, a_value, no_function, row_or}
use Rattle.pungi_resolve.specs.Exprs.{wanted_kind, or_zero, called_function, callee_name}
use Rattle.pungi_resolve.specs.Functions.{param_kinds, params_kinds}
use Rattle.pungi_resolved.specs.Values.{Value, Values, called}
use Rattle.pungi_layout.specs.code.CallKinds.{held_kind, returned_kind}
use Rattle.pungi_layout.specs.code.Temporaries.{local_column, value_column}
use Rattle.pungi_layout.specs.kinds.Typed.{is_given, AreTyped}
use Rattle.pungi_lower.proofs.kinds.Parts.{Kin, Around, in_file, Typed}
use Rattle.pungi_lower.proofs.kinds.Arguments.{ArePlaced}

-- .. the kinds of parameters
wants-of : (file : List Item) (ds : ParamDecls) → param_wants file ds ≡ map kind_want (param_kinds file ds)
wants-of file no_params = refl
wants-of file (param_and (param_decl qs s d) ds) =
    ap (λ (ws : List Want). kind_want (param_kind file s d) ∷ ws) (wants-of file ds)

-- what the rules want of the arguments
pub wants_are : (file : List Item) (ps : Params) → params_wants file ps ≡ map kind_want (params_kinds file ps)
wants_are file (params ds v dots) = wants-of file ds

want-kind : (k : Option ValueKind) → wanted_kind (kind_want k) ≡ k
want-kind None = refl
want-kind (Some k) = refl

kinds-of : (ks : List (Option ValueKind)) → map wanted_kind (map kind_want ks) ≡ ks
kinds-of [] = refl
kinds-of (k ∷ ks) =
    ap (λ (w : Option ValueKind). w ∷ map wanted_kind (map kind_want ks)) (want-kind k)
    ∙ ap (λ (ws : List (Option ValueKind)). k ∷ ws) (kinds-of ks)

kinds_are : (file : List Item) (ps : Params) → map wanted_kind (params_wants file ps) ≡ params_kinds file ps
kinds_are file ps = ap (λ (ws : List Want). map wanted_kind ws) (wants_are file ps) ∙ kinds-of (params_kinds file ps)

-- .. which functions may be called
-- one that is called by this name: what it takes and gives is known, and its code takes and gives it
pub record Called (a : Around) (file : List Item) (w : ℕ) (d : Definition) : Type 0 where
  pub placed : ArePlaced (params_kinds file d.params)
  pub given : is_given (type_kind file (spec_base d.result) d.stars) ≡ true
  pub kinds : a.callees (or_zero (number_in 0 (definitions file) w))
      ≡ Some (map held_kind (params_kinds file d.params), returned_kind (type_kind file (spec_base d.result) d.stars))

-- each one that isn't refused
abbrev pub HasCallees : Around → Env → Type 0
HasCallees a env = (w : ℕ) (d : Definition) → definition_in (definitions env.file.items) w ≡ Some d
    → is_refused env d ≡ false → Called a env.file.items w d

abbrev pub IsDefinedOf : Around → Env → ℕ → Callee → Type 0
IsDefinedOf a env w (defined d) = is_refused env d ≡ false → Called a env.file.items w d
IsDefinedOf a env w c = Unit {0}

row_defined : (a : Around) (env : Env) (w : ℕ) (r : Option Row) → IsDefinedOf a env w (row_or env.file.items w r)
row_defined a env w (Some r) = tt
row_defined a env w None =
    elim (is_some (global_kind env.file.items w) || is_own_static env.file.items w) as
    (λ b. IsDefinedOf a env w (if b then a_value else no_function)) [ true ↦ tt | false ↦ tt ]

found_defined : (a : Around) (env : Env) → HasCallees a env → (w : ℕ) (x : Option Definition)
    → definition_in (definitions env.file.items) w ≡ x → IsDefinedOf a env w (defined_or env w x)
found_defined a env h w (Some d) e = λ r. h w d e r
found_defined a env h w None e = row_defined a env w (row_in env.file.rows w)

called_defined : (a : Around) (env : Env) → HasCallees a env → (w : ℕ) (o : Option Local)
    → IsDefinedOf a env w (local_called_or env w o)
called_defined a env h w (Some l) = tt
called_defined a env h w None = found_defined a env h w (definition_in (definitions env.file.items) w) refl

pub callee_defined : (a : Around) (env : Env) → HasCallees a env → (f : Expr)
    → IsDefinedOf a env (callee_name f).0 (callee env f)
callee_defined a env h (word p w) = called_defined a env h w.0 (local_in env.locals w.0)
callee_defined a env h _ = tt

-- .. the call
kin_given : (k : Option ValueKind) (v : Value) → is_given k ≡ true → value_column v ≡ local_column k → Kin k v
kin_given (Some kinds.Int) v h e = e
kin_given (Some kinds.Long) v h e = omega (arith, e)
kin_given (Some kinds.Size) v h e = e
kin_given (Some kinds.Text) v h e = inl e
kin_given (Some (kinds.Object s)) v h e = e
kin_given (Some kinds.Void) v h e = tt
kin_given _ v h e = absurd (cc)

pub called_typed : (a : Around) (vars : List Param) (env : Env) (p : Pos) (w : Name) (d : Definition) (vs : Values)
    → is_refused env d ≡ false → Called a env.file.items w.0 d
    → AreTyped (in_file a env.file.items) vars (map held_kind (params_kinds env.file.items d.params)) vs
    → Typed (in_file a env.file.items) vars (result_kind env (defined d)) (called p
    (called_function env w (defined d)) vs)
called_typed a vars env p w d vs r c h =
    let file = in_file a env.file.items in
    let n = or_zero (number_in 0 (definitions env.file.items) w.0) in
    let k = type_kind env.file.items (spec_base d.result) d.stars in
    let P : List (Option ValueKind) → Type 0 = λ ps. Typed file vars k (called p (record
    { number = n; params = ps; result = k }) vs) in
    let Q : Bool → Type 0 = λ b. Typed file vars (if b then None else k) (called p (record {
      number = n;
      params = map wanted_kind (params_wants env.file.items d.params);
      result = if b then None else k;
    }) vs) in
    let one : P (params_kinds env.file.items d.params) = record {
      typed = (c.kinds, c.given, h);
      kin = kin_given k (called p (record
          { number = n; params = params_kinds env.file.items d.params; result = k }) vs) c.given refl;
    } in
    let two : Q false = subst P (sym (kinds_are env.file.items d.params)) one in
    subst Q (sym r) two
