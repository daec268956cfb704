-- Arguments of the kinds that their parameters take, and which parameter a wanted argument is passed for.
use Rattle.std.proofs.Common.{◌≡◌, ℕ, zero, suc, ◌+◌, ◌-◌, arith, Bool, true, false, List, [], ◌∷◌, ◌++◌, length, map}
use Rattle.std.proofs.Common.{replicate, Option, Some, None, inl, inr, ◌⊎◌, refl, sym, subst}
use Rattle.std.specs.Prelude.{◌&&◌, not, is_some, if◌then◌else◌}
use Rattle.pungi_base.specs.declared.kind.Kind.{Kind}
use Rattle.pungi_base.specs.declared.pos.Pos.{Pos}
use Rattle.pungi_tree.specs.Syntax.{Expr, word, text, unary, Exprs, no_exprs, expr_and}
use Rattle.pungi_api.specs.Signatures.{own_params}
use Rattle.pungi_api.specs.declared.param.Param.{Param}
use Rattle.pungi_api.specs.declared.param.Param.TheVariants as param
use Rattle.pungi_api.specs.declared.special.Special.TheVariants as specials
use Rattle.pungi_types.specs.declared.kind.ValueKind.{ValueKind}
use Rattle.pungi_types.specs.declared.kind.ValueKind.TheVariants as kinds
use Rattle.pungi_types.specs.declared.wants.Want.{Want}
use Rattle.pungi_types.specs.declared.wants.Want.TheVariants as wanted
use Rattle.pungi_types.specs.Names.{Env}
use Rattle.pungi_types.specs.Operators.{prefix_of, is_integer, is_void, fits}
use Rattle.pungi_types.specs.Calls.{is_place, is_address, names_module, is_module_address, how_many, argument_form}
use Rattle.pungi_types.specs.Calls.{kind_want, own_wants, is_module_form, is_place_form, is_count_form, is_limit_form}
use Rattle.pungi_types.specs.Calls.{is_null_form, wants_module, wants_output, first_met}
use Rattle.pungi_types.specs.Exprs.{kind_of}
use Rattle.pungi_types.specs.Formats.{expr_pos, param_want, an_object}
use Rattle.pungi_resolve.specs.Exprs.{convert, given_param, given_params, or_int, module_address, resolve, place_of}
use Rattle.pungi_resolved.specs.Values.{Value, Place, local_place, global_place, field_place, no_place, emptied}
use Rattle.pungi_meaning.specs.Values.{slot_kind}
use Rattle.pungi_resolve.proofs.Clean.{and_left, and_right}
use Rattle.pungi_layout.specs.code.CallKinds.{held_kind}
use Rattle.pungi_layout.specs.kinds.Typed.{Known, is_kept, GoesIn, IsArgument, IsTyped, IsPlaceTyped}
use Rattle.pungi_layout.proofs.well_formed.Columns.{null_column}
use Rattle.pungi_lower.proofs.Written.{form_written, module_written, place_written, null_written, count_written}
use Rattle.pungi_lower.proofs.Written.{limit_written, required, table_address, argument}
use Rattle.pungi_lower.proofs.kinds.Parts.{Kin, Around, in_file, Typed, convert_going}
use Rattle.pungi_lower.proofs.kinds.Operators.{IsPlaceOf}

-- an expression of its kind, also as a place
pub record ExprKinds (a : Around) (vars : List Param) (env : Env) (e : Expr) : Type 0 where
  pub value : Typed (in_file a env.file.items) vars (kind_of env e) (resolve env e)
  pub place : is_place env e ≡ true → IsPlaceOf (in_file a env.file.items) vars (kind_of env e) (place_of env e)

-- .. which parameter an argument is passed for
abbrev pub is_literal : Expr → Bool
is_literal (text p ns) = true
is_literal _ = false

-- an argument that is to be this is what the parameter takes
pub data Takes (env : Env) (w : Want) (p : Param) (e : Expr) : Type 0 where
  as_said : w ≡ param_want p → Takes env w p e
  of_kind : (k : ValueKind) → is_kept k ≡ true → w ≡ wanted.OfKind k → p ≡ held_kind (Some k) → Takes env w p e
  counted : (n : ℕ) → w ≡ wanted.Count n → p ≡ param.Size → Takes env w p e
  limited : (n : ℕ) → w ≡ wanted.AtMost n → p ≡ param.Size → Takes env w p e
  formatted : (b : Bool) → w ≡ wanted.Format b → p ≡ param.Text → is_literal e ≡ true → Takes env w p e
  anything : w ≡ wanted.Anything → p ≡ given_param (kind_of env e) → Takes env w p e
  closing : w ≡ wanted.NullConstant → p ≡ param.ObjectOrNull → Takes env w p e
  cleared : w ≡ wanted.ObjectPlace → p ≡ param.ObjectOrNull → Takes env w p e

pub takes_value : (env : Env) (w : Want) (p : Param) (e : Expr) (ws : List Want) → Takes env w p e
    → wants_output (w ∷ ws) ≡ false
takes_value env w p e ws (as_said h) = of_param p h
  where
    of_param : (p : Param) → w ≡ param_want p → wants_output (w ∷ ws) ≡ false
    of_param param.Int h = rw h refl
    of_param param.Long h = rw h refl
    of_param param.Size h = rw h refl
    of_param param.Text h = rw h refl
    of_param param.TextOrNull h = rw h refl
    of_param param.Object h = rw h refl
    of_param param.ObjectOrNull h = rw h refl
    of_param param.ModuleDef h = rw h refl
takes_value env w p e ws (of_kind k i h j) = rw h refl
takes_value env w p e ws (counted n h j) = rw h refl
takes_value env w p e ws (limited n h j) = rw h refl
takes_value env w p e ws (formatted b h j l) = rw h refl
takes_value env w p e ws (anything h j) = rw h refl
takes_value env w p e ws (closing h j) = rw h refl
takes_value env w p e ws (cleared h j) = rw h refl

-- each of the arguments that are there, but those that the call writes
abbrev pub AreTaken : Env → List Want → List Param → Exprs → Type 0
AreTaken env [] [] es = Unit {0}
AreTaken env [] (p ∷ ps) es = ⊥
AreTaken env (w ∷ ws) ps no_exprs = Unit {0}
AreTaken env (w ∷ ws) [] (expr_and e es) = (wants_output (w ∷ ws) ≡ true) × AreTaken env ws [] es
AreTaken env (w ∷ ws) (p ∷ ps) (expr_and e es) =
    ((wants_output (w ∷ ws) ≡ true) × AreTaken env ws (p ∷ ps) es) ⊎ (Takes env w p e × AreTaken env ws ps es)

-- one that the call writes
pub output_taken : (env : Env) (w : Want) (ws : List Want) (ps : List Param) (e : Expr) (es : Exprs)
    → wants_output (w ∷ ws) ≡ true → AreTaken env ws ps es → AreTaken env (w ∷ ws) ps (expr_and e es)
output_taken env w ws [] e es h k = (h, k)
output_taken env w ws (p ∷ ps) e es h k = inl (h, k)

pub params_taken : (env : Env) (ps : List Param) (es : Exprs) → AreTaken env (map param_want ps) ps es
params_taken env [] es = tt
params_taken env (p ∷ ps) no_exprs = tt
params_taken env (p ∷ ps) (expr_and e es) = inr (as_said refl, params_taken env ps es)

-- a kind that a parameter may have
abbrev pub is_placed : Option ValueKind → Bool
is_placed None = false
is_placed (Some k) = is_kept k

abbrev pub ArePlaced : List (Option ValueKind) → Type 0
ArePlaced [] = Unit {0}
ArePlaced (k ∷ ks) = (is_placed k ≡ true) × ArePlaced ks

-- those of a function of the file
pub kinds_taken : (env : Env) (ks : List (Option ValueKind)) (es : Exprs) → ArePlaced ks
    → AreTaken env (map kind_want ks) (map held_kind ks) es
kinds_taken env [] es h = tt
kinds_taken env (k ∷ ks) no_exprs h = tt
kinds_taken env (None ∷ ks) (expr_and e es) h = absurd (no_kind h.0)
  where
    no_kind : is_placed None ≡ true → ⊥
    no_kind e = cc
kinds_taken env (Some k ∷ ks) (expr_and e es) h = inr (of_kind k h.0 refl refl, kinds_taken env ks es h.1)

-- so many alike, where the two numbers are one
pub alike_taken : (env : Env) (m n : ℕ) (p : Param) (es : Exprs) → m ≡ n
    → AreTaken env (replicate m (param_want p)) (replicate n p) es
alike_taken env m n p es h =
    subst (λ (k : ℕ). AreTaken env (replicate m (param_want p)) (replicate k p) es) h (all env m p es)
  where
    all : (env : Env) (m : ℕ) (p : Param) (es : Exprs) → AreTaken env (replicate m (param_want p)) (replicate m p) es
    all env zero p es = tt
    all env (suc m) p no_exprs = tt
    all env (suc m) p (expr_and e es) = inr (as_said refl, all env m p es)

-- objects, and then NULL
closed_taken : (env : Env) (m n : ℕ) (es : Exprs) → suc m ≡ n
    → AreTaken env (replicate m an_object ++ wanted.NullConstant ∷ []) (replicate n param.ObjectOrNull) es
closed_taken env m n es h =
    subst (λ (k : ℕ). AreTaken env (replicate m an_object ++ wanted.NullConstant ∷ []) (replicate k
    param.ObjectOrNull) es) h (all env m es)
  where
    all : (env : Env) (m : ℕ) (es : Exprs) → AreTaken env (replicate m an_object ++ wanted.NullConstant ∷ [])
        (replicate (suc m) param.ObjectOrNull) es
    all env zero no_exprs = tt
    all env zero (expr_and e es) = inr (closing refl refl, tt)
    all env (suc m) no_exprs = tt
    all env (suc m) (expr_and e es) = inr (as_said refl, all env m es)

-- anything, each by its own kind
given_taken : (env : Env) (m : ℕ) (es : Exprs) → how_many es ≡ m
    → AreTaken env (replicate m wanted.Anything) (given_params env es) es
given_taken env m es h =
    subst (λ (k : ℕ). AreTaken env (replicate k wanted.Anything) (given_params env es) es) h (all env es)
  where
    all : (env : Env) (es : Exprs) → AreTaken env (replicate (how_many es) wanted.Anything) (given_params env es) es
    all env no_exprs = tt
    all env (expr_and e es) =
        let n : suc (how_many es) ≡ how_many es + 1 = omega arith in
        subst (λ (k : ℕ). AreTaken env (replicate k wanted.Anything) (given_params env (expr_and e es)) (expr_and e es))
        n (inr (anything refl refl, all env es))

given_length : (env : Env) (es : Exprs) → length (given_params env es) ≡ how_many es
given_length env no_exprs = refl
given_length env (expr_and e es) = let l = given_length env es in omega (arith, l)

pub cleared_taken : (env : Env) (es : Exprs) → AreTaken env (wanted.ObjectPlace ∷ []) (param.ObjectOrNull ∷ []) es
cleared_taken env no_exprs = tt
cleared_taken env (expr_and e es) = inr (cleared refl refl, tt)

pub packed_taken : (env : Env) (es : Exprs) → AreTaken env (own_wants specials.TuplePack (how_many es))
    (own_params specials.TuplePack (given_params env es)) es
packed_taken env no_exprs = tt
packed_taken env (expr_and e es) =
    let l = given_length env es in
    let n : how_many es + 1 - 1 ≡ length (given_params env (expr_and e es)) - 1 = omega (arith, l) in
    inr (counted (how_many es + 1 - 1) refl refl, alike_taken env _ _ param.Object es n)

pub called_taken : (env : Env) (es : Exprs) → AreTaken env (own_wants specials.CallFunctionObjArgs (how_many es))
    (own_params specials.CallFunctionObjArgs (given_params env es)) es
called_taken env no_exprs = tt
called_taken env (expr_and e no_exprs) = inr (as_said refl, tt)
called_taken env (expr_and e (expr_and f es)) =
    let l = given_length env es in
    let n : suc (how_many es + 1 + 1 - 2) ≡ length (given_params env (expr_and e (expr_and f es))) - 1 =
    omega (arith, l) in
    inr (as_said refl, closed_taken env _ _ (expr_and f es) n)

pub format_taken : (env : Env) (es : Exprs) → AreTaken env (own_wants specials.ErrFormat (how_many es))
    (own_params specials.ErrFormat (given_params env es)) es
format_taken env no_exprs = tt
format_taken env (expr_and e no_exprs) = inr (as_said refl, tt)
format_taken env (expr_and e (expr_and f es)) =
    let n : how_many es ≡ how_many es + 1 + 1 - 2 = omega arith in
    inr (as_said refl, inr (as_said refl, given_taken env _ es n))

-- .. an argument of its kind
module _ (a : Around) (vars : List Param) (env : Env) where
  abbrev Here : Known
  Here = in_file a env.file.items

  -- an argument that a parameter takes
  pub record ArgTyped (p : Param) (v : Value) : Type 0 where
    pub typed : IsTyped Here vars v
    pub fits : IsArgument p v

  -- what is known of an argument where these are wanted
  pub record Argued (ws : List Want) (e : Expr) : Type 0 where
    pub met : first_met ws (argument_form env e) (kind_of env e) ≡ true
    pub known : (wants_module ws && is_module_address env e) ≡ false → is_some (kind_of env e) ≡ true
    pub kinds : (wants_module ws && is_module_address env e) ≡ false → ExprKinds a vars env e

  of_kind-typed : (k : ValueKind) (ws : List Want) (p : Param) (e : Expr)
      → ((v : Value) → is_kept k ≡ true → GoesIn (slot_kind k) v → IsArgument p v) → Argued (wanted.OfKind k ∷ ws) e
      → ArgTyped p (argument env (wanted.OfKind k ∷ ws) e)
  of_kind-typed k ws p e f x =
      let h = required (kind_of env e) (fits (Some k) (kind_of env e)) (x.known refl) x.met in
      let g = convert_going Here vars (expr_pos e) (Some k) (kind_of env e) (resolve env e) h (x.kinds refl).value in
      record {
        typed = g.typed;
        fits = f (convert (expr_pos e) (Some k) (kind_of env e) (resolve env e)) g.goes.0 g.goes.1;
      }

  -- .. the address of a module table
  under_module : (p : Pos) (k : Kind) (e : Expr) → names_module env e ≡ true
      → ArgTyped param.ModuleDef (module_address (unary p k e))
  under_module p k (word q w) h = record { typed = tt; fits = refl }
  under_module p k _ h = absurd (cc)

  module_typed : (e : Expr) → is_module_address env e ≡ true → ArgTyped param.ModuleDef (module_address e)
  module_typed (unary p k e) h = under_module p k e (and_right (is_address (prefix_of k)) (names_module env e) h)
  module_typed _ h = absurd (cc)

  table-typed : (ws : List Want) (e : Expr) → Argued (wanted.ModuleTable ∷ ws) e
      → ArgTyped param.ModuleDef (argument env (wanted.ModuleTable ∷ ws) e)
  table-typed ws e x =
      let m = table_address (is_module_address env e) (is_module_form (argument_form env e)) (kind_of env e) x.known
      (module_written env e (argument_form env e) (form_written env e)) x.met in
      subst (λ (b : Bool). ArgTyped param.ModuleDef (if b then module_address e else convert (expr_pos e) None
      (kind_of env e) (resolve env e))) (sym m) (module_typed e m)

  said-typed : (p : Param) (ws : List Want) (e : Expr) → Argued (param_want p ∷ ws) e
      → ArgTyped p (argument env (param_want p ∷ ws) e)
  said-typed param.Int ws e x = of_kind-typed kinds.Int ws param.Int e (λ v k g. g) x
  said-typed param.Long ws e x = of_kind-typed kinds.Long ws param.Long e (λ v k g. g) x
  said-typed param.Size ws e x = of_kind-typed kinds.Size ws param.Size e (λ v k g. g) x
  said-typed param.Text ws e x = of_kind-typed kinds.Text ws param.Text e (λ v k g. g) x
  said-typed param.TextOrNull ws e x = of_kind-typed kinds.Text ws param.TextOrNull e (λ v k g. g) x
  said-typed param.Object ws e x = of_kind-typed (kinds.Object None) ws param.Object e (λ v k g. g) x
  said-typed param.ObjectOrNull ws e x = of_kind-typed (kinds.Object None) ws param.ObjectOrNull e (λ v k g. g) x
  said-typed param.ModuleDef ws e x = table-typed ws e x

  goes_argument : (k : ValueKind) (v : Value) → is_kept k ≡ true → GoesIn (slot_kind k) v
      → IsArgument (held_kind (Some k)) v
  goes_argument kinds.Int v h g = g
  goes_argument kinds.Long v h g = g
  goes_argument kinds.Size v h g = g
  goes_argument kinds.Text v h g = g
  goes_argument (kinds.Object s) v h g = g
  goes_argument _ v h g = absurd (cc)

  -- .. a counted argument
  integer_fits : (k : Option ValueKind) → is_integer k ≡ true → fits (Some kinds.Size) k ≡ true
  integer_fits k h = rw h refl

  counted-typed : (n : ℕ) (ws : List Want) (e : Expr) → Argued (wanted.Count n ∷ ws) e
      → ArgTyped param.Size (argument env (wanted.Count n ∷ ws) e)
  counted-typed n ws e x =
      let s = x.known refl in
      let h = required (kind_of env e) (is_count_form n (argument_form env e)) s x.met in
      let i = count_written env e n (argument_form env e) (form_written env e) h s in
      let g = convert_going Here vars (expr_pos e) (Some kinds.Size) (kind_of env e) (resolve env e)
      (integer_fits (kind_of env e) i) (x.kinds refl).value in
      record { typed = g.typed; fits = g.goes.1 }

  limited-typed : (n : ℕ) (ws : List Want) (e : Expr) → Argued (wanted.AtMost n ∷ ws) e
      → ArgTyped param.Size (argument env (wanted.AtMost n ∷ ws) e)
  limited-typed n ws e x =
      let s = x.known refl in
      let h = required (kind_of env e) (is_limit_form n (argument_form env e)) s x.met in
      let i = limit_written env e n (argument_form env e) (form_written env e) h s in
      let g = convert_going Here vars (expr_pos e) (Some kinds.Size) (kind_of env e) (resolve env e)
      (integer_fits (kind_of env e) i) (x.kinds refl).value in
      record { typed = g.typed; fits = g.goes.1 }

  -- .. a format
  literal-typed : (b : Bool) (ws : List Want) (e : Expr) → is_literal e ≡ true
      → ArgTyped param.Text (argument env (wanted.Format b ∷ ws) e)
  literal-typed b ws (text p ns) h = record { typed = tt; fits = inl refl }
  literal-typed b ws _ h = absurd (cc)

  -- .. an argument of any kind
  given_fits : (k : Option ValueKind) (v : Value) → is_some k ≡ true → not (is_void k) ≡ true → Kin k v
      → IsArgument (given_param k) v
  given_fits (Some kinds.Int) v s h g = g
  given_fits (Some kinds.Long) v s h g = omega (arith, g)
  given_fits (Some kinds.Size) v s h g = omega (arith, g)
  given_fits (Some kinds.Text) v s h g = g
  given_fits (Some (kinds.Object t)) v s h g = g
  given_fits (Some kinds.Null) v s h g = null_column v g
  given_fits _ v s h g = absurd (cc)

  anything-typed : (ws : List Want) (e : Expr) → Argued (wanted.Anything ∷ ws) e
      → ArgTyped (given_param (kind_of env e)) (argument env (wanted.Anything ∷ ws) e)
  anything-typed ws e x =
      let t = (x.kinds refl).value in
      record { typed = t.typed; fits = given_fits (kind_of env e) (resolve env e) (x.known refl) x.met t.kin }

  -- .. the NULL after the last
  closing-typed : (ws : List Want) (e : Expr) → Argued (wanted.NullConstant ∷ ws) e
      → ArgTyped param.ObjectOrNull (argument env (wanted.NullConstant ∷ ws) e)
  closing-typed ws e x =
      let t = (x.kinds refl).value in
      let h = required (kind_of env e) (is_null_form (argument_form env e)) (x.known refl) x.met in
      let n = null_written env e (argument_form env e) (form_written env e) h in
      let P : Option ValueKind → Type 0 = λ k. Kin k (resolve env e) in
      record { typed = t.typed; fits = null_column (resolve env e) (subst P n t.kin) }

  -- .. a place that is emptied
  place_kept : (k : ValueKind) (s : Place) → IsPlaceTyped Here vars k s → is_kept k ≡ true
  place_kept k (local_place p n) h = h.0
  place_kept k (global_place p n) h = h.0
  place_kept k (field_place p v t n) h = h.0
  place_kept k no_place h = absurd h

  emptied-typed : (p : Pos) (k : Option ValueKind) (s : Place) → fits (Some (kinds.Object None)) k ≡ true
      → IsPlaceOf Here vars k s → ArgTyped param.ObjectOrNull (emptied p (or_int k) s)
  emptied-typed p (Some (kinds.Object t)) s f h = record { typed = (refl, h); fits = refl }
  emptied-typed p (Some kinds.Null) s f h = let e = place_kept kinds.Null s h in absurd (cc)
  emptied-typed p _ s f h = absurd (cc)

  cleared-typed : (ws : List Want) (e : Expr) → Argued (wanted.ObjectPlace ∷ ws) e
      → ArgTyped param.ObjectOrNull (argument env (wanted.ObjectPlace ∷ ws) e)
  cleared-typed ws e x =
      let o = fits (Some (kinds.Object None)) (kind_of env e) in
      let h = required (kind_of env e) (is_place_form (argument_form env e) && o) (x.known refl) x.met in
      let s = place_written env e (argument_form env e) (form_written env e) (and_left _ o h) in
      let t = emptied-typed (expr_pos e) (kind_of env e) (place_of env e) (and_right
      (is_place_form (argument_form env e)) o h) ((x.kinds refl).place s) in
      subst (λ (b : Bool). ArgTyped param.ObjectOrNull (if b then emptied (expr_pos e) (or_int (kind_of env e))
      (place_of env e) else convert (expr_pos e) None (kind_of env e) (resolve env e))) (sym s) t

  taken : (w : Want) (p : Param) (ws : List Want) (e : Expr) (v : Want) (q : Param) → w ≡ v → p ≡ q
      → (Argued (v ∷ ws) e → ArgTyped q (argument env (v ∷ ws) e)) → Argued (w ∷ ws) e
      → ArgTyped p (argument env (w ∷ ws) e)
  taken w p ws e v q h j f =
      subst (λ (o : Want). Argued (o ∷ ws) e → ArgTyped p (argument env (o ∷ ws) e)) (sym h) (subst
      (λ (r : Param). Argued (v ∷ ws) e → ArgTyped r (argument env (v ∷ ws) e)) (sym j) f)

  pub arg_typed : (w : Want) (p : Param) (ws : List Want) (e : Expr) → Takes env w p e → Argued (w ∷ ws) e
      → ArgTyped p (argument env (w ∷ ws) e)
  arg_typed w p ws e (as_said h) x =
      subst (λ (o : Want). Argued (o ∷ ws) e → ArgTyped p (argument env (o ∷ ws) e)) (sym h) (said-typed p ws e) x
  arg_typed w p ws e (of_kind k i h j) x =
      taken w p ws e (wanted.OfKind k) (held_kind (Some k)) h j (of_kind-typed k ws (held_kind (Some k)) e
      (goes_argument k)) x
  arg_typed w p ws e (counted n h j) x = taken w p ws e (wanted.Count n) param.Size h j (counted-typed n ws e) x
  arg_typed w p ws e (limited n h j) x = taken w p ws e (wanted.AtMost n) param.Size h j (limited-typed n ws e) x
  arg_typed w p ws e (formatted b h j l) x =
      taken w p ws e (wanted.Format b) param.Text h j (λ y. literal-typed b ws e l) x
  arg_typed w p ws e (anything h j) x =
      taken w p ws e wanted.Anything (given_param (kind_of env e)) h j (anything-typed ws e) x
  arg_typed w p ws e (closing h j) x =
      taken w p ws e wanted.NullConstant param.ObjectOrNull h j (closing-typed ws e) x
  arg_typed w p ws e (cleared h j) x =
      taken w p ws e wanted.ObjectPlace param.ObjectOrNull h j (cleared-typed ws e) x
