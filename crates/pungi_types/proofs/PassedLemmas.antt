-- Arguments that only their call examines.
use Rattle.std.proofs.Common.{◌≡◌, ℕ, ◌&&◌, ◌||◌, Bool, true, false, List, ◌∷◌, refl, ap, sym}
use Rattle.std.proofs.Common.{Option, Some, None, is_none, cond}
use Rattle.pungi_tree.specs.Syntax as plain
use Rattle.pungi_tree.specs.Syntax.{word, unary}
use Rattle.pungi_tree.specs.Syntax.{Item}
use Rattle.pungi_types.specs.Names.{Env, local_in, local_or, global_or, global_kind, is_function, is_own_static}
use Rattle.pungi_types.specs.Names.{static_number, a_function, a_static, unknown, is_type_object}
use Rattle.pungi_types.specs.Calls.{is_address, is_local_meaning, names_local, names_type_object, is_module_address}
use Rattle.pungi_types.specs.Calls.{is_local_address, local_kind, argument_form, is_module_form, is_null_form}
use Rattle.pungi_types.specs.Calls.{is_output_form, passed_address, first_met, is_place}
use Rattle.pungi_types.specs.Exprs.{operand, kind_of, unary_kind}
use Rattle.pungi_types.specs.Operators.{prefix_of}
use Rattle.pungi_api.specs.declared.answer.Answer.TheVariants as answers
use Rattle.pungi_types.specs.declared.kind.ValueKind.{ValueKind}
use Rattle.pungi_types.specs.declared.local.Local.{Local}
use Rattle.pungi_types.specs.declared.operator.Prefix.{Prefix}
use Rattle.pungi_types.specs.declared.operator.Prefix.TheVariants as prefixes
use Rattle.pungi_types.specs.declared.wants.ArgumentForm.{ArgumentForm}
use Rattle.pungi_types.specs.declared.wants.ArgumentForm.TheVariants as written
use Rattle.pungi_types.specs.declared.wants.Want.{Want}
use Rattle.pungi_types.specs.declared.wants.Want.TheVariants as wanted

-- what is no local means none
no_local-static : (own : Bool) (n : ℕ) → is_local_meaning (cond own (a_static n) unknown) ≡ false
no_local-static true n = refl
no_local-static false n = refl

no_local-global : (file : List Item) (w : ℕ) (k : Option ValueKind) → is_local_meaning (global_or file w k) ≡ false
no_local-global file w None = no_local-static (is_own_static file w) (static_number file w)
no_local-global file w (Some k) = refl

no_local-function : (file : List Item) (w : ℕ) (here : Bool)
    → is_local_meaning (cond here a_function (global_or file w (global_kind file w))) ≡ false
no_local-function file w true = refl
no_local-function file w false = no_local-global file w (global_kind file w)

no_type_object : (file : List Item) (w : ℕ) (o : Option Local) (object : Bool)
    → is_local_meaning (local_or file w o) ≡ true → (is_none o && object) ≡ false
no_type_object file w (Some l) object h = refl
no_type_object file w None object h =
    let e = no_local-function file w (is_function file w) in absurd (cc)

local_no_type : (env : Env) (e : plain.Expr) → names_local env e ≡ true → names_type_object env e ≡ false
local_no_type env (word p n) h =
    no_type_object env.file.items n.0 (local_in env.locals n.0) (is_type_object env.file.items n.0) h
local_no_type env e h = absurd cc

local_none : (f : Prefix) (env : Env) (e : plain.Expr) → (is_address f && names_local env e) ≡ true
    → unary_kind f (names_type_object env e) (is_place env e) (kind_of env e) ≡ None
local_none prefixes.Address env e h = rw (local_no_type env e h)
local_none f env e h = absurd cc

-- the address of a local has no kind
local_operand : (env : Env) (e : plain.Expr) → is_local_address env e ≡ true → operand (kind_of env e) e ≡ None
local_operand env (unary p k e) h = local_none (prefix_of k) env e h
local_operand env e h = absurd cc

module_written : (here : Bool) (f : ArgumentForm) → (here || false) ≡ true
    → is_module_form (cond here written.Module f) ≡ true
module_written true f h = refl
module_written false f h = absurd cc

module_form : (env : Env) (e : plain.Expr) → (is_module_address env e || false) ≡ true
    → is_module_form (argument_form env e) ≡ true
module_form env (unary p k e) h =
    module_written (is_module_address env (unary p k e)) (cond (is_local_address env (unary p k e))
    (written.LocalAddress (local_kind env e)) written.Other) h
module_form env e h = absurd cc

-- of an address that only its call examines, no kind is asked
pub passed_met : (env : Env) (ws : List Want) (e : plain.Expr) → passed_address env ws e ≡ true
    → first_met ws (argument_form env e) None ≡ first_met ws (argument_form env e) (operand (kind_of env e) e)
passed_met env (wanted.ModuleTable ∷ ws) e h = rw (module_form env e h)
passed_met env (wanted.Output a ∷ ws) e h =
    ap (λ k. is_output_form a (argument_form env e) k) (sym (local_operand env e h))
passed_met env (wanted.OptionalOutput a ∷ ws) e h =
    ap (λ k. is_null_form (argument_form env e) || is_output_form a (argument_form env e) k)
    (sym (local_operand env e h))
passed_met env (wanted.Position ∷ ws) e h =
    ap (λ k. is_output_form answers.AnySize (argument_form env e) k) (sym (local_operand env e h))
passed_met env ws e h = absurd cc
