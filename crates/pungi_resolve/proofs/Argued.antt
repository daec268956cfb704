-- Arguments of a call in which no rule holds, and what it writes.
--   HasLocal env e k          an argument is the address of a local of this kind
--   IsAddress env e form      what that says of how an argument is written
--   IsArgued env ws e, AreArgued    what is known of an argument where these are wanted, and of all
--   ToLocal env a e           the call writes such a value to a local that may hold it
use Rattle.std.proofs.Common.{◌≡◌, ℕ, Bool, true, false, List, [], ◌∷◌, ◌⊎◌}
use Rattle.std.proofs.Common.{inl, inr, Option, Some, None, refl, sym, ap, subst}
use Rattle.std.specs.Prelude.{◌&&◌, ◌||◌, is_some, is_none, if◌then◌else◌}
use Rattle.pungi_base.specs.declared.kind.Kind.{Kind}
use Rattle.pungi_base.specs.declared.names.Name.{Name}
use Rattle.pungi_base.specs.declared.pos.Pos.{Pos}
use Rattle.pungi_tree.specs.Syntax.{Expr, word, int, null, unary, arrow, Exprs, no_exprs, expr_and, Item}
use Rattle.pungi_api.specs.declared.answer.Answer.{Answer}
use Rattle.pungi_api.specs.declared.answer.Answer.TheVariants as answers
use Rattle.pungi_types.specs.declared.kind.ValueKind.{ValueKind}
use Rattle.pungi_types.specs.declared.local.Local.{Local}
use Rattle.pungi_types.specs.declared.wants.ArgumentForm.{ArgumentForm}
use Rattle.pungi_types.specs.declared.wants.ArgumentForm.TheVariants as written
use Rattle.pungi_types.specs.declared.wants.Want.{Want}
use Rattle.pungi_types.specs.declared.wants.Want.TheVariants as wanted
use Rattle.pungi_types.specs.Names.{Env, a_function, a_static, unknown, local_in, local_or, global_or}
use Rattle.pungi_types.specs.Names.{global_kind}
use Rattle.pungi_types.specs.Names.{is_function, is_own_static, static_number}
use Rattle.pungi_types.specs.Operators.{prefix_of}
use Rattle.pungi_types.specs.Calls.{is_place, is_address, is_module_address, is_local_address, is_local_meaning}
use Rattle.pungi_types.specs.Calls.{names_local, names_module, local_kind, meaning_kind, argument_form, answer_kind}
use Rattle.pungi_types.specs.Calls.{output_fits, is_output_form, is_null_form, passed_address, first_met, is_done}
use Rattle.pungi_types.specs.Calls.{other_wants}
use Rattle.pungi_types.specs.Exprs.{kind_of}
use Rattle.pungi_resolve.specs.Outputs.{local_output, written_local}
use Rattle.pungi_resolved.specs.declared.output_step.OutputStep.TheVariants.{Writes}
use Rattle.pungi_resolve.proofs.Clean.{and_left, and_right}

-- .. the address of a local
pub record HasLocal (env : Env) (e : Expr) (k : Option ValueKind) : Type 0 where
  pub local : Local
  pub name : ℕ
  pub there : local_in env.locals name ≡ Some local
  pub kind : local.kind ≡ k
  pub steps : (a : Answer) → written_local env a e ≡ Writes local.number a ∷ []

abbrev pub IsAddress : Env → Expr → ArgumentForm → Type 0
IsAddress env e (written.LocalAddress k) = HasLocal env e k
IsAddress env e written.Null = (is_local_address env e ≡ false) × ((a : Answer) → written_local env a e ≡ [])
IsAddress env e _ = is_local_address env e ≡ false

global-local : (file : List Item) (w : ℕ) (g : Option ValueKind) → is_local_meaning (global_or file w g) ≡ false
global-local file w (Some k) = refl
global-local file w None = elim (is_own_static file w) as (λ b. is_local_meaning
    (if b then a_static (static_number file w) else unknown) ≡ false) [ true ↦ refl | false ↦ refl ]

none-local : (file : List Item) (w : ℕ) → is_local_meaning (local_or file w None) ≡ false
none-local file w = elim (is_function file w) as (λ b. is_local_meaning
    (if b then a_function else global_or file w (global_kind file w)) ≡ false)
    [ true ↦ refl | false ↦ global-local file w (global_kind file w) ]

local-named : (env : Env) (p q : Pos) (k : Kind) (n : Name) (o : Option Local) → local_in env.locals n.0 ≡ o
    → is_local_meaning (local_or env.file.items n.0 o) ≡ true
    → HasLocal env (unary p k (word q n)) (meaning_kind (local_or env.file.items n.0 o))
local-named env p q k n (Some l) e h = record {
  local = l;
  name = n.0;
  there = e;
  kind = refl;
  steps = λ a. ap (λ (o : Option Local). local_output a (local_or env.file.items n.0 o)) e;
}
local-named env p q k n None e h = let f = none-local env.file.items n.0 in absurd (cc)

local-address : (env : Env) (p : Pos) (k : Kind) (e : Expr) → names_local env e ≡ true
    → HasLocal env (unary p k e) (local_kind env e)
local-address env p k (word q n) h =
    let P : Option Local → Type 0 = λ o. HasLocal env (unary p k (word q n)) (meaning_kind
    (local_or env.file.items n.0 o)) in
    local-named env p q k n (local_in env.locals n.0) refl h
local-address env p k _ h = absurd (cc)

table-local : (file : List Item) (w : ℕ) (o : Option Local) → is_none o ≡ true
    → is_local_meaning (local_or file w o) ≡ false
table-local file w None h = none-local file w
table-local file w (Some l) h = absurd (cc)

module-local : (env : Env) (e : Expr) → names_module env e ≡ true → names_local env e ≡ false
module-local env (word p n) h =
    table-local env.file.items n.0 (local_in env.locals n.0) (and_left (is_none (local_in env.locals n.0)) _ h)
module-local env _ h = absurd (cc)

never : (a b : Bool) → b ≡ false → (a && b) ≡ false
never true b h = h
never false b h = refl

pub address-form : (env : Env) (e : Expr) → IsAddress env e (argument_form env e)
address-form env (null p) = (refl, λ a. refl)
address-form env (int p v l u) = refl
address-form env (arrow p e n) = refl
address-form env (word p n) =
    elim (is_place env (word p n)) as (λ b. IsAddress env (word p n) (if b then written.Place else written.Other))
    [ true ↦ refl | false ↦ refl ]
address-form env (unary p k e) =
    elim (is_module_address env (unary p k e)) as (λ b. (is_module_address env (unary p k e) ≡ b)
    → IsAddress env (unary p k e) (if b then written.Module else (if is_local_address env
    (unary p k e) then written.LocalAddress (local_kind env e) else written.Other))) [
      | true ↦ λ h. never (is_address (prefix_of k)) (names_local env e) (module-local env e
          (and_right (is_address (prefix_of k)) (names_module env e) h))
      | false ↦ λ h. elim (is_local_address env (unary p k e)) as (λ c. (is_local_address env (unary p k e) ≡ c)
          → IsAddress env (unary p k e) (if c then written.LocalAddress (local_kind env e) else written.Other)) [
            | true ↦ λ l. local-address env p k e (and_right (is_address (prefix_of k)) (names_local env e) l)
            | false ↦ λ l. l
          ] refl
    ] refl
address-form env _ = refl

-- .. arguments
pub record IsArgued (env : Env) (ws : List Want) (e : Expr) : Type 0 where
  pub met : first_met ws (argument_form env e) (kind_of env e) ≡ true
  pub known : passed_address env ws e ≡ false → is_some (kind_of env e) ≡ true

abbrev pub AreArgued : Env → List Want → Exprs → Type 0
AreArgued env ws no_exprs = is_done ws ≡ true
AreArgued env ws (expr_and e es) = IsArgued env ws e × AreArgued env (other_wants ws) es

-- .. what is written
pub record ToLocal (env : Env) (a : Answer) (e : Expr) : Type 0 where
  pub local : Local
  pub name : ℕ
  pub there : local_in env.locals name ≡ Some local
  pub steps : written_local env a e ≡ Writes local.number a ∷ []
  pub fits : output_fits (answer_kind a) local.kind ≡ true

-- a value that is no address of a local has no kind, against what is known of it
no-kind : (l : Bool) (k : Option ValueKind) → l ≡ false → is_none k ≡ true → (l ≡ false → is_some k ≡ true) → ⊥
no-kind l None h n f = let s = f h in cc
no-kind l (Some k) h n f = cc

to-local : (env : Env) (a : Answer) (e : Expr) (form : ArgumentForm) (k : Option ValueKind) → IsAddress env e form
    → is_output_form a form k ≡ true → (is_local_address env e ≡ false → is_some k ≡ true) → ToLocal env a e
to-local env a e (written.LocalAddress j) k w h f = record {
  local = w.local;
  name = w.name;
  there = w.there;
  steps = w.steps a;
  fits = subst (λ (i : Option ValueKind). output_fits (answer_kind a) i ≡ true) (sym w.kind) h;
}
to-local env a e written.Null k w h f = absurd (no-kind (is_local_address env e) k w.0 h f)
to-local env a e written.Module k w h f = absurd (no-kind (is_local_address env e) k w h f)
to-local env a e (written.Constant v) k w h f = absurd (no-kind (is_local_address env e) k w h f)
to-local env a e written.Place k w h f = absurd (no-kind (is_local_address env e) k w h f)
to-local env a e written.Other k w h f = absurd (no-kind (is_local_address env e) k w h f)

pub output-local : (env : Env) (a : Answer) (ws : List Want) (e : Expr) → IsArgued env (wanted.Output a ∷ ws) e
    → ToLocal env a e
output-local env a ws e x = to-local env a e (argument_form env e) (kind_of env e) (address-form env e) x.met x.known

pub position-local : (env : Env) (ws : List Want) (e : Expr) → IsArgued env (wanted.Position ∷ ws) e
    → ToLocal env answers.AnySize e
position-local env ws e x =
    to-local env answers.AnySize e (argument_form env e) (kind_of env e) (address-form env e) x.met x.known

null-or-local : (env : Env) (a : Answer) (e : Expr) (form : ArgumentForm) (k : Option ValueKind) → IsAddress env e form
    → (is_null_form form || is_output_form a form k) ≡ true → (is_local_address env e ≡ false → is_some k ≡ true)
    → (written_local env a e ≡ []) ⊎ ToLocal env a e
null-or-local env a e written.Null k w h f = inl (w.1 a)
null-or-local env a e (written.LocalAddress j) k w h f = inr (to-local env a e (written.LocalAddress j) k w h f)
null-or-local env a e written.Module k w h f = inr (to-local env a e written.Module k w h f)
null-or-local env a e (written.Constant v) k w h f = inr (to-local env a e (written.Constant v) k w h f)
null-or-local env a e written.Place k w h f = inr (to-local env a e written.Place k w h f)
null-or-local env a e written.Other k w h f = inr (to-local env a e written.Other k w h f)

pub optional-local : (env : Env) (a : Answer) (ws : List Want) (e : Expr)
    → IsArgued env (wanted.OptionalOutput a ∷ ws) e → (written_local env a e ≡ []) ⊎ ToLocal env a e
optional-local env a ws e x =
    null-or-local env a e (argument_form env e) (kind_of env e) (address-form env e) x.met x.known
