-- Where no rule holds in what uses a value, the value is no Void call's, and what is required of it is required of its
-- kind.
use Rattle.std.proofs.Common.{◌≡◌, Bool, true, false, List, Option, Some, None, refl, subst}
use Rattle.std.specs.Prelude.{◌&&◌, ◌||◌, is_some, if◌then◌else◌}
use Rattle.pungi_base.specs.declared.pos.Pos.{Pos}
use Rattle.pungi_tree.specs.Syntax.{Expr, unary}
use Rattle.pungi_types.specs.declared.kind.ValueKind.{ValueKind}
use Rattle.pungi_types.specs.declared.kind.ValueKind.TheVariants as kinds
use Rattle.pungi_types.specs.declared.wants.Want.{Want}
use Rattle.pungi_types.specs.Names.{Env}
use Rattle.pungi_types.specs.Kinds.{not_void}
use Rattle.pungi_types.specs.Findings.{nothing_found, ◌and◌, when, when_some}
use Rattle.pungi_types.specs.Operators.{is_void}
use Rattle.pungi_types.specs.Calls.{is_module_address, argument_form, wants_module, wants_output, passed_address}
use Rattle.pungi_types.specs.Calls.{first_met}
use Rattle.pungi_types.specs.Exprs.{kind_of, void_call, operand, void_use, cast_wrong, expr_findings}
use Rattle.pungi_resolve.proofs.Clean.{Clean, left, right, not_when}

not_void-same : (k : Option ValueKind) → is_void k ≡ false → not_void k ≡ k
not_void-same (Some kinds.Void) h = absurd (cc)
not_void-same _ h = refl

called-same : (k : Option ValueKind) (o : Option Pos) → Clean (when_some (is_void k) o 10)
    → (if is_some o then not_void k else k) ≡ k
called-same k None c = refl
called-same k (Some p) c = not_void-same k (not_when (is_void k) p 10 c)

pub operand-same : (env : Env) (e : Expr) → Clean (void_use env e) → operand (kind_of env e) e ≡ kind_of env e
operand-same env e c = called-same (kind_of env e) (void_call e) c

-- .. a node that uses one value, two, or three
pub one-asked : (env : Env) (asks : Option ValueKind → Bool) (p : Pos) (e : Expr)
    → Clean (when (asks (operand (kind_of env e) e)) p 10 and void_use env e) → asks (kind_of env e) ≡ false
one-asked env asks p e c =
    subst (λ (k : Option ValueKind). asks k ≡ false) (operand-same env e (right
    (when (asks (operand (kind_of env e) e)) p 10) _ c)) (not_when _ p 10 (left _ _ c))

pub two-asked : (env : Env) (asks : Option ValueKind → Option ValueKind → Bool) (p : Pos) (a b : Expr)
    → Clean (when (asks (operand (kind_of env a) a) (operand (kind_of env b) b)) p 10
    and (void_use env a and void_use env b)) → asks (kind_of env a) (kind_of env b) ≡ false
two-asked env asks p a b c =
    let u = right (when (asks (operand (kind_of env a) a) (operand (kind_of env b) b)) p 10) _ c in
    let h = not_when _ p 10 (left _ _ c) in
    let i = subst (λ (k : Option ValueKind). asks k (operand (kind_of env b) b) ≡ false)
    (operand-same env a (left (void_use env a) _ u)) h in
    subst (λ (k : Option ValueKind). asks (kind_of env a) k ≡ false) (operand-same env b (right (void_use env a) _ u)) i

pub three-asked : (env : Env) (asks : Option ValueKind → Option ValueKind → Option ValueKind → Bool) (p : Pos)
    (t a b : Expr)
    → Clean (when (asks (operand (kind_of env t) t) (operand (kind_of env a) a) (operand (kind_of env b) b)) p 10
    and (void_use env t and (void_use env a and void_use env b)))
    → asks (kind_of env t) (kind_of env a) (kind_of env b) ≡ false
three-asked env asks p t a b c =
    let u = right (when (asks (operand (kind_of env t) t) (operand (kind_of env a) a) (operand (kind_of env b) b)) p
    10) _ c in
    let v = right (void_use env t) _ u in
    let h = not_when _ p 10 (left _ _ c) in
    let i = subst (λ (k : Option ValueKind). asks k (operand (kind_of env a) a) (operand (kind_of env b) b) ≡ false)
    (operand-same env t (left (void_use env t) _ u)) h in
    let j = subst (λ (k : Option ValueKind). asks (kind_of env t) k (operand (kind_of env b) b) ≡ false)
    (operand-same env a (left (void_use env a) _ v)) i in
    subst (λ (k : Option ValueKind). asks (kind_of env t) (kind_of env a) k ≡ false)
    (operand-same env b (right (void_use env a) _ v)) j

-- a cast, which uses no value where it is to `void`
never : (s : Bool) → (s && false) ≡ false
never true = refl
never false = refl

cast-one : (v : Bool) (env : Env) (to : Option ValueKind) (p : Pos) (e : Expr) → is_void to ≡ v
    → Clean (when (cast_wrong to (operand (kind_of env e) e)) p 10
    and (if v then nothing_found else void_use env e)) → cast_wrong to (kind_of env e) ≡ false
cast-one true env to p e t c = rw t (never (is_some to))
cast-one false env to p e t c = one-asked env (cast_wrong to) p e c

pub cast-asked : (env : Env) (to : Option ValueKind) (p : Pos) (e : Expr)
    → Clean (when (cast_wrong to (operand (kind_of env e) e)) p 10
    and (if is_void to then nothing_found else void_use env e)) → cast_wrong to (kind_of env e) ≡ false
cast-asked env to p e c = cast-one (is_void to) env to p e refl c

-- .. an argument: an address that the call alone examines, which is no call, or a value that is used
none-passed : (a b : Bool) → ((a && false) || (b && false)) ≡ true → ⊥
none-passed true true h = cc
none-passed true false h = cc
none-passed false true h = cc
none-passed false false h = cc

address-same : (env : Env) (ws : List Want) (e : Expr) (k : Option ValueKind) → passed_address env ws e ≡ true
    → operand k e ≡ k
address-same env ws (unary p m e) k h = refl
address-same env ws _ k h = absurd (none-passed (wants_module ws) (wants_output ws) h)

skipped-same : (env : Env) (ws : List Want) (e : Expr) (b : Bool) → passed_address env ws e ≡ b
    → Clean (if b then nothing_found else expr_findings env e and void_use env e)
    → operand (kind_of env e) e ≡ kind_of env e
skipped-same env ws e true t c = address-same env ws e (kind_of env e) t
skipped-same env ws e false t c = operand-same env e (right (expr_findings env e) _ c)

pub argument-met : (env : Env) (ws : List Want) (e : Expr)
    → Clean (if passed_address env ws e then nothing_found else expr_findings env e and void_use env e)
    → first_met ws (argument_form env e) (operand (kind_of env e) e) ≡ true
    → first_met ws (argument_form env e) (kind_of env e) ≡ true
argument-met env ws e c h =
    subst (λ (k : Option ValueKind). first_met ws (argument_form env e) k ≡ true)
    (skipped-same env ws e (passed_address env ws e) refl c) h

-- a value that isn't written is skipped only as a module table
pub value-passed : (env : Env) (ws : List Want) (e : Expr) → wants_output ws ≡ false
    → (wants_module ws && is_module_address env e) ≡ false → passed_address env ws e ≡ false
value-passed env ws e o m = passed (wants_module ws && is_module_address env e) (wants_output ws) _ m o
  where
    passed : (a b c : Bool) → a ≡ false → b ≡ false → (a || (b && c)) ≡ false
    passed true b c h k = absurd (cc)
    passed false true c h k = absurd (cc)
    passed false false c h k = refl
