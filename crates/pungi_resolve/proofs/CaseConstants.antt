-- The constant of a case in which no rule holds is one that a `long` has.
--   case-long    its value
use Rattle.std.proofs.Common.{◌≡◌, ◌∙◌, ℕ, zero, suc, ◌≤◌, pos, negsuc, arith, Bool, true, false, Some, None, refl, ap}
use Rattle.std.specs.Prelude.{◌&&◌, nat_lt, nat_le, neg_ℤ, int_lt, if◌then◌else◌}
use Rattle.std.proofs.lemmas.Bool.Decides.{nat_tests}
use Rattle.pungi_base.specs.declared.kind.Kind.{Kind}
use Rattle.pungi_base.specs.declared.pos.Pos.{Pos}
use Rattle.pungi_tree.specs.Syntax.{Expr, word, int, char, unary}
use Rattle.pungi_types.specs.Findings.{Findings, nothing_found}
use Rattle.pungi_types.specs.Names.{Env}
use Rattle.pungi_types.specs.Operators.{prefix_of}
use Rattle.pungi_types.specs.Calls.{is_address, names_type_object}
use Rattle.pungi_types.specs.Exprs.{is_bad_int, expr_findings}
use Rattle.pungi_types.specs.Labels.{byte, unsigned_constant, negate, is_minus, constant_of}
use Rattle.pungi_resolve.specs.Sound.{is_long}
use Rattle.pungi_resolve.specs.Stmts.{case_value}
use Rattle.pungi_resolve.proofs.Clean.{Clean, left, not_when, or_right}
use Rattle.pungi_resolve.proofs.SoundExprs.{node, unless}

no_less : (m n : ℕ) → nat_lt m n ≡ false → n ≤ m
no_less m n h = grind (arith, nat_tests)

no_more : (m n : ℕ) → n ≤ m → nat_le n m ≡ true
no_more m n h = grind (arith, nat_tests)

byte_low : (c : ℕ) → byte c ≤ 255
byte_low c = elim (nat_lt c 256) as (λ b. (nat_lt c 256 ≡ b) → (if b then c else 0) ≤ 255) [
  | true ↦ λ e. grind (arith, nat_tests)
  | false ↦ λ e. omega arith
] refl

positive : (n : ℕ) → n ≤ 9223372036854775807 → is_long (pos n) ≡ true
positive n h = no_more 9223372036854775807 n h

negative : (n : ℕ) → n ≤ 9223372036854775807 → is_long (neg_ℤ (pos n)) ≡ true
negative zero h = refl
negative (suc n) h = no_more 9223372036854775807 n (omega (arith, h))

-- the number of an Int in which no rule holds
small_int : (n : ℕ) (u : Bool) → is_bad_int (pos n) u ≡ false → n ≤ 9223372036854775807
small_int n u bad = no_less 9223372036854775807 n (or_right (int_lt (pos n) (pos 0)) _ (or_right u _ bad))

-- what stands after a `-`, where it is a constant
after_minus : (env : Env) (e : Expr) → Clean (expr_findings env e)
    → is_long (case_value (negate (unsigned_constant e))) ≡ true
after_minus env (int p (pos n) l u) c =
    let small = small_int n u (not_when (is_bad_int (pos n) u) p 14 (node env (int p (pos n) l u) c).fourteen) in
    elim (int_lt (pos n) (pos 0)) as (λ b. is_long (case_value (negate (if b then None else Some (pos n)))) ≡ true)
    [ true ↦ refl | false ↦ negative n small ]
after_minus env (int p (negsuc n) l u) c = refl
after_minus env (char p x) c = let l = byte_low x in negative (byte x) (omega (arith, l))
after_minus env _ c = refl

no_address : (a : Bool) → (a && false) ≡ false
no_address true = refl
no_address false = refl

-- no name of a type stands where a constant does
operand_clean : (env : Env) (p : Pos) (k : Kind) (e : Expr) → names_type_object env e ≡ false
    → Clean (expr_findings env (unary p k e)) → Clean (expr_findings env e)
operand_clean env p k e h c =
    let skipped = is_address (prefix_of k) && names_type_object env e in
    let fs : Findings = (if skipped then nothing_found else expr_findings env e) in
    unless skipped (expr_findings env e) (left fs _ c) (ap (λ (b : Bool). is_address (prefix_of k) && b) h
    ∙ no_address (is_address (prefix_of k)))

minus : (env : Env) (p : Pos) (k : Kind) (e : Expr) → Clean (expr_findings env (unary p k e))
    → is_long (case_value (negate (unsigned_constant e))) ≡ true
minus env p k (word q w) c = refl
minus env p k (int q v l u) c = after_minus env (int q v l u) (operand_clean env p k (int q v l u) refl c)
minus env p k (char q x) c = after_minus env (char q x) (operand_clean env p k (char q x) refl c)
minus env p k _ c = refl

pub case-long : (env : Env) (e : Expr) → Clean (expr_findings env e) → is_long (case_value (constant_of e)) ≡ true
case-long env (unary p k e) c =
    elim (is_minus k) as (λ b. is_long (case_value (if b then negate (unsigned_constant e) else None)) ≡ true)
    [ true ↦ minus env p k e c | false ↦ refl ]
case-long env (int p (pos n) l u) c =
    let small = small_int n u (not_when (is_bad_int (pos n) u) p 14 (node env (int p (pos n) l u) c).fourteen) in
    elim (int_lt (pos n) (pos 0)) as (λ b. is_long (case_value (if b then None else Some (pos n))) ≡ true)
    [ true ↦ refl | false ↦ positive n small ]
case-long env (int p (negsuc n) l u) c = refl
case-long env (char p x) c = let l = byte_low x in positive (byte x) (omega (arith, l))
case-long env _ c = refl
