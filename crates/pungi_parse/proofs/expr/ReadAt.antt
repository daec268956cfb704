-- Reading an expression of a level by the case that the level is.
--   read_at_comma, read_at_assign, read_at_conditional, read_at_climb, read_at_unary    the levels 0, 1, 2, 3 to 13,
--   and from 14 on
--   expr_none, expr_flat, expr_some, spec_none, spec_some, params_none, params_some    nothing where no node may be
--   nested, else what is read one level in
use Rattle.std.proofs.Common.{◌≡◌, ℕ, zero, suc, ◌-◌, ◌<◌, ◌≤◌, List, None, refl, sub-one, arith}
use Rattle.pungi_base.specs.declared.names.Name.{Name}
use Rattle.pungi_parse.specs.expr.ExprReader.{read_at, comma_at, assign_at, conditional_at, climb, unary, expr_at}
use Rattle.pungi_parse.specs.Readers.{readers}
use Rattle.pungi_parse.specs.types.TypeReader.{Lower, spec_at, params_at}
use Rattle.pungi_parse.proofs.Tools.{le_true, le_false}
use Rattle.pungi_tree.specs.Placed.{Placed}

module _ (types : List Name) (low : Lower) (most : ℕ) (ts : List Placed) where
  pub read_at_comma : (l : ℕ) → l ≡ 0 → read_at types low most l ts ≡ comma_at types low most ts
  unfolding read_at
  read_at_comma l h = rw h refl

  pub read_at_assign : (l : ℕ) → l ≡ 1 → read_at types low most l ts ≡ assign_at types low most ts
  unfolding read_at
  read_at_assign l h = rw h refl

  pub read_at_conditional : (l : ℕ) → l ≡ 2 → read_at types low most l ts ≡ conditional_at types low most ts
  unfolding read_at
  read_at_conditional l h = rw h refl

  pub read_at_climb : (l : ℕ) → 3 ≤ l → l < 14 → read_at types low most l ts ≡ climb types low most l ts
  unfolding read_at
  read_at_climb zero a b = absurd (omega arith)
  read_at_climb (suc zero) a b = absurd (omega arith)
  read_at_climb (suc (suc zero)) a b = absurd (omega arith)
  read_at_climb (suc (suc (suc l))) a b = rw (le_false 14 (suc (suc (suc l))) b) refl

  pub read_at_unary : (l : ℕ) → 14 ≤ l → read_at types low most l ts ≡ unary types low most ts
  unfolding read_at
  read_at_unary zero a = absurd (omega arith)
  read_at_unary (suc zero) a = absurd (omega arith)
  read_at_unary (suc (suc zero)) a = absurd (omega arith)
  read_at_unary (suc (suc (suc l))) a = rw (le_true 14 (suc (suc (suc l))) a) refl

module _ (types : List Name) where
  pub expr_none : (n d l : ℕ) (ts : List Placed) → n ≡ 0 → (readers types n d).expr l ts ≡ None
  unfolding readers
  expr_none zero d l ts h = refl
  expr_none (suc n) d l ts h = absurd (omega arith)

  pub expr_flat : (n d l : ℕ) (ts : List Placed) → d ≡ 0 → (readers types n d).expr l ts ≡ None
  unfolding readers expr_at
  expr_flat zero d l ts h = refl
  expr_flat (suc n) zero l ts h = refl
  expr_flat (suc n) (suc d) l ts h = absurd (omega arith)

  pub expr_some : (n d l : ℕ) (ts : List Placed) → 0 < n → 0 < d
      → (readers types n d).expr l ts ≡ read_at types (readers types (n - 1) (d - 1)) (suc (d - 1)) l ts
  unfolding readers expr_at
  expr_some zero d l ts h g = absurd (omega arith)
  expr_some (suc n) zero l ts h g = absurd (omega arith)
  expr_some (suc n) (suc d) l ts h g = rw (sub-one, sub-one) refl

  pub spec_none : (n d : ℕ) (ts : List Placed) → n ≡ 0 → (readers types n d).spec ts ≡ None
  unfolding readers
  spec_none zero d ts h = refl
  spec_none (suc n) d ts h = absurd (omega arith)

  pub spec_some : (n d : ℕ) (ts : List Placed) → 0 < n
      → (readers types n d).spec ts ≡ spec_at types (readers types (n - 1) d) ts
  unfolding readers
  spec_some zero d ts h = absurd (omega arith)
  spec_some (suc n) d ts h = rw sub-one refl

  pub params_none : (n d : ℕ) (ts : List Placed) → n ≡ 0 → (readers types n d).params ts ≡ None
  unfolding readers
  params_none zero d ts h = refl
  params_none (suc n) d ts h = absurd (omega arith)

  pub params_some : (n d : ℕ) (ts : List Placed) → 0 < n
      → (readers types n d).params ts ≡ params_at types (readers types (n - 1) d) ts
  unfolding readers
  params_some zero d ts h = absurd (omega arith)
  params_some (suc n) d ts h = rw sub-one refl
