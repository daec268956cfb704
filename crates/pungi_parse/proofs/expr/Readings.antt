-- What reading is to give: a tree that stands at the front of the tokens, is allowed, and is no deeper than it may be.
--   ReadsExpr, ReadsSpec, ReadsTypeName, ReadsParams, ReadsDeclr    an expression of a level, a type without its
--                                                                   pointers, a type, parameters with their
--                     closing parenthesis, a declarator
use Rattle.std.proofs.Common.{◌≡◌, ℕ, ◌≤◌, true, List, ◌∷◌}
use Rattle.pungi_base.specs.declared.names.Name.{Name}
use Rattle.pungi_base.specs.declared.pos.Pos.{Pos}
use Rattle.pungi_base.specs.declared.punct.Punct.TheVariants as puncts
use Rattle.pungi_tree.specs.ExprDepth.{expr_depth, spec_depth, params_depth, declr_depth}
use Rattle.pungi_tree.specs.ExprLevels.{expr_at, spec_ok, params_ok, declr_ok}
use Rattle.pungi_tree.specs.ExprSpells.{Spells, SpellsSpec, SpellsParams, SpellsDeclr}
use Rattle.pungi_tree.specs.Placed.{Placed, mark_at}
use Rattle.pungi_tree.specs.Syntax.{Expr, Spec, Params, Declr}

pub record ReadsExpr (types : List Name) (d l : ℕ) (ts : List Placed) (x : Expr × List Placed) : Type 0 where
  pub spells : Spells x.0 ts x.1
  pub allowed : expr_at types l x.0 ≡ true
  pub shallow : expr_depth x.0 ≤ d

pub record ReadsSpec (types : List Name) (d : ℕ) (ts : List Placed) (x : Spec × List Placed) : Type 0 where
  pub spells : SpellsSpec x.0 ts x.1
  pub allowed : spec_ok types x.0 ≡ true
  pub shallow : spec_depth x.0 ≤ d

pub record ReadsParams (types : List Name) (d : ℕ) (ts : List Placed) (x : Params × List Placed) : Type 0 where
  pub close : Pos
  pub spells : SpellsParams x.0 ts (mark_at puncts.RightParen close ∷ x.1)
  pub allowed : params_ok types x.0 ≡ true
  pub shallow : params_depth x.0 ≤ d

pub record ReadsDeclr (types : List Name) (d : ℕ) (ts : List Placed) (x : Declr × List Placed) : Type 0 where
  pub spells : SpellsDeclr x.0 ts x.1
  pub allowed : declr_ok types x.0 ≡ true
  pub shallow : declr_depth x.0 ≤ d
