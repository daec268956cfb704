-- The loop over binary operators (C11 6.5.5 to 6.5.14).
--   ClimbsTo types low most l start a d ts    reading at the level `l` has come to this tree of this depth, and goes on
--                                             from it
--   climb_begins, climb_ends, climb_deep, climb_fails, climb_turns    how it begins, ends, is too deep, fails, and
--                                                                     takes one more operator
use Rattle.std.proofs.Common.{◌≡◌, ℕ, zero, suc, ◌+◌, ◌<◌, ◌≤◌, max, List, Some, None, refl, ◌∙◌, arith}
use Rattle.pungi_base.specs.declared.names.Name.{Name}
use Rattle.pungi_base.specs.declared.pos.Pos.{Pos}
use Rattle.pungi_base.specs.declared.punct.Punct.{Punct}
use Rattle.pungi_parse.specs.tokens.OneToken.{eat_operator}
use Rattle.pungi_parse.specs.expr.ExprReader.{casted, climb, operations}
use Rattle.pungi_parse.specs.Gives.{Fails}
use Rattle.pungi_parse.specs.Reading.{chain, on_some, when}
use Rattle.pungi_parse.specs.types.TypeReader.{Lower}
use Rattle.pungi_parse.specs.declared.stop.Stop.{Stop}
use Rattle.pungi_parse.specs.declared.stop.Stop.TheVariants as stops
use Rattle.pungi_parse.proofs.Tools.{lt_true, lt_false}
use Rattle.pungi_tree.specs.ExprDepth.{expr_depth}
use Rattle.pungi_tree.specs.Operators.{binary_level}
use Rattle.pungi_tree.specs.Placed.{Placed}
use Rattle.pungi_tree.specs.Syntax.{Expr, binary}

pub record ClimbsTo (types : List Name) (low : Lower) (most l : ℕ) (start : List Placed) (a : Expr) (d : ℕ)
    (ts : List Placed) : Type 0 where
  pub fuel : ℕ
  pub enough : most ≤ fuel + d
  pub comes : climb types low most l start ≡ operations types low most fuel l a ts
  pub deep : d ≡ expr_depth a
  pub bound : d ≤ most

module _ (types : List Name) (low : Lower) (most l : ℕ) (start : List Placed) where
  pub climb_begins : (a : Expr) (d : ℕ) (ts : List Placed) → casted types low most start ≡ Some (a, ts)
      → d ≡ expr_depth a → d ≤ most → ClimbsTo types low most l start a d ts
  unfolding climb chain
  climb_begins a d ts h deep bound = record {
    fuel = most;
    enough = omega arith;
    comes = rw h refl;
    deep = deep;
    bound = bound;
  }

  operations_end : (k : ℕ) (a : Expr) (ts : List Placed) → eat_operator l ts ≡ None
      → operations types low most k l a ts ≡ Some (a, ts)
  unfolding operations on_some
  operations_end zero a ts h = rw h refl
  operations_end (suc k) a ts h = rw h refl

  operations_deep : (k : ℕ) (a : Expr) (ts : List Placed) (o : Punct × Pos × List Placed)
      → eat_operator l ts ≡ Some o → most ≤ expr_depth a → operations types low most k l a ts ≡ None
  unfolding operations on_some when
  operations_deep zero a ts o h deep = rw h refl
  operations_deep (suc k) a ts o h deep = rw (h, lt_false _ _ deep) refl

  operations_fail : (k : ℕ) (a : Expr) (ts : List Placed) (o : Punct × Pos × List Placed)
      → eat_operator l ts ≡ Some o → expr_depth a < most → low.expr (binary_level o.0 + 1) o.2 ≡ None
      → operations types low most k l a ts ≡ None
  unfolding operations on_some when chain
  operations_fail zero a ts o h deep r = rw h refl
  operations_fail (suc k) a ts o h deep r = rw (h, lt_true _ _ deep, r) refl

  operations_turn : (k : ℕ) (a b : Expr) (ts rest : List Placed) (o : Punct × Pos × List Placed)
      → eat_operator l ts ≡ Some o → expr_depth a < most → low.expr (binary_level o.0 + 1) o.2 ≡ Some (b, rest)
      → operations types low most (suc k) l a ts ≡ operations types low most k l (binary o.1 o.0 a b) rest
  unfolding operations on_some when chain
  operations_turn k a b ts rest o h deep r = rw (h, lt_true _ _ deep, r) refl

  pub climb_ends : (a : Expr) (d : ℕ) (ts : List Placed) → ClimbsTo types low most l start a d ts
      → eat_operator l ts ≡ None → climb types low most l start ≡ Some (a, ts)
  climb_ends a d ts c h = c.comes ∙ operations_end c.fuel a ts h

  pub climb_deep : (a : Expr) (d : ℕ) (ts : List Placed) (o : Punct × Pos × List Placed)
      → ClimbsTo types low most l start a d ts → eat_operator l ts ≡ Some o → most ≤ d
      → climb types low most l start ≡ None
  climb_deep a d ts o c h deep = c.comes ∙ operations_deep c.fuel a ts o h (omega (arith, c.deep))

  pub climb_fails : (f : Stop) (a : Expr) (d : ℕ) (ts : List Placed) (o : Punct × Pos × List Placed)
      → ClimbsTo types low most l start a d ts → eat_operator l ts ≡ Some o → d < most
      → Fails f (low.expr (binary_level o.0 + 1) o.2) → Fails f (climb types low most l start)
  climb_fails stops.Memory a d ts o c h deep r = tt
  climb_fails stops.NothingRead a d ts o c h deep r = c.comes
      ∙ operations_fail c.fuel a ts o h (omega (arith, c.deep)) r

  pub climb_turns : (a b : Expr) (d e : ℕ) (ts rest : List Placed) (o : Punct × Pos × List Placed)
      → ClimbsTo types low most l start a d ts → eat_operator l ts ≡ Some o → d < most
      → low.expr (binary_level o.0 + 1) o.2 ≡ Some (b, rest) → e ≡ expr_depth b → e < most
      → ClimbsTo types low most l start (binary o.1 o.0 a b) (max d e + 1) rest
  climb_turns a b d e ts rest o c h deep r de be = turned c.fuel c.enough c.comes
    where
      turned : (k : ℕ) → most ≤ k + d → climb types low most l start ≡ operations types low most k l a ts
          → ClimbsTo types low most l start (binary o.1 o.0 a b) (max d e + 1) rest
      turned zero enough comes = absurd (omega arith)
      turned (suc k) enough comes = record {
        fuel = k;
        enough = omega arith;
        comes = comes
            ∙ operations_turn k a b ts rest o h (omega (arith, c.deep)) r;
        deep = rw (c.deep, de) refl;
        bound = omega
            arith;
      }
