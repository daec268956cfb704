-- The loop over commas (C11 6.5.17).
--   CommasTo types low most start a d ts    reading has come to this tree of this depth, and goes on from it
--   comma_begins, comma_ends, comma_deep, comma_fails, comma_turns    how it begins, ends, is too deep, fails, and
--                                                                     takes one more comma
use Rattle.std.proofs.Common.{◌≡◌, ℕ, zero, suc, ◌+◌, ◌<◌, ◌≤◌, max, List, Some, None, refl, ◌∙◌, arith}
use Rattle.pungi_base.specs.declared.names.Name.{Name}
use Rattle.pungi_base.specs.declared.pos.Pos.{Pos}
use Rattle.pungi_base.specs.declared.punct.Punct.TheVariants as puncts
use Rattle.pungi_parse.specs.tokens.OneToken.{eat}
use Rattle.pungi_parse.specs.expr.ExprReader.{assign_at, comma_at, commas}
use Rattle.pungi_parse.specs.Gives.{Fails}
use Rattle.pungi_parse.specs.Reading.{chain, on_some, when}
use Rattle.pungi_parse.specs.types.TypeReader.{Lower}
use Rattle.pungi_parse.specs.declared.stop.Stop.{Stop}
use Rattle.pungi_parse.specs.declared.stop.Stop.TheVariants as stops
use Rattle.pungi_parse.proofs.Tools.{lt_true, lt_false}
use Rattle.pungi_tree.specs.ExprDepth.{expr_depth}
use Rattle.pungi_tree.specs.Placed.{Placed}
use Rattle.pungi_tree.specs.Syntax.{Expr, comma}

pub record CommasTo (types : List Name) (low : Lower) (most : ℕ) (start : List Placed) (a : Expr) (d : ℕ)
    (ts : List Placed) : Type 0 where
  pub fuel : ℕ
  pub enough : most ≤ fuel + d
  pub comes : comma_at types low most start ≡ commas types low most fuel a ts
  pub deep : d ≡ expr_depth a
  pub bound : d ≤ most

module _ (types : List Name) (low : Lower) (most : ℕ) (start : List Placed) where
  pub comma_begins : (a : Expr) (d : ℕ) (ts : List Placed) → assign_at types low most start ≡ Some (a, ts)
      → d ≡ expr_depth a → d ≤ most → CommasTo types low most start a d ts
  unfolding comma_at chain
  comma_begins a d ts h deep bound = record {
    fuel = most;
    enough = omega arith;
    comes = rw h refl;
    deep = deep;
    bound = bound;
  }

  commas_end : (k : ℕ) (a : Expr) (ts : List Placed) → eat puncts.Comma ts ≡ None
      → commas types low most k a ts ≡ Some (a, ts)
  unfolding commas on_some
  commas_end zero a ts h = rw h refl
  commas_end (suc k) a ts h = rw h refl

  commas_deep : (k : ℕ) (a : Expr) (ts : List Placed) (o : Pos × List Placed) → eat puncts.Comma ts ≡ Some o
      → most ≤ expr_depth a → commas types low most k a ts ≡ None
  unfolding commas on_some when
  commas_deep zero a ts o h deep = rw h refl
  commas_deep (suc k) a ts o h deep = rw (h, lt_false _ _ deep) refl

  commas_fail : (k : ℕ) (a : Expr) (ts : List Placed) (o : Pos × List Placed) → eat puncts.Comma ts ≡ Some o
      → expr_depth a < most → low.expr 1 o.1 ≡ None → commas types low most k a ts ≡ None
  unfolding commas on_some when chain
  commas_fail zero a ts o h deep r = rw h refl
  commas_fail (suc k) a ts o h deep r = rw (h, lt_true _ _ deep, r) refl

  commas_turn : (k : ℕ) (a b : Expr) (ts rest : List Placed) (o : Pos × List Placed) → eat puncts.Comma ts ≡ Some o
      → expr_depth a < most → low.expr 1 o.1 ≡ Some (b, rest)
      → commas types low most (suc k) a ts ≡ commas types low most k (comma o.0 a b) rest
  unfolding commas on_some when chain
  commas_turn k a b ts rest o h deep r = rw (h, lt_true _ _ deep, r) refl

  pub comma_ends : (a : Expr) (d : ℕ) (ts : List Placed) → CommasTo types low most start a d ts
      → eat puncts.Comma ts ≡ None → comma_at types low most start ≡ Some (a, ts)
  comma_ends a d ts c h = c.comes ∙ commas_end c.fuel a ts h

  pub comma_deep : (a : Expr) (d : ℕ) (ts : List Placed) (o : Pos × List Placed)
      → CommasTo types low most start a d ts → eat puncts.Comma ts ≡ Some o → most ≤ d
      → comma_at types low most start ≡ None
  comma_deep a d ts o c h deep = c.comes ∙ commas_deep c.fuel a ts o h (omega (arith, c.deep))

  pub comma_fails : (f : Stop) (a : Expr) (d : ℕ) (ts : List Placed) (o : Pos × List Placed)
      → CommasTo types low most start a d ts → eat puncts.Comma ts ≡ Some o → d < most → Fails f (low.expr 1 o.1)
      → Fails f (comma_at types low most start)
  comma_fails stops.Memory a d ts o c h deep r = tt
  comma_fails stops.NothingRead a d ts o c h deep r = c.comes ∙ commas_fail c.fuel a ts o h (omega (arith, c.deep)) r

  pub comma_turns : (a b : Expr) (d e : ℕ) (ts rest : List Placed) (o : Pos × List Placed)
      → CommasTo types low most start a d ts → eat puncts.Comma ts ≡ Some o → d < most
      → low.expr 1 o.1 ≡ Some (b, rest) → e ≡ expr_depth b → e < most
      → CommasTo types low most start (comma o.0 a b) (max d e + 1) rest
  comma_turns a b d e ts rest o c h deep r de be = turned c.fuel c.enough c.comes
    where
      turned : (k : ℕ) → most ≤ k + d → comma_at types low most start ≡ commas types low most k a ts
          → CommasTo types low most start (comma o.0 a b) (max d e + 1) rest
      turned zero enough comes = absurd (omega arith)
      turned (suc k) enough comes = record {
        fuel = k;
        enough = omega arith;
        comes = comes
            ∙ commas_turn k a b ts rest o h (omega (arith, c.deep)) r;
        deep = rw (c.deep, de) refl;
        bound = omega arith;
      }
