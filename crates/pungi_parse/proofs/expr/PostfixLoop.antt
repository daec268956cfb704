-- The loop over what goes on with a primary expression (C11 6.5.2).
--   PostfixTo types low most start p a d ts    reading has come to this tree of this depth, and goes on from it; `p` is
--                                              the place of its first token
--   postfix_begins, postfix_ends, postfix_deep, postfix_fails, postfix_turns    how it begins, ends, is too deep,
--   fails, and goes on
use Rattle.std.proofs.Common.{◌≡◌, ℕ, zero, suc, ◌+◌, ◌<◌, ◌≤◌, true, false, ◌||◌, List, Option, Some, None, refl, ◌∙◌}
use Rattle.std.proofs.Common.{ap, arith}
use Rattle.std.specs.Prelude.{is_some}
use Rattle.pungi_base.specs.declared.names.Name.{Name}
use Rattle.pungi_base.specs.declared.pos.Pos.{Pos}
use Rattle.pungi_base.specs.declared.punct.Punct.TheVariants as puncts
use Rattle.pungi_parse.specs.tokens.OneToken.{eat, eat_step}
use Rattle.pungi_parse.specs.expr.ExprReader.{primary, postfix, postfixes, postfix_turn}
use Rattle.pungi_parse.specs.Gives.{Fails}
use Rattle.pungi_parse.specs.Reading.{Read, chain, on_some, when}
use Rattle.pungi_parse.specs.ReaderParts.{joined, goes_on}
use Rattle.pungi_parse.specs.types.TypeReader.{Lower}
use Rattle.pungi_parse.specs.declared.stop.Stop.{Stop}
use Rattle.pungi_parse.specs.declared.stop.Stop.TheVariants as stops
use Rattle.pungi_parse.proofs.Tools.{lt_true, lt_false}
use Rattle.pungi_tree.specs.ExprDepth.{expr_depth}
use Rattle.pungi_tree.specs.Placed.{Placed, first_place}
use Rattle.pungi_tree.specs.Syntax.{Expr}

pub record PostfixTo (types : List Name) (low : Lower) (most : ℕ) (start : List Placed) (p : Pos) (a : Expr) (d : ℕ)
    (ts : List Placed) : Type 0 where
  pub fuel : ℕ
  pub enough : most ≤ fuel + d
  pub comes : postfix types low most start ≡ postfixes types low most fuel p a ts
  pub deep : d ≡ expr_depth a
  pub bound : d ≤ most

-- the choice among five tests, each with something to give
stops_at : {A B C D E R : Type 0} (a : Option A) (b : Option B) (c : Option C) (d : Option D) (e : Option E)
    (f : A → R) (g : B → R) (h : C → R) (i : D → R) (j : E → R)
    → (is_some a || (is_some b || (is_some c || (is_some d || is_some e)))) ≡ false
    → on_some a (λ x. Some (f x)) (on_some b (λ x. Some (g x)) (on_some c (λ x. Some (h x))
    (on_some d (λ x. Some (i x)) (on_some e (λ x. Some (j x)) None)))) ≡ None
unfolding on_some
stops_at None None None None None f g h i j s = refl
stops_at None None None None (Some x) f g h i j s = absurd (cc)
stops_at None None None (Some x) e f g h i j s = absurd (cc)
stops_at None None (Some x) d e f g h i j s = absurd (cc)
stops_at None (Some x) c d e f g h i j s = absurd (cc)
stops_at (Some x) b c d e f g h i j s = absurd (cc)

goes_at : {A B C D E R : Type 0} (a : Option A) (b : Option B) (c : Option C) (d : Option D) (e : Option E)
    (f : A → Option R) (g : B → Option R) (h : C → Option R) (i : D → Option R) (j : E → Option R)
    (o : Option (Option R))
    → (is_some a || (is_some b || (is_some c || (is_some d || is_some e)))) ≡ true
    → o ≡ on_some a (λ x. Some (f x)) (on_some b (λ x. Some (g x)) (on_some c (λ x. Some (h x))
    (on_some d (λ x. Some (i x)) (on_some e (λ x. Some (j x)) None))))
    → o ≡ Some (joined o)
unfolding on_some
goes_at None None None None None f g h i j o s q = absurd (cc)
goes_at None None None None (Some x) f g h i j o s q = rw q refl
goes_at None None None (Some x) e f g h i j o s q = rw q refl
goes_at None None (Some x) d e f g h i j o s q = rw q refl
goes_at None (Some x) c d e f g h i j o s q = rw q refl
goes_at (Some x) b c d e f g h i j o s q = rw q refl

module _ (types : List Name) (low : Lower) where
  turn_none : (p : Pos) (e : Expr) (ts : List Placed) → goes_on ts ≡ false → postfix_turn types low p e ts ≡ None
  unfolding goes_on postfix_turn
  turn_none p e ts h = stops_at (eat puncts.LeftParen ts) (eat puncts.LeftBracket ts) (eat puncts.Dot ts)
      (eat puncts.Arrow ts) (eat_step ts) _ _ _ _ _ h

  turn_some : (p : Pos) (e : Expr) (ts : List Placed) → goes_on ts ≡ true
      → postfix_turn types low p e ts ≡ Some (joined (postfix_turn types low p e ts))
  unfolding goes_on postfix_turn
  turn_some p e ts h = goes_at (eat puncts.LeftParen ts) (eat puncts.LeftBracket ts) (eat puncts.Dot ts)
      (eat puncts.Arrow ts) (eat_step ts) _ _ _ _ _ _ h refl

  module _ (most : ℕ) (start : List Placed) (p : Pos) where
    pub postfix_begins : (a : Expr) (d : ℕ) (ts : List Placed) → first_place start ≡ Some p
        → primary types low start ≡ Some (a, ts) → d ≡ expr_depth a → d ≤ most
        → PostfixTo types low most start p a d ts
    unfolding postfix chain
    postfix_begins a d ts g h deep bound = record {
      fuel = most;
      enough = omega arith;
      comes = rw (g, h) refl;
      deep
          = deep;
      bound = bound;
    }

    postfixes_end : (k : ℕ) (a : Expr) (ts : List Placed) → postfix_turn types low p a ts ≡ None
        → postfixes types low most k p a ts ≡ Some (a, ts)
    unfolding postfixes on_some
    postfixes_end zero a ts h = rw h refl
    postfixes_end (suc k) a ts h = rw h refl

    postfixes_deep : (k : ℕ) (a : Expr) (ts : List Placed) (r : Read Expr) → postfix_turn types low p a ts ≡ Some r
        → most ≤ expr_depth a → postfixes types low most k p a ts ≡ None
    unfolding postfixes on_some when
    postfixes_deep zero a ts r h deep = rw h refl
    postfixes_deep (suc k) a ts r h deep = rw (h, lt_false _ _ deep) refl

    postfixes_fail : (k : ℕ) (a : Expr) (ts : List Placed) → postfix_turn types low p a ts ≡ Some None
        → expr_depth a < most → postfixes types low most k p a ts ≡ None
    unfolding postfixes on_some when chain
    postfixes_fail zero a ts h deep = rw h refl
    postfixes_fail (suc k) a ts h deep = rw (h, lt_true _ _ deep) refl

    postfixes_turn : (k : ℕ) (a b : Expr) (ts rest : List Placed)
        → postfix_turn types low p a ts ≡ Some (Some (b, rest)) → expr_depth a < most
        → postfixes types low most (suc k) p a ts ≡ postfixes types low most k p b rest
    unfolding postfixes on_some when chain
    postfixes_turn k a b ts rest h deep = rw (h, lt_true _ _ deep) refl

    pub postfix_ends : (a : Expr) (d : ℕ) (ts : List Placed) → PostfixTo types low most start p a d ts
        → goes_on ts ≡ false → postfix types low most start ≡ Some (a, ts)
    postfix_ends a d ts c h = c.comes ∙ postfixes_end c.fuel a ts (turn_none p a ts h)

    pub postfix_deep : (a : Expr) (d : ℕ) (ts : List Placed) → PostfixTo types low most start p a d ts
        → goes_on ts ≡ true → most ≤ d → postfix types low most start ≡ None
    postfix_deep a d ts c h deep = c.comes ∙ postfixes_deep c.fuel a ts _ (turn_some p a ts h) (omega (arith, c.deep))

    pub postfix_fails : (f : Stop) (a : Expr) (d : ℕ) (ts : List Placed) → PostfixTo types low most start p a d ts
        → goes_on ts ≡ true → d < most → Fails f (joined (postfix_turn types low p a ts))
        → Fails f (postfix types low most start)
    postfix_fails stops.Memory a d ts c h deep r = tt
    postfix_fails stops.NothingRead a d ts c h deep r = c.comes
        ∙ postfixes_fail c.fuel a ts (turn_some p a ts h ∙ ap (λ (z : Read Expr). Some z) r) (omega (arith, c.deep))

    pub postfix_turns : (a b : Expr) (d e : ℕ) (ts rest : List Placed) → PostfixTo types low most start p a d ts
        → goes_on ts ≡ true → d < most → joined (postfix_turn types low p a ts) ≡ Some (b, rest) → e ≡ expr_depth b
        → d < e → e ≤ most → PostfixTo types low most start p b e rest
    postfix_turns a b d e ts rest c h deep r de more be = turned c.fuel c.enough c.comes
      where
        turned : (k : ℕ) → most ≤ k + d → postfix types low most start ≡ postfixes types low most k p a ts
            → PostfixTo types low most start p b e rest
        turned zero enough comes = absurd (omega arith)
        turned (suc k) enough comes = record {
          fuel = k;
          enough = omega arith;
          comes = comes
              ∙ postfixes_turn k a b ts rest (turn_some p a ts h ∙ ap (λ (z : Read Expr). Some z) r)
              (omega (arith, c.deep));
          deep = de;
          bound = be;
        }
