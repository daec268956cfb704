-- What is read as an expression stands at the front of the tokens: binary operators, `? :`, assignments and commas, and
-- the readers over each other.
--   .._gets           what the reader of the same name reads
--   Climbs            an expression was read so far, and no binary operator that binds tighter stands after it
--   readers_sound     the readers give what stands at the front
use Rattle.std.proofs.Common.{◌≡◌, ℕ, zero, suc, ◌+◌, ◌<◌, ◌≤◌, Bool, true, false, cond, inl, inr, List, ◌∷◌, Some}
use Rattle.std.proofs.Common.{None, refl, sym, ◌∙◌, subst, add-one, arith}
use Rattle.std.specs.Prelude.{nat_le, nat_lt}
use Rattle.pungi_base.specs.declared.names.Name.{Name}
use Rattle.pungi_base.specs.declared.pos.Pos.{Pos}
use Rattle.pungi_base.specs.declared.punct.Punct.{Punct}
use Rattle.pungi_base.specs.declared.punct.Punct.TheVariants as puncts
use Rattle.pungi_parse.specs.tokens.OneToken.{eat_operator}
use Rattle.pungi_parse.specs.expr.ExprReader.{operations, climb, conditional_rest, conditional_at, assign_rest}
use Rattle.pungi_parse.specs.expr.ExprReader.{assign_at, commas, comma_at, read_at, unary, expr_at as read_expr}
use Rattle.pungi_parse.specs.Readers.{readers}
use Rattle.pungi_parse.specs.types.TypeReader.{Lower, declr_at}
use Rattle.pungi_parse.proofs.tokens.Eaten.{eat_some, eat_operator_some, eat_marked_some, no_operator_above}
use Rattle.pungi_parse.proofs.tokens.Eaten.{operator_looser}
use Rattle.pungi_parse.proofs.tokens.Ends.{at_least}
use Rattle.pungi_parse.proofs.expr.ExprSound.{at_least_same, unary_gets, casted_gets, loosen}
use Rattle.pungi_parse.proofs.trees.Levels.{binary_far, at_level, at_whole, at_join, at_looser}
use Rattle.pungi_parse.proofs.trees.LowSound.{GetsExpr, LowSound}
use Rattle.pungi_parse.proofs.types.ParamSound.{params_get}
use Rattle.pungi_parse.proofs.expr.Readings.{ReadsExpr, ReadsSpec, ReadsParams, ReadsDeclr}
use Rattle.pungi_parse.proofs.Tools.{bind_some, on_some_cases, when_some, some_same, and_true, and_join, le_true}
use Rattle.pungi_parse.proofs.Tools.{le_from, not_le, lt_from}
use Rattle.pungi_parse.proofs.types.TypeSound.{declr_gets, spec_gets}
use Rattle.pungi_tree.specs.ExprDepth.{expr_depth}
use Rattle.pungi_tree.specs.ExprLevels.{expr_at}
use Rattle.pungi_tree.specs.ExprSpells.{Spells}
use Rattle.pungi_tree.specs.Operators.{binary_level, is_assign, level}
use Rattle.pungi_tree.specs.Placed.{Placed, mark_at}
use Rattle.pungi_tree.specs.Syntax.{Expr, binary, comma, Spec, Params, Declr}

module _ (types : List Name) (d : ℕ) where
  pub record Climbs (l : ℕ) (start : List Placed) (a : Expr) (ts : List Placed) : Type 0 where
    pub spells : Spells a start ts
    pub allowed : expr_at types 0 a ≡ true
    pub tight : l ≤ level a
    pub shallow : expr_depth a ≤ d
    pub no_tighter : eat_operator (suc (level a)) ts ≡ None

  climbed : (l : ℕ) (start : List Placed) (a : Expr) (ts : List Placed) → 3 ≤ l → Climbs l start a ts
      → eat_operator l ts ≡ None → GetsExpr types d l start (a, ts)
  climbed l start a ts h c e = record {
    spells = c.spells;
    allowed = at_join types l a c.tight c.allowed;
    shallow
        = c.shallow;
    no_operator = subst (λ m. eat_operator m ts ≡ None) (sym (at_least_same l h)) e;
  }

module _ (types : List Name) (d : ℕ) (low : Lower) (sound : LowSound types d low) where
  -- the operator that was eaten stands between two expressions that bind tightly enough
  climbs_on : (l : ℕ) (start ts : List Placed) (a : Expr) (o : Punct × Pos × List Placed) (b : Expr × List Placed)
      → Climbs types (suc d) l start a ts → eat_operator l ts ≡ Some o → expr_depth a ≤ d
      → low.expr (binary_level o.0 + 1) o.2 ≡ Some b → Climbs types (suc d) l start (binary o.1 o.0 a b.0) b.1
  climbs_on l start ts a o b c h deep r =
      let e = eat_operator_some l ts o h in
      let g = sound.expr (binary_level o.0 + 1) o.2 b r (omega (arith, e.2)) in
      let looser : binary_level o.0 < suc (level a) = operator_looser (suc (level a)) o.0 o.1 o.2 e.2
      (subst (λ z. eat_operator (suc (level a)) z ≡ None) e.0 c.no_tighter) in
      let same : at_least (binary_level o.0 + 1) ≡ suc (binary_level o.0) = at_least_same (binary_level o.0 + 1)
      (omega (arith, binary_far o.0)) ∙ add-one (binary_level o.0) in
      record {
        spells = (o.2, subst (λ z. Spells a start z) e.0 c.spells, g.spells);
        allowed = and_join _ _ (le_true _ _ (omega arith)) (and_join _ _ (at_join types (binary_level o.0) a
            (omega (arith, looser)) c.allowed) g.allowed);
        tight = e.1;
        shallow = omega (arith, deep, g.shallow);
        no_tighter = subst (λ m. eat_operator m b.1 ≡ None) same g.no_operator;
      }

  operations_get : (k l : ℕ) (start : List Placed) (a : Expr) (ts : List Placed) (x : Expr × List Placed) → 3 ≤ l
      → Climbs types (suc d) l start a ts → operations types low (suc d) k l a ts ≡ Some x
      → GetsExpr types (suc d) l start x
  unfolding operations
  operations_get zero l start a ts x high c h = elim (on_some_cases _ _ _ _ h) [
    | inl w ↦ absurd (cc)
    | inr n ↦ subst (GetsExpr types (suc d) l start) (some_same _ _ n.1) (climbed types (suc d) l start a ts high c n.0)
  ]
  operations_get (suc k) l start a ts x high c h = elim (on_some_cases _ _ _ _ h) [
    | inl o ↦
        let g = when_some _ _ _ o.2 in
        let b = bind_some _ _ _ g.1 in
        let deep : expr_depth a ≤ d = omega (arith, lt_from _ _ g.0) in
        operations_get k l start (binary o.0.1 o.0.0 a b.0.0) b.0.1 x high (climbs_on l start ts a o.0 b.0 c o.1
        deep b.1) b.2
    | inr n ↦ subst (GetsExpr types (suc d) l start) (some_same _ _ n.1) (climbed types (suc d) l start a ts high c n.0)
  ]

  climb_gets : (l : ℕ) (ts : List Placed) (x : Expr × List Placed) → 3 ≤ l → l ≤ 13
      → climb types low (suc d) l ts ≡ Some x → GetsExpr types (suc d) l ts x
  unfolding climb
  climb_gets l ts x high most h =
      let c = bind_some _ _ _ h in
      let g = casted_gets types d low sound ts c.0 c.1 in
      let tight : 13 ≤ level c.0.0 = at_level types 13 c.0.0 g.allowed in
      operations_get (suc d) l ts c.0.0 c.0.1 x high (record {
        spells = g.spells;
        allowed = at_whole types 13 c.0.0 g.allowed;
        tight = omega arith;
        shallow = g.shallow;
        no_tighter = no_operator_above (suc (level c.0.0)) c.0.1 (omega arith);
      }) c.2

  conditional_rest_gets : (start : List Placed) (a : Expr) (ts : List Placed) (x : Expr × List Placed)
      → GetsExpr types (suc d) 3 start (a, ts) → conditional_rest types low (suc d) a ts ≡ Some x
      → GetsExpr types (suc d) 2 start x
  unfolding conditional_rest
  conditional_rest_gets start a ts x g h = elim (on_some_cases _ _ _ _ h) [
    | inl q ↦
        let t = when_some _ _ _ q.2 in
        let b = bind_some _ _ _ t.1 in
        let c = bind_some _ _ _ b.2 in
        let e = bind_some _ _ _ c.2 in
        let m = sound.expr 0 q.0.1 b.0 b.1 (omega arith) in
        let r = sound.expr 2 c.0.1 e.0 e.1 (omega arith) in
        let deep : expr_depth a ≤ d = omega (arith, lt_from _ _ t.0) in
        let v : Spells b.0.0 q.0.1 (mark_at puncts.Colon c.0.0 ∷ c.0.1) = subst (λ z. Spells b.0.0 q.0.1 z)
        (eat_some _ b.0.1 c.0 c.1) m.spells in
        subst (GetsExpr types (suc d) 2 start) (some_same _ _ e.2) (record {
          spells = (q.0.1, c.0.1, c.0.0, subst (λ z. Spells a start z) (eat_some _ ts q.0 q.1) g.spells, v, r.spells);
          allowed = and_join _ _ g.allowed (and_join _ _ m.allowed r.allowed);
          shallow = omega (arith, deep, m.shallow, r.shallow);
          no_operator = r.no_operator;
        })
    | inr n ↦ subst (GetsExpr types (suc d) 2 start) (some_same _ _ n.1) (record {
      spells = g.spells;
      allowed = at_looser types 2 3 a (omega arith) g.allowed;
      shallow = g.shallow;
      no_operator
          = g.no_operator;
    })
  ]

  conditional_gets : (ts : List Placed) (x : Expr × List Placed) → conditional_at types low (suc d) ts ≡ Some x
      → GetsExpr types (suc d) 2 ts x
  unfolding conditional_at
  conditional_gets ts x h =
      let c = bind_some _ _ _ h in
      conditional_rest_gets ts c.0.0 c.0.1 x (climb_gets 3 ts c.0 (omega arith) (omega arith) c.1) c.2

  assign_rest_gets : (start : List Placed) (a : Expr) (ts : List Placed) (x : Expr × List Placed)
      → GetsExpr types (suc d) 2 start (a, ts) → assign_rest types low (suc d) a ts ≡ Some x
      → GetsExpr types (suc d) 1 start x
  unfolding assign_rest
  assign_rest_gets start a ts x g h = elim (on_some_cases _ _ _ _ h) [
    | inl o ↦
        let t = when_some _ _ _ o.2 in
        let s = and_true (nat_le 14 (level a)) (nat_lt (expr_depth a) (suc d)) t.0 in
        let b = bind_some _ _ _ t.1 in
        let e = eat_marked_some is_assign ts o.0 o.1 in
        let r = sound.expr 1 o.0.2 b.0 b.1 (omega arith) in
        let deep : expr_depth a ≤ d = omega (arith, lt_from _ _ s.1) in
        let left : expr_at types 14 a ≡ true = at_join types 14 a (le_from _ _ s.0) (at_whole types 2 a g.allowed) in
        subst (GetsExpr types (suc d) 1 start) (some_same _ _ b.2) (record {
          spells = (o.0.2, subst (λ z. Spells a start z) e.0 g.spells, r.spells);
          allowed = and_join _ _ e.1 (and_join _ _ left r.allowed);
          shallow = omega (arith, deep, r.shallow);
          no_operator = r.no_operator;
        })
    | inr n ↦ subst (GetsExpr types (suc d) 1 start) (some_same _ _ n.1) (record {
      spells = g.spells;
      allowed = at_looser types 1 2 a (omega arith) g.allowed;
      shallow = g.shallow;
      no_operator
          = g.no_operator;
    })
  ]

  assign_gets : (ts : List Placed) (x : Expr × List Placed) → assign_at types low (suc d) ts ≡ Some x
      → GetsExpr types (suc d) 1 ts x
  unfolding assign_at
  assign_gets ts x h =
      let c = bind_some _ _ _ h in
      assign_rest_gets ts c.0.0 c.0.1 x (conditional_gets ts c.0 c.1) c.2

  commas_get : (k : ℕ) (start : List Placed) (a : Expr) (ts : List Placed) (x : Expr × List Placed)
      → GetsExpr types (suc d) 0 start (a, ts) → commas types low (suc d) k a ts ≡ Some x
      → GetsExpr types (suc d) 0 start x
  unfolding commas
  commas_get zero start a ts x g h = elim (on_some_cases _ _ _ _ h) [
    | inl w ↦ absurd (cc)
    | inr n ↦ subst (GetsExpr types (suc d) 0 start) (some_same _ _ n.1) g
  ]
  commas_get (suc k) start a ts x g h = elim (on_some_cases _ _ _ _ h) [
    | inl c ↦
        let t = when_some _ _ _ c.2 in
        let b = bind_some _ _ _ t.1 in
        let r = sound.expr 1 c.0.1 b.0 b.1 (omega arith) in
        let deep : expr_depth a ≤ d = omega (arith, lt_from _ _ t.0) in
        let next : GetsExpr types (suc d) 0 start (comma c.0.0 a b.0.0, b.0.1) = record {
          spells = (c.0.1, subst (λ z. Spells a start z) (eat_some _ ts c.0 c.1) g.spells, r.spells);
          allowed = and_join _ _ g.allowed r.allowed;
          shallow = omega (arith, deep, r.shallow);
          no_operator = r.no_operator;
        } in
        commas_get k start (comma c.0.0 a b.0.0) b.0.1 x next b.2
    | inr n ↦ subst (GetsExpr types (suc d) 0 start) (some_same _ _ n.1) g
  ]

  comma_gets : (ts : List Placed) (x : Expr × List Placed) → comma_at types low (suc d) ts ≡ Some x
      → GetsExpr types (suc d) 0 ts x
  unfolding comma_at
  comma_gets ts x h =
      let c = bind_some _ _ _ h in
      let g = assign_gets ts c.0 c.1 in
      commas_get (suc d) ts c.0.0 c.0.1 x (record {
        spells = g.spells;
        allowed = at_whole types 1 c.0.0 g.allowed;
        shallow = g.shallow;
        no_operator = g.no_operator;
      }) c.2

  tight_gets : (b : Bool) (l : ℕ) (ts : List Placed) (x : Expr × List Placed) → 3 ≤ l → l ≤ 14 → nat_le 14 l ≡ b
      → cond b (unary types low (suc d) ts) (climb types low (suc d) l ts) ≡ Some x → GetsExpr types (suc d) l ts x
  tight_gets true l ts x high most b h = loosen types (suc d) l 14 ts x (omega (arith, le_from _ _ b)) most
      (unary_gets types d low sound ts x h)
  tight_gets false l ts x high most b h = climb_gets l ts x high (omega (arith, not_le _ _ b)) h

  read_gets : (l : ℕ) (ts : List Placed) (x : Expr × List Placed) → read_at types low (suc d) l ts ≡ Some x → l ≤ 14
      → GetsExpr types (suc d) l ts x
  unfolding read_at
  read_gets zero ts x h most = comma_gets ts x h
  read_gets (suc zero) ts x h most = assign_gets ts x h
  read_gets (suc (suc zero)) ts x h most = conditional_gets ts x h
  read_gets (suc (suc (suc l))) ts x h most = tight_gets (nat_le 14 (suc (suc (suc l)))) (suc (suc (suc l))) ts x
      (omega arith) most refl h

module _ (types : List Name) where
  over_expr : (inner : ℕ → Lower) → ((d : ℕ) → LowSound types d (inner d))
      → (d l : ℕ) (ts : List Placed) (x : Expr × List Placed) → read_expr types inner d l ts ≡ Some x → l ≤ 14
      → GetsExpr types d l ts x
  unfolding read_expr
  over_expr inner sound zero l ts x h most = absurd (cc)
  over_expr inner sound (suc d) l ts x h most = read_gets types d (inner d) (sound d) l ts x h most

  pub readers_sound : (n d : ℕ) → LowSound types d (readers types n d)
  unfolding readers
  readers_sound zero d = record {
    expr = λ l ts x h most. absurd (cc);
    spec = λ ts x h. absurd (cc);
    params = λ ts x
        h. absurd (cc);
  }
  readers_sound (suc n) d = record {
    expr = over_expr (readers types n) (readers_sound n) d;
    spec = spec_gets types d (readers types n d) (readers_sound n d);
    params = params_get types d (readers types n d) (readers_sound n d);
  }

  pub expr_sound : (n d l : ℕ) (ts : List Placed) (x : Expr × List Placed) → (readers types n d).expr l ts ≡ Some x
      → l ≤ 14 → ReadsExpr types d l ts x
  expr_sound n d l ts x h most = let g = (readers_sound n d).expr l ts x h most in record
      { spells = g.spells; allowed = g.allowed; shallow = g.shallow }

  pub spec_sound : (n d : ℕ) (ts : List Placed) (x : Spec × List Placed) → (readers types n d).spec ts ≡ Some x
      → ReadsSpec types d ts x
  spec_sound n d ts x h = let g = (readers_sound n d).spec ts x h in record
      { spells = g.spells; allowed = g.allowed; shallow = g.shallow }

  pub params_sound : (n d : ℕ) (ts : List Placed) (x : Params × List Placed)
      → (readers types n d).params ts ≡ Some x → ReadsParams types d ts x
  params_sound n d ts x h = let g = (readers_sound n d).params ts x h in record
      { close = g.spells.0; spells = g.spells.1; allowed = g.allowed; shallow = g.shallow }

  pub declr_sound : (n d : ℕ) (ts : List Placed) (x : Declr × List Placed)
      → declr_at types (readers types n d) ts ≡ Some x → ReadsDeclr types d ts x
  declr_sound n d ts x h = let g = declr_gets types d (readers types n d) (readers_sound n d) ts x h in record
      { spells = g.spells; allowed = g.allowed; shallow = g.shallow }
