-- Unary and cast expressions, binary operators, `? :`, assignments and commas that stand at the front of the tokens are
-- read, by what is known of their parts.
--   .._steps          the facts of an expression of this kind
use Rattle.std.proofs.Common.{◌≡◌, ℕ, zero, suc, ◌+◌, ◌<◌, ◌≤◌, true, ◌&&◌, List, ◌∷◌, length, Some, None, refl, sym}
use Rattle.std.proofs.Common.{◌∙◌, ap, subst, arith}
use Rattle.pungi_base.specs.declared.key.Key.TheVariants as keys
use Rattle.pungi_base.specs.declared.kind.Kind.{Kind}
use Rattle.pungi_base.specs.declared.kind.Kind.TheVariants as kind
use Rattle.pungi_base.specs.declared.names.Name.{Name}
use Rattle.pungi_base.specs.declared.pos.Pos.{Pos}
use Rattle.pungi_base.specs.declared.punct.Punct.{Punct}
use Rattle.pungi_base.specs.declared.punct.Punct.TheVariants as puncts
use Rattle.pungi_parse.specs.tokens.OneToken.{eat}
use Rattle.pungi_parse.specs.expr.ExprReader.{sizeof_at, unary, cast_front, casted, operations, climb, conditional_rest}
use Rattle.pungi_parse.specs.expr.ExprReader.{conditional_at, assign_rest, assign_at, commas, comma_at}
use Rattle.pungi_parse.specs.Reading.{◌>>=◌, chain, on_some, when}
use Rattle.pungi_parse.specs.Readers.{readers}
use Rattle.pungi_parse.specs.types.TypeReader.{Lower, begins_type, type_name_at}
use Rattle.pungi_parse.proofs.expr.Choices.{unary_no_type, no_sizeof_front}
use Rattle.pungi_parse.proofs.tokens.Eaten.{no_operator_mono, operator_low}
use Rattle.pungi_parse.proofs.tokens.Ends.{ends_at_colon, ends_at_comma}
use Rattle.pungi_parse.proofs.trees.Facts.{ExprReads, TypeNameReads}
use Rattle.pungi_parse.proofs.trees.Levels.{binary_far, at_level, at_whole, binary_parts, binary_bounds, prefix_bound}
use Rattle.pungi_parse.proofs.trees.Levels.{sizeof_need}
use Rattle.pungi_parse.proofs.expr.PostfixComplete.{type_ends_at_paren, type_name_begins}
use Rattle.pungi_parse.proofs.trees.Shorter.{expr_no_longer, type_name_no_longer}
use Rattle.pungi_parse.proofs.expr.ExprSteps.{ClimbComes, CommaComes, Stands, Steps, UnaryAll, ClimbAll}
use Rattle.pungi_parse.proofs.expr.ExprSteps.{operations_stop, comma_steps, assign_steps, conditional_steps}
use Rattle.pungi_parse.proofs.expr.ExprSteps.{climb_steps, cast_steps, unary_steps}
use Rattle.pungi_parse.proofs.Tools.{and_true, le_true, lt_true}
use Rattle.pungi_tree.specs.ExprDepth.{expr_depth}
use Rattle.pungi_tree.specs.ExprLevels.{expr_at, type_name_ok}
use Rattle.pungi_tree.specs.Operators.{binary_level, is_assign, prefix_mark_need, prefix_key_need, level}
use Rattle.pungi_tree.specs.Placed.{Placed, mark_at, key_at}
use Rattle.pungi_tree.specs.Syntax.{Expr, unary as prefix, binary, assign, conditional, comma, cast, size_of_type}
use Rattle.pungi_tree.specs.Syntax.{TypeName}
use Rattle.pungi_parse.proofs.expr.OperatorEnds.{operator_ends, assign_ends, tight_ends, right_ends}

module _ (types : List Name) where
  unary_mark : (low : Lower) (most : ℕ) (p : Pos) (m : Punct) (e : Expr) (ts inner rest : List Placed)
      → ts ≡ mark_at m p ∷ inner → prefix_mark_need m ≤ 14 → low.expr (prefix_mark_need m) inner ≡ Some (e, rest)
      → unary types low most ts ≡ Some (prefix p (kind.Punct m) e, rest)
  unfolding unary on_some chain
  unary_mark low most p m e ts inner rest s need h = rw (s, le_true _ _ need, h) refl

  unary_sizeof : (low : Lower) (most : ℕ) (p : Pos) (e : Expr) (ts inner rest : List Placed)
      → ts ≡ key_at keys.Sizeof p ∷ inner → (eat puncts.LeftParen inner >>= λ (o : Pos × List Placed). when
      (begins_type types o.1) (Some o.1)) ≡ None → low.expr 14 inner ≡ Some (e, rest)
      → unary types low most ts ≡ Some (prefix p (kind.Key keys.Sizeof) e, rest)
  unfolding unary sizeof_at on_some chain
  unary_sizeof low most p e ts inner rest s none h = rw (s, none, h) refl

  prefix_reads : (p : Pos) (k : Kind) (e : Expr) → ExprReads types e → UnaryAll types (prefix p k e)
  prefix_reads p (kind.Word w) e f n d ts rest s ends = absurd (omega (
    arith,
    (prefix_bound types (kind.Word w) e s.allowed).1,
  ))
  prefix_reads p (kind.Int v b u) e f n d ts rest s ends = absurd (omega
      (arith, (prefix_bound types (kind.Int v b u) e s.allowed).1))
  prefix_reads p kind.Float e f n d ts rest s ends = absurd (omega (
    arith,
    (prefix_bound types kind.Float e s.allowed).1,
  ))
  prefix_reads p (kind.Char c) e f n d ts rest s ends = absurd (omega (
    arith,
    (prefix_bound types (kind.Char c) e s.allowed).1,
  ))
  prefix_reads p (kind.Text w) e f n d ts rest s ends = absurd (omega (
    arith,
    (prefix_bound types (kind.Text w) e s.allowed).1,
  ))
  prefix_reads p kind.Header e f n d ts rest s ends = absurd (omega (
    arith,
    (prefix_bound types kind.Header e s.allowed).1,
  ))
  prefix_reads p (kind.Punct m) e f n d ts rest s ends =
      let c = s.spells in
      let b = prefix_bound types (kind.Punct m) e s.allowed in
      let r = f n d (prefix_mark_need m) c.0 rest c.2 s.allowed (omega (arith, s.deep))
      (omega (arith, s.long, ap length c.1)) (tight_ends (prefix_mark_need m) rest b.0 ends) b.1 in
      unary_mark (readers types n d) (suc d) p m e ts c.0 rest c.1 b.1 r
  prefix_reads p (kind.Key k) e f n d ts rest s ends =
      let c = s.spells in
      let b = prefix_bound types (kind.Key k) e s.allowed in
      let is : k ≡ keys.Sizeof = sizeof_need k b.1 in
      let ok : expr_at types 14 e ≡ true = subst (λ z. expr_at types (prefix_key_need z) e ≡ true) is s.allowed in
      let r = f n d 14 c.0 rest c.2 ok (omega (arith, s.deep)) (omega (arith, s.long, ap length c.1))
      (tight_ends 14 rest (omega arith) ends) (omega arith) in
      let none = unary_no_type types 14 e c.0 rest (at_level types 14 e ok) ok c.2 in
      let front : ts ≡ key_at keys.Sizeof p ∷ c.0 = c.1 ∙ ap (λ z. key_at z p ∷ c.0) is in
      subst (λ z. unary types (readers types n d) (suc d) ts ≡ Some (prefix p (kind.Key z) e, rest)) (sym is)
      (unary_sizeof (readers types n d) (suc d) p e ts c.0 rest front (no_sizeof_front types c.0 none) r)

  pub prefix_steps : (p : Pos) (k : Kind) (e : Expr) → ExprReads types e → Steps types (prefix p k e)
  prefix_steps p k e f = unary_steps types (prefix p k e) refl (prefix_reads p k e f)

  unary_sizeof_type : (low : Lower) (most : ℕ) (p q r : Pos) (t : TypeName) (ts inner rest : List Placed)
      → ts ≡ key_at keys.Sizeof p ∷ mark_at puncts.LeftParen q ∷ inner → begins_type types inner ≡ true
      → type_name_at low inner ≡ Some (t, mark_at puncts.RightParen r ∷ rest)
      → unary types low most ts ≡ Some (size_of_type p t, rest)
  unfolding unary sizeof_at on_some chain when
  unary_sizeof_type low most p q r t ts inner rest s b h = rw (s, b, h) refl

  pub sizeof_steps : (p : Pos) (t : TypeName) → TypeNameReads types t → Steps types (size_of_type p t)
  sizeof_steps p t g = unary_steps types (size_of_type p t) refl (λ n d ts rest s ends.
      let c = s.spells in
      let y = g n d c.0 _ c.4 s.allowed (omega (arith, s.deep)) (omega (arith, s.long, ap length c.3))
      (type_ends_at_paren c.2 rest) in
      unary_sizeof_type (readers types n d) (suc d) p c.1 c.2 t ts c.0 rest c.3
      (type_name_begins types t c.0 _ c.4 s.allowed) y)

  casted_cast : (low : Lower) (most : ℕ) (p q : Pos) (t : TypeName) (e : Expr) (ts inner operand rest : List Placed)
      → ts ≡ mark_at puncts.LeftParen p ∷ inner → begins_type types inner ≡ true
      → type_name_at low inner ≡ Some (t, mark_at puncts.RightParen q ∷ operand)
      → low.expr 13 operand ≡ Some (e, rest) → casted types low most ts ≡ Some (cast p t e, rest)
  unfolding casted cast_front on_some chain when
  casted_cast low most p q t e ts inner operand rest s b h k = rw (s, b, h, k) refl

  pub casts_steps : (p : Pos) (t : TypeName) (e : Expr) → TypeNameReads types t → ExprReads types e
      → Steps types (cast p t e)
  casts_steps p t e g f = cast_steps types (cast p t e) refl (λ n d ts rest s ends.
      let c = s.spells in
      let a = and_true (type_name_ok types t) (expr_at types 13 e) s.allowed in
      let i = type_name_no_longer t _ _ c.4 in
      let y = g n d c.0 _ c.4 a.0 (omega (arith, s.deep)) (omega (arith, s.long, ap length c.3))
      (type_ends_at_paren c.2 c.1) in
      let r = f n d 13 c.1 rest c.5 a.1 (omega (arith, s.deep)) (omega (arith, s.long, i, ap length c.3))
      (tight_ends 13 rest (omega arith) ends) (omega arith) in
      casted_cast (readers types n d) (suc d) p c.2 t e ts c.0 c.1 rest c.3 (type_name_begins types t c.0 _ c.4 a.0)
      y r)

  operations_more : (low : Lower) (most k l : ℕ) (p : Pos) (m : Punct) (a b : Expr) (right rest : List Placed)
      → l ≤ binary_level m → binary_level m ≤ 12 → expr_depth a < most
      → low.expr (binary_level m + 1) right ≡ Some (b, rest)
      → operations types low most (suc k) l a (mark_at m p ∷ right)
      ≡ operations types low most k l (binary p m a b) rest
  unfolding operations on_some chain when
  operations_more low most k l p m a b right rest h high deep r = rw (
    le_true _ _ h,
    le_true _ _ high,
    lt_true _ _
        deep,
    r,
  ) refl

  binary_next : (n d k l : ℕ) (p : Pos) (m : Punct) (a b : Expr) (ts right rest : List Placed) → l ≤ binary_level m
      → binary_level m ≤ 12 → expr_depth a ≤ d → (readers types n d).expr (binary_level m + 1) right ≡ Some (b, rest)
      → suc d ≤ k + expr_depth a → climb types (readers types n d) (suc d) l ts
      ≡ operations types (readers types n d) (suc d) k l a (mark_at m p ∷ right)
      → ClimbComes types n d l (binary p m a b) ts rest
  binary_next n d zero l p m a b ts right rest h high deep r fuel c = absurd (omega (arith, deep, fuel))
  binary_next n d (suc k) l p m a b ts right rest h high deep r fuel c = (
    k,
    omega (arith, fuel),
    c
        ∙ operations_more (readers types n d) (suc d) k l p m a b right rest h high (omega (arith, deep)) r,
  )

  binary_comes : (p : Pos) (m : Punct) (a b : Expr) → Steps types a → ExprReads types b
      → ClimbAll types (binary p m a b)
  binary_comes p m a b f g n d l ts rest s low high ends none =
      let c = s.spells in
      let o = binary_parts types 0 p m a b s.allowed in
      let q = binary_bounds types m b o.2 in
      let tight : binary_level m ≤ level a = at_level types (binary_level m) a o.1 in
      let left : Stands types n d a ts (mark_at m p ∷ c.0) = record {
        spells = c.1;
        allowed = at_whole types
            (binary_level m) a o.1;
        deep = omega (arith, s.deep);
        long = s.long;
      } in
      let i = expr_no_longer a ts _ c.1 in
      let k = f.climb_comes (omega (arith, q, tight)) n d l ts (mark_at m p ∷ c.0) left low
      (omega (arith, high, tight)) (operator_ends m p c.0 q.1) (operator_low (suc (level a)) m p c.0
      (omega (arith, tight))) in
      let r = g n d (binary_level m + 1) c.0 rest c.2 o.2 (omega (arith, s.deep)) (omega (arith, s.long, i))
      (right_ends (binary_level m) rest q.0 ends none) (omega (arith, q)) in
      binary_next n d k.0 l p m a b ts c.0 rest high q.1 (omega (arith, s.deep)) r k.1 k.2

  binary_tight : (p : Pos) (m : Punct) (a b : Expr) → expr_at types 0 (binary p m a b) ≡ true → binary_level m ≤ 13
  binary_tight p m a b ok = omega (arith, (binary_bounds types m b (binary_parts types 0 p m a b ok).2).1)

  pub binary_steps : (p : Pos) (m : Punct) (a b : Expr) → Steps types a → ExprReads types b
      → Steps types (binary p m a b)
  binary_steps p m a b f g = climb_steps types (binary p m a b) (binary_far m).0 (binary_tight p m a b)
      (binary_comes p m a b f g)

  conditional_turn : (n d k : ℕ) (p q : Pos) (a b e : Expr) (ts middle right rest : List Placed)
      → climb types (readers types n d) (suc d) 3 ts ≡ operations types (readers types n d) (suc d) k 3 a
      (mark_at puncts.Question p ∷ middle) → expr_depth a ≤ d
      → (readers types n d).expr 0 middle ≡ Some (b, mark_at puncts.Colon q ∷ right)
      → (readers types n d).expr 2 right ≡ Some (e, rest)
      → conditional_at types (readers types n d) (suc d) ts ≡ Some (conditional p a b e, rest)
  unfolding conditional_at conditional_rest on_some chain when
  conditional_turn n d k p q a b e ts middle right rest c deep r t =
      rw (
        c,
        operations_stop types (readers types n d) (suc d) k 3 a (mark_at puncts.Question p ∷ middle) refl,
        lt_true (expr_depth a) (suc d) (omega (arith, deep)),
        r,
        t,
      ) refl

  pub conditionals_steps : (p : Pos) (a b e : Expr) → Steps types a → ExprReads types b → ExprReads types e
      → Steps types (conditional p a b e)
  conditionals_steps p a b e f g h = conditional_steps types (conditional p a b e) refl (λ n d ts rest s ends.
      let c = s.spells in
      let o = and_true (expr_at types 3 a) (expr_at types 0 b && expr_at types 2 e) s.allowed in
      let u = and_true (expr_at types 0 b) (expr_at types 2 e) o.1 in
      let high = at_level types 3 a o.0 in
      let left : Stands types n d a ts (mark_at puncts.Question p ∷ c.0) = record
      { spells = c.3; allowed = at_whole types 3 a o.0; deep = omega (arith, s.deep); long = s.long } in
      let i = expr_no_longer a ts _ c.3 in
      let j = expr_no_longer b c.0 _ c.4 in
      let k = f.climb_comes high n d 3 ts (mark_at puncts.Question p ∷ c.0) left (omega arith) high
      (record { no_text = refl; no_call = refl; no_index = refl; no_dot = refl; no_arrow = refl; no_step = refl })
      (no_operator_mono 3 (suc (level a)) (mark_at puncts.Question p ∷ c.0) (omega (arith, high)) refl) in
      let r = g n d 0 c.0 _ c.4 u.0 (omega (arith, s.deep)) (omega (arith, s.long, i)) (ends_at_colon c.2 c.1)
      (omega arith) in
      let t = h n d 2 c.1 rest c.5 u.1 (omega (arith, s.deep)) (omega (arith, s.long, i, j)) ends (omega arith) in
      conditional_turn n d k.0 p c.2 a b e ts c.0 c.1 rest k.2 (omega (arith, s.deep)) r t)

  assign_turn : (low : Lower) (most : ℕ) (p : Pos) (m : Punct) (a b : Expr) (ts right rest : List Placed)
      → conditional_at types low most ts ≡ Some (a, mark_at m p ∷ right) → is_assign m ≡ true → 14 ≤ level a
      → expr_depth a < most → low.expr 1 right ≡ Some (b, rest)
      → assign_at types low most ts ≡ Some (assign p m a b, rest)
  unfolding assign_at assign_rest on_some chain when
  assign_turn low most p m a b ts right rest c ok high deep r = rw (
    c,
    ok,
    le_true 14 (level a) high,
    lt_true
        (expr_depth a) most deep,
    r,
  ) refl

  pub assigns_steps : (p : Pos) (m : Punct) (a b : Expr) → Steps types a → ExprReads types b
      → Steps types (assign p m a b)
  assigns_steps p m a b f g = assign_steps types (assign p m a b) refl (λ n d ts rest s ends.
      let c = s.spells in
      let o = and_true (is_assign m) (expr_at types 14 a && expr_at types 1 b) s.allowed in
      let u = and_true (expr_at types 14 a) (expr_at types 1 b) o.1 in
      let high = at_level types 14 a u.0 in
      let left : Stands types n d a ts (mark_at m p ∷ c.0) = record {
        spells = c.1;
        allowed = at_whole types 14 a
            u.0;
        deep = omega (arith, s.deep);
        long = s.long;
      } in
      let i = expr_no_longer a ts _ c.1 in
      let k = f.conditional_reads (omega (arith, high)) n d ts (mark_at m p ∷ c.0) left (assign_ends m p c.0 o.0) in
      let r = g n d 1 c.0 rest c.2 u.1 (omega (arith, s.deep)) (omega (arith, s.long, i)) ends (omega arith) in
      assign_turn (readers types n d) (suc d) p m a b ts c.0 rest k o.0 high (omega (arith, s.deep)) r)

  commas_more : (low : Lower) (most k : ℕ) (p : Pos) (a b : Expr) (right rest : List Placed) → expr_depth a < most
      → low.expr 1 right ≡ Some (b, rest) → commas types low most (suc k) a (mark_at puncts.Comma p ∷ right)
      ≡ commas types low most k (comma p a b) rest
  unfolding commas on_some chain when
  commas_more low most k p a b right rest deep r = rw (lt_true _ _ deep, r) refl

  comma_next : (n d k : ℕ) (p : Pos) (a b : Expr) (ts right rest : List Placed) → expr_depth a ≤ d
      → (readers types n d).expr 1 right ≡ Some (b, rest) → suc d ≤ k + expr_depth a
      → comma_at types (readers types n d) (suc d) ts ≡ commas types (readers types n d) (suc d) k a
      (mark_at puncts.Comma p ∷ right) → CommaComes types n d (comma p a b) ts rest
  comma_next n d zero p a b ts right rest deep r fuel c = absurd (omega (arith, deep, fuel))
  comma_next n d (suc k) p a b ts right rest deep r fuel c = (
    k,
    omega (arith, fuel),
    c
        ∙ commas_more (readers types n d) (suc d) k p a b right rest (omega (arith, deep)) r,
  )

  pub commas_steps : (p : Pos) (a b : Expr) → Steps types a → ExprReads types b → Steps types (comma p a b)
  commas_steps p a b f g = comma_steps types (comma p a b) refl (λ n d ts rest s ends.
      let c = s.spells in
      let o = and_true (expr_at types 0 a) (expr_at types 1 b) s.allowed in
      let left : Stands types n d a ts (mark_at puncts.Comma p ∷ c.0) = record
      { spells = c.1; allowed = o.0; deep = omega (arith, s.deep); long = s.long } in
      let i = expr_no_longer a ts _ c.1 in
      let k = f.comma_comes n d ts (mark_at puncts.Comma p ∷ c.0) left (ends_at_comma p c.0) in
      let r = g n d 1 c.0 rest c.2 o.1 (omega (arith, s.deep)) (omega (arith, s.long, i)) ends (omega arith) in
      comma_next n d k.0 p a b ts c.0 rest (omega (arith, s.deep)) r k.1 k.2)
