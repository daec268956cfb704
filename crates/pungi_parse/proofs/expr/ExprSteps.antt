-- An expression that stands at the front of the tokens is read: what is to be shown at each level, and how it goes up
-- from level to level.
-- At a loop to the left the fact is that reading comes to the loop with this expression in hand, and fuel enough.
--   PostfixComes, ClimbComes, CommaComes    reading comes to the loop of the level
--   PostfixAll .. CommaAll    the fact of each level, for any tokens
--   Steps types e     the facts of the levels that the expression has
--   .._stop           the loop ends
--   .._up             the fact of a level, by that of the next tighter one
--   whole             the readers over each other read it
use Rattle.std.proofs.Common.{◌≡◌, ℕ, zero, suc, ◌+◌, ◌<◌, ◌≤◌, Bool, true, false, cond, List, [], ◌∷◌, length, Some}
use Rattle.std.proofs.Common.{None, refl, ◌∙◌, subst, arith}
use Rattle.std.specs.Prelude.{nat_le}
use Rattle.pungi_base.specs.declared.key.Key.TheVariants as keys
use Rattle.pungi_base.specs.declared.names.Name.{Name}
use Rattle.pungi_base.specs.declared.pos.Pos.{Pos}
use Rattle.pungi_base.specs.declared.punct.Punct.TheVariants as puncts
use Rattle.pungi_parse.specs.tokens.OneToken.{eat, eat_key, eat_text, eat_prefix, eat_operator, eat_assign}
use Rattle.pungi_parse.specs.expr.ExprReader.{primary, postfix_turn, postfixes, postfix, unary, casted, operations}
use Rattle.pungi_parse.specs.expr.ExprReader.{climb, conditional_rest, conditional_at, assign_rest, assign_at, commas}
use Rattle.pungi_parse.specs.expr.ExprReader.{comma_at, read_at, expr_at as read_expr}
use Rattle.pungi_parse.specs.Reading.{Read, chain, on_some, when}
use Rattle.pungi_parse.specs.Readers.{readers}
use Rattle.pungi_parse.specs.types.TypeReader.{Lower}
use Rattle.pungi_parse.proofs.expr.Choices.{NoType, no_paren, unary_no_type, postfix_no_prefix, no_cast_front}
use Rattle.pungi_parse.proofs.tokens.Eaten.{no_operator_mono}
use Rattle.pungi_parse.proofs.tokens.Ends.{PostfixEnds, ExprEnds, ends_at_assignment}
use Rattle.pungi_parse.proofs.expr.ExprSound.{at_least_same}
use Rattle.pungi_parse.proofs.trees.Facts.{ExprReads}
use Rattle.pungi_parse.proofs.trees.Levels.{at_level, at_whole, some_depth}
use Rattle.pungi_parse.proofs.trees.Shorter.{expr_shorter}
use Rattle.pungi_parse.proofs.Tools.{lt_true, le_from}
use Rattle.pungi_tree.specs.ExprDepth.{expr_depth}
use Rattle.pungi_tree.specs.ExprLevels.{expr_at}
use Rattle.pungi_tree.specs.ExprSpells.{Spells}
use Rattle.pungi_tree.specs.Operators.{level}
use Rattle.pungi_tree.specs.Placed.{Placed, first_place}
use Rattle.pungi_tree.specs.Syntax.{Expr}

module _ (types : List Name) where
  abbrev pub PostfixComes : ℕ → ℕ → Pos → Expr → List Placed → List Placed → Type 0
  PostfixComes n d p e ts rest = (k : ℕ) × (suc d ≤ k + expr_depth e)
      × (postfix types (readers types n d) (suc d) ts ≡ postfixes types (readers types n d) (suc d) k p e rest)

  abbrev pub ClimbComes : ℕ → ℕ → ℕ → Expr → List Placed → List Placed → Type 0
  ClimbComes n d l e ts rest = (k : ℕ) × (suc d ≤ k + expr_depth e)
      × (climb types (readers types n d) (suc d) l ts ≡ operations types (readers types n d) (suc d) k l e rest)

  abbrev pub CommaComes : ℕ → ℕ → Expr → List Placed → List Placed → Type 0
  CommaComes n d e ts rest = (k : ℕ) × (suc d ≤ k + expr_depth e)
      × (comma_at types (readers types n d) (suc d) ts ≡ commas types (readers types n d) (suc d) k e rest)

  -- an expression stands there, and the readers of its parts go deep enough
  pub record Stands (n d : ℕ) (e : Expr) (ts rest : List Placed) : Type 0 where
    pub spells : Spells e ts rest
    pub allowed : expr_at types 0 e ≡ true
    pub deep : expr_depth e ≤ suc d
    pub long : length ts ≤ suc n

  abbrev pub PostfixAll : Expr → Type 0
  PostfixAll e = (n d : ℕ) (p : Pos) (ts rest : List Placed) → Stands n d e ts rest → first_place ts ≡ Some p
      → eat_text rest ≡ None → NoType types rest → PostfixComes n d p e ts rest

  abbrev pub UnaryAll : Expr → Type 0
  UnaryAll e = (n d : ℕ) (ts rest : List Placed) → Stands n d e ts rest → PostfixEnds rest
      → unary types (readers types n d) (suc d) ts ≡ Some (e, rest)

  abbrev pub CastAll : Expr → Type 0
  CastAll e = (n d : ℕ) (ts rest : List Placed) → Stands n d e ts rest → PostfixEnds rest
      → casted types (readers types n d) (suc d) ts ≡ Some (e, rest)

  abbrev pub ClimbAll : Expr → Type 0
  ClimbAll e = (n d l : ℕ) (ts rest : List Placed) → Stands n d e ts rest → 3 ≤ l → l ≤ level e → PostfixEnds rest
      → eat_operator (suc (level e)) rest ≡ None → ClimbComes n d l e ts rest

  abbrev pub ConditionalAll : Expr → Type 0
  ConditionalAll e = (n d : ℕ) (ts rest : List Placed) → Stands n d e ts rest → ExprEnds 2 rest
      → conditional_at types (readers types n d) (suc d) ts ≡ Some (e, rest)

  abbrev pub AssignAll : Expr → Type 0
  AssignAll e = (n d : ℕ) (ts rest : List Placed) → Stands n d e ts rest → ExprEnds 1 rest
      → assign_at types (readers types n d) (suc d) ts ≡ Some (e, rest)

  abbrev pub CommaAll : Expr → Type 0
  CommaAll e = (n d : ℕ) (ts rest : List Placed) → Stands n d e ts rest → ExprEnds 1 rest → CommaComes n d e ts rest

  pub record Steps (e : Expr) : Type 0 where
    pub postfix_comes : 15 ≤ level e → PostfixAll e
    pub unary_reads : 14 ≤ level e → UnaryAll e
    pub climb_comes : 3 ≤ level e → ClimbAll e
    pub conditional_reads : 2 ≤ level e → ConditionalAll e
    pub assign_reads : 1 ≤ level e → AssignAll e
    pub comma_comes : CommaAll e

  turn_stops : (low : Lower) (p : Pos) (e : Expr) (ts : List Placed) → PostfixEnds ts
      → postfix_turn types low p e ts ≡ None
  unfolding postfix_turn on_some
  turn_stops low p e ts h = rw (h.no_call, h.no_index, h.no_dot, h.no_arrow, h.no_step) refl

  postfixes_stop : (low : Lower) (most k : ℕ) (p : Pos) (e : Expr) (ts : List Placed) → PostfixEnds ts
      → postfixes types low most k p e ts ≡ Some (e, ts)
  unfolding postfixes on_some
  postfixes_stop low most zero p e ts h = rw (turn_stops low p e ts h) refl
  postfixes_stop low most (suc k) p e ts h = rw (turn_stops low p e ts h) refl

  pub operations_stop : (low : Lower) (most k l : ℕ) (e : Expr) (ts : List Placed) → eat_operator l ts ≡ None
      → operations types low most k l e ts ≡ Some (e, ts)
  unfolding operations on_some
  operations_stop low most zero l e ts h = rw h refl
  operations_stop low most (suc k) l e ts h = rw h refl

  commas_stop : (low : Lower) (most k : ℕ) (e : Expr) (ts : List Placed) → eat puncts.Comma ts ≡ None
      → commas types low most k e ts ≡ Some (e, ts)
  unfolding commas on_some
  commas_stop low most zero e ts h = rw h refl
  commas_stop low most (suc k) e ts h = rw h refl

  pub postfixes_more : (low : Lower) (most k : ℕ) (p : Pos) (e x : Expr) (r : Read Expr) (ts rest : List Placed)
      → expr_depth e < most → postfix_turn types low p e ts ≡ Some r → r ≡ Some (x, rest)
      → postfixes types low most (suc k) p e ts ≡ postfixes types low most k p x rest
  unfolding postfixes on_some chain when
  postfixes_more low most k p e x r ts rest deep t h = rw (t, lt_true _ _ deep, h) refl

  -- the loop over what stands after a postfix expression takes one more turn
  pub postfix_next : (n d k : ℕ) (p : Pos) (e x : Expr) (r : Read Expr) (ts at rest : List Placed)
      → expr_depth e ≤ d → expr_depth e < expr_depth x → postfix_turn types (readers types n d) p e at ≡ Some r
      → r ≡ Some (x, rest) → suc d ≤ k + expr_depth e
      → postfix types (readers types n d) (suc d) ts ≡ postfixes types (readers types n d) (suc d) k p e at
      → PostfixComes n d p x ts rest
  postfix_next n d zero p e x r ts at rest deep more t h fuel c = absurd (omega (arith, deep, fuel))
  postfix_next n d (suc k) p e x r ts at rest deep more t h fuel c = (
    k,
    omega (arith, deep, more, fuel),
    c
        ∙ postfixes_more (readers types n d) (suc d) k p e x r at rest (omega (arith, deep)) t h,
  )

  pub from_primary : (n d : ℕ) (p : Pos) (e : Expr) (ts rest : List Placed) → first_place ts ≡ Some p
      → primary types (readers types n d) ts ≡ Some (e, rest) → PostfixComes n d p e ts rest
  unfolding postfix chain
  from_primary n d p e ts rest place h = (suc d, omega arith, rw (place, h) refl)

  some_place : (ts : List Placed) → 0 < length ts → (p : Pos) × (first_place ts ≡ Some p)
  some_place [] h = absurd (omega (arith, h))
  some_place (t ∷ ts) h = (t.1, refl)

  from_postfix : (n d : ℕ) (p : Pos) (e : Expr) (ts rest : List Placed) → eat_prefix ts ≡ None
      → eat_key keys.Sizeof ts ≡ None → PostfixEnds rest → PostfixComes n d p e ts rest
      → unary types (readers types n d) (suc d) ts ≡ Some (e, rest)
  unfolding unary on_some
  from_postfix n d p e ts rest h k ends c = rw (h, k, c.2) (postfixes_stop (readers types n d) (suc d) c.0 p e rest
      ends)

  unary_up : (e : Expr) → 15 ≤ level e → PostfixAll e → UnaryAll e
  unary_up e high f n d ts rest s ends =
      let p = some_place ts (omega (arith, expr_shorter types 0 e ts rest s.spells s.allowed)) in
      let none = postfix_no_prefix types 0 e ts rest high s.allowed s.spells in
      from_postfix n d p.0 e ts rest none.0 none.1 ends (f n d p.0 ts rest s p.1 ends.no_text
      (no_paren types rest ends.no_call))

  from_unary : (n d : ℕ) (e : Expr) (ts rest : List Placed) → NoType types ts
      → unary types (readers types n d) (suc d) ts ≡ Some (e, rest)
      → casted types (readers types n d) (suc d) ts ≡ Some (e, rest)
  unfolding casted on_some
  from_unary n d e ts rest none h = rw (no_cast_front types ts none) h

  cast_up : (e : Expr) → 14 ≤ level e → UnaryAll e → CastAll e
  cast_up e high f n d ts rest s ends = from_unary n d e ts rest (unary_no_type types 0 e ts rest high s.allowed
      s.spells) (f n d ts rest s ends)

  from_casted : (n d l : ℕ) (e : Expr) (ts rest : List Placed)
      → casted types (readers types n d) (suc d) ts ≡ Some (e, rest) → ClimbComes n d l e ts rest
  unfolding climb chain
  from_casted n d l e ts rest h = (suc d, omega arith, rw h refl)

  climb_up : (e : Expr) → CastAll e → ClimbAll e
  climb_up e f n d l ts rest s low high ends none = from_casted n d l e ts rest (f n d ts rest s ends)

  from_climb : (n d : ℕ) (e : Expr) (ts rest : List Placed) → ClimbComes n d 3 e ts rest
      → eat_operator 3 rest ≡ None → eat puncts.Question rest ≡ None
      → conditional_at types (readers types n d) (suc d) ts ≡ Some (e, rest)
  unfolding conditional_at conditional_rest on_some chain
  from_climb n d e ts rest c h q = rw (c.2, operations_stop (readers types n d) (suc d) c.0 3 e rest h, q) refl

  conditional_up : (e : Expr) → 3 ≤ level e → ClimbAll e → ConditionalAll e
  conditional_up e high f n d ts rest s ends =
      let c = f n d 3 ts rest s (omega arith) high ends.no_postfix (no_operator_mono 3 (suc (level e)) rest
      (omega (arith, high)) ends.no_operator) in
      from_climb n d e ts rest c ends.no_operator (ends.no_question (omega arith))

  from_conditional : (n d : ℕ) (e : Expr) (ts rest : List Placed)
      → conditional_at types (readers types n d) (suc d) ts ≡ Some (e, rest) → eat_assign rest ≡ None
      → assign_at types (readers types n d) (suc d) ts ≡ Some (e, rest)
  unfolding assign_at assign_rest on_some chain
  from_conditional n d e ts rest h a = rw (h, a) refl

  ends_looser : (ts : List Placed) → ExprEnds 1 ts → ExprEnds 2 ts
  ends_looser ts e = record {
    no_postfix = e.no_postfix;
    no_operator = e.no_operator;
    no_question = λ _.
        e.no_question (omega arith);
    no_assign = λ h. absurd (omega (arith, h));
    no_comma = λ h. absurd
        (omega (arith, h));
  }

  assign_up : (e : Expr) → ConditionalAll e → AssignAll e
  assign_up e f n d ts rest s ends = from_conditional n d e ts rest (f n d ts rest s (ends_looser rest ends))
      (ends.no_assign (omega arith))

  from_assign : (n d : ℕ) (e : Expr) (ts rest : List Placed)
      → assign_at types (readers types n d) (suc d) ts ≡ Some (e, rest) → CommaComes n d e ts rest
  unfolding comma_at chain
  from_assign n d e ts rest h = (suc d, omega arith, rw h refl)

  comma_up : (e : Expr) → AssignAll e → CommaAll e
  comma_up e f n d ts rest s ends = from_assign n d e ts rest (f n d ts rest s ends)

  pub comma_steps : (e : Expr) → level e ≡ 0 → CommaAll e → Steps e
  comma_steps e h f = record {
    postfix_comes = λ k. absurd (omega (arith, h, k));
    unary_reads = λ k. absurd (omega (arith, h, k));
    climb_comes = λ k. absurd (omega (arith, h, k));
    conditional_reads = λ k. absurd (omega (arith, h, k));
    assign_reads = λ k. absurd (omega (arith, h, k));
    comma_comes = f;
  }

  pub assign_steps : (e : Expr) → level e ≡ 1 → AssignAll e → Steps e
  assign_steps e h f = record {
    postfix_comes = λ k. absurd (omega (arith, h, k));
    unary_reads = λ k. absurd (omega (arith, h, k));
    climb_comes = λ k. absurd (omega (arith, h, k));
    conditional_reads = λ k. absurd (omega (arith, h, k));
    assign_reads = λ k. f;
    comma_comes = comma_up e f;
  }

  pub conditional_steps : (e : Expr) → level e ≡ 2 → ConditionalAll e → Steps e
  conditional_steps e h f = record {
    postfix_comes = λ k. absurd (omega (arith, h, k));
    unary_reads = λ k. absurd (omega (arith, h, k));
    climb_comes = λ k. absurd (omega (arith, h, k));
    conditional_reads = λ k. f;
    assign_reads = λ k. assign_up e f;
    comma_comes = comma_up e (assign_up e f);
  }

  -- no allowed expression of this kind is one of unary level or a tighter one
  pub climb_steps : (e : Expr) → 3 ≤ level e → (expr_at types 0 e ≡ true → level e ≤ 13) → ClimbAll e → Steps e
  climb_steps e h low f = let c = conditional_up e h f in record {
    postfix_comes = λ k n d p ts rest s. absurd (omega (arith, k, low s.allowed));
    unary_reads = λ k n d ts rest s. absurd (omega (arith, k, low s.allowed));
    climb_comes = λ k. f;
    conditional_reads = λ k. c;
    assign_reads = λ k. assign_up e c;
    comma_comes = comma_up e (assign_up e c);
  }

  pub cast_steps : (e : Expr) → level e ≡ 13 → CastAll e → Steps e
  cast_steps e h f = climb_steps e (omega (arith, h)) (λ _. omega (arith, h)) (climb_up e f)

  pub unary_steps : (e : Expr) → level e ≡ 14 → UnaryAll e → Steps e
  unary_steps e h f =
      let g = climb_up e (cast_up e (omega (arith, h)) f) in
      let c = conditional_up e (omega (arith, h)) g in
      record {
        postfix_comes = λ k. absurd (omega (arith, h, k));
        unary_reads = λ k. f;
        climb_comes = λ k. g;
        conditional_reads = λ k. c;
        assign_reads = λ k. assign_up e c;
        comma_comes = comma_up e (assign_up e c);
      }

  pub postfix_steps : (e : Expr) → 15 ≤ level e → PostfixAll e → Steps e
  postfix_steps e h f =
      let u = unary_up e h f in
      let g = climb_up e (cast_up e (omega (arith, h)) u) in
      let c = conditional_up e (omega (arith, h)) g in
      record {
        postfix_comes = λ k. f;
        unary_reads = λ k. u;
        climb_comes = λ k. g;
        conditional_reads = λ k. c;
        assign_reads = λ k. assign_up e c;
        comma_comes = comma_up e (assign_up e c);
      }

  comma_whole : (e : Expr) → Steps e → (n d : ℕ) (ts rest : List Placed) → Stands n d e ts rest → ExprEnds 0 rest
      → comma_at types (readers types n d) (suc d) ts ≡ Some (e, rest)
  comma_whole e f n d ts rest s ends =
      let c = f.comma_comes n d ts rest s (ends_at_assignment rest ends) in
      c.2 ∙ commas_stop (readers types n d) (suc d) c.0 e rest (ends.no_comma refl)

  tight_whole : (e : Expr) → Steps e → (b : Bool) (n d l : ℕ) (ts rest : List Placed) → nat_le 14 l ≡ b → 3 ≤ l
      → l ≤ level e → Stands n d e ts rest → ExprEnds l rest
      → cond b (unary types (readers types n d) (suc d) ts) (climb types (readers types n d) (suc d) l ts)
      ≡ Some (e, rest)
  tight_whole e f true n d l ts rest h high under s ends = f.unary_reads (omega (arith, under, le_from _ _ h)) n d
      ts rest s ends.no_postfix
  tight_whole e f false n d l ts rest h high under s ends =
      let none : eat_operator l rest ≡ None = subst (λ m. eat_operator m rest ≡ None) (at_least_same l high)
      ends.no_operator in
      let c = f.climb_comes (omega (arith, under, high)) n d l ts rest s high under ends.no_postfix
      (no_operator_mono l (suc (level e)) rest (omega (arith, under)) none) in
      c.2 ∙ operations_stop (readers types n d) (suc d) c.0 l e rest none

  read_whole : (e : Expr) → Steps e → (n d l : ℕ) (ts rest : List Placed) → l ≤ level e → Stands n d e ts rest
      → ExprEnds l rest → read_at types (readers types n d) (suc d) l ts ≡ Some (e, rest)
  unfolding read_at
  read_whole e f n d zero ts rest h s ends = comma_whole e f n d ts rest s ends
  read_whole e f n d (suc zero) ts rest h s ends = f.assign_reads h n d ts rest s ends
  read_whole e f n d (suc (suc zero)) ts rest h s ends = f.conditional_reads h n d ts rest s ends
  read_whole e f n d (suc (suc (suc l))) ts rest h s ends = tight_whole e f (nat_le 14 (suc (suc (suc l)))) n d
      (suc (suc (suc l))) ts rest refl (omega arith) h s ends

  pub whole : (e : Expr) → Steps e → ExprReads types e
  unfolding readers read_expr
  whole e f zero d l ts rest s ok deep long ends most = absurd (omega (
    arith,
    long,
    expr_shorter types l e ts rest s
        ok,
  ))
  whole e f (suc n) zero l ts rest s ok deep long ends most = absurd (omega (arith, deep, some_depth e))
  whole e f (suc n) (suc d) l ts rest s ok deep long ends most =
      read_whole e f n d l ts rest (at_level types l e ok) (record {
        spells = s;
        allowed = at_whole types l e ok;
        deep = deep;
        long = long;
      }) ends
