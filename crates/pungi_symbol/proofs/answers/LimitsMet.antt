-- What the limits that a state notes say of numbers, and what sums stand for.
use Rattle.std.proofs.Common.{◌≡◌, ℕ, zero, suc, ◌<◌, ℤ, pos, negsuc, ◌+ℤ◌, ◌-ℤ◌, List, [], ◌∷◌, ◌++◌}
use Rattle.std.proofs.Common.{Bool, true, false, refl, sym, ap, ◌∙◌, subst, arith, None, Some, cond}
use Rattle.std.proofs.Common.{eq-eqb}
use Rattle.std.specs.Prelude.{◌==◌, ◌-◌, ◌^◌, ◌≤ℤ◌, ◌<ℤ◌, int_lt, int_le, not}
use Rattle.std.specs.Ordering.{int_cmp, int_eq, MatchOrdering}
use Rattle.std.specs.Cmp.{int_ranks, int_cmp_is}
use Rattle.std.specs.declared.cmp.Ordering.{Ordering}
use Rattle.std.specs.declared.cmp.Ordering.TheVariants.{Less, Equal, Greater}
use Rattle.std.proofs.lemmas.Bool.Decides.{nat_tests}
use Rattle.std.proofs.lemmas.Int.{ints}
use Rattle.std.proofs.lemmas.List.Elements.{All-append}
use Rattle.pungi_base.specs.declared.value.Value.TheVariants as value
use Rattle.pungi_types.specs.declared.kind.ValueKind.{ValueKind}
use Rattle.pungi_world.specs.Choices.{is_between}
use Rattle.pungi_meaning.specs.declared.cmp.Cmp.{Cmp}
use Rattle.pungi_meaning.specs.declared.cmp.Cmp.TheVariants as cmps
use Rattle.pungi_meaning.specs.declared.op.Op.{Op}
use Rattle.pungi_meaning.specs.declared.op.Op.TheVariants as ops
use Rattle.pungi_meaning.specs.Values.{fits, holds, is_true, arithmetic, in_range, result_of, is_undefined}
use Rattle.pungi_meaning.specs.Values.{bits}
use Rattle.pungi_symbol.specs.declared.answers.decision.Decision.TheVariants.{Outcome, Order}
use Rattle.pungi_symbol.specs.declared.states.limit.Limit.{Limit}
use Rattle.pungi_symbol.specs.declared.states.node.Node.TheVariants as nodes
use Rattle.pungi_symbol.specs.declared.states.sum.Sum.{Sum as SumOf}
use Rattle.pungi_symbol.specs.states.Terms.{Table, node_value, sum_value, is_zero_node, is_same_node}
use Rattle.pungi_symbol.specs.questions.NextQuestion.{small_sum, sum_of}
use Rattle.pungi_symbol.specs.answers.KnownAfter.{order_number, holds_order}
use Rattle.pungi_symbol.specs.answers.SymbolicState.{can_order, can_range, range_place, low_limit, high_limit}
use Rattle.pungi_symbol.specs.answers.SymbolicState.{order_limits, range_limits, is_order, is_outcome}
use Rattle.pungi_symbol.specs.runs.Fits.{IsMet, AreMet}
use Rattle.pungi_symbol.proofs.states.Nodes.{zero_node, same_node}
use Rattle.pungi_symbol.proofs.answers.Fits.{one_all, two_all, all_before, all_after}

-- ---- one limit, and two

no_limit : Limit
no_limit = record { x = nodes.Zero; y = nodes.Zero; c = pos 0 }

one_met : (table : Table) (l : Limit) → AreMet table (l ∷ []) → IsMet table l
one_met table l m = m 0 no_limit (omega arith)

first_met : (table : Table) (l k : Limit) → AreMet table (l ∷ k ∷ []) → IsMet table l
first_met table l k m = m 0 no_limit (omega arith)

second_met : (table : Table) (l k : Limit) → AreMet table (l ∷ k ∷ []) → IsMet table k
second_met table l k m = m 1 no_limit (omega arith)

-- a state that notes more limits
pub more_met : (table : Table) (ls ks : List Limit) → AreMet table ls → AreMet table ks → AreMet table (ls ++ ks)
more_met table ls ks m n = All-append (IsMet table) ls ks m n

pub earlier_met : (table : Table) (ls ks : List Limit) → AreMet table (ls ++ ks) → AreMet table ls
earlier_met table ls ks m = all_before (IsMet table) ls ks m

pub later_met : (table : Table) (ls ks : List Limit) → AreMet table (ls ++ ks) → AreMet table ks
later_met table ls ks m = all_after (IsMet table) ls ks m

-- ---- how two sums compare

abbrev Ranks : ℤ → ℤ → Ordering → Type 0
Ranks m n o = MatchOrdering o (m <ℤ n) (m ≡ n) (n <ℤ m)

ranks_by : (m n : ℤ) (o : Ordering) → int_cmp m n ≡ o → Ranks m n o
ranks_by m n o e = subst (Ranks m n) e (int_ranks m n)

by_ranks : (m n : ℤ) (o : Ordering) → Ranks m n o → int_cmp m n ≡ o
by_ranks m n o r = sym (int_cmp_is m n o r)

-- a number more on both sides changes nothing
shifted : (v m n : ℤ) (o : Ordering) → Ranks m n o → Ranks (v +ℤ m) (v +ℤ n) o
shifted v m n Less r = omega (arith, ints, r)
shifted v m n Equal r = ap (λ z. v +ℤ z) r
shifted v m n Greater r = omega (arith, ints, r)

module _ (table : Table) (a b : SumOf) where
  abbrev Va : ℤ
  Va = sum_value table a

  abbrev Vb : ℤ
  Vb = sum_value table b

  meets_order : (o : Ordering) → Ranks Va Vb o → AreMet table (order_limits a b o)
  meets_order Less r = one_all (IsMet table) _ (omega (arith, ints, r))
  meets_order Equal r = two_all (IsMet table) _ _ (omega (arith, ints, r)) (omega (arith, ints, r))
  meets_order Greater r = one_all (IsMet table) _ (omega (arith, ints, r))

  order_meets : (o : Ordering) → AreMet table (order_limits a b o) → Ranks Va Vb o
  order_meets Less m = let h = one_met table _ m in omega (arith, ints, h)
  order_meets Equal m = let h = first_met table _ _ m in let g = second_met table _ _ m in omega (arith, ints, h, g)
  order_meets Greater m = let h = one_met table _ m in omega (arith, ints, h)

  pub order_met : (o : Ordering) → int_cmp (sum_value table a) (sum_value table b) ≡ o
      → AreMet table (order_limits a b o)
  order_met o e = meets_order o (ranks_by Va Vb o e)

  pub met_order : (o : Ordering) → AreMet table (order_limits a b o)
      → int_cmp (sum_value table a) (sum_value table b) ≡ o
  met_order o m = by_ranks Va Vb o (order_meets o m)

  same_node_order : a.node ≡ b.node → int_cmp a.plus b.plus ≡ int_cmp (sum_value table a) (sum_value table b)
  same_node_order e =
      sym (subst (λ n. int_cmp Va (node_value table n +ℤ b.plus) ≡ int_cmp a.plus b.plus) e
      (by_ranks Va (node_value table a.node +ℤ b.plus) (int_cmp a.plus b.plus)
      (shifted (node_value table a.node) a.plus b.plus (int_cmp a.plus b.plus) (int_ranks a.plus b.plus))))

  same_order : (o p : Ordering) → o ≡ p → is_order o p ≡ true
  same_order o p e = subst (λ z. is_order o z ≡ true) e (itself o)
    where
      itself : (o : Ordering) → is_order o o ≡ true
      itself Less = refl
      itself Equal = refl
      itself Greater = refl

  order_by : (t : Bool) → is_same_node a.node b.node ≡ t
      → cond t (is_order (int_cmp a.plus b.plus) (int_cmp Va Vb)) true ≡ true
  order_by true e = same_order (int_cmp a.plus b.plus) (int_cmp Va Vb) (same_node_order (same_node a.node b.node e))
  order_by false e = refl

  pub order_can : can_order a b (Order (int_cmp (sum_value table a) (sum_value table b))) ≡ true
  order_can = order_by (is_same_node a.node b.node) refl

-- ---- where a number lies

between_says : (low high n : ℤ) → is_between low high n ≡ true → (low ≤ℤ n) × (n ≤ℤ high)
between_says low high n e = (grind (arith, ints), grind (arith, ints))

below_says : (l h : ℕ) (n : ℤ) → is_between (negsuc l) (pos h) n ≡ false → int_lt n (pos 0) ≡ true → n <ℤ negsuc l
below_says l h n e f = grind (arith, ints)

above_says : (l h : ℕ) (n : ℤ) → is_between (negsuc l) (pos h) n ≡ false → int_lt n (pos 0) ≡ false → pos h <ℤ n
above_says l h n e f = grind (arith, ints)

pub data Lying (kind : ValueKind) (n : ℤ) : Type 0 where
  below : range_place kind n ≡ 0 → fits kind n ≡ false → n <ℤ low_limit kind → Lying kind n
  within : range_place kind n ≡ 1 → fits kind n ≡ true → low_limit kind ≤ℤ n → n ≤ℤ high_limit kind → Lying kind n
  above : range_place kind n ≡ 2 → fits kind n ≡ false → high_limit kind <ℤ n → Lying kind n

lying_by : (kind : ValueKind) (n : ℤ) (t u : Bool) → fits kind n ≡ t → int_lt n (pos 0) ≡ u → Lying kind n
lying_by kind n true u e f =
    let r = between_says (low_limit kind) (high_limit kind) n e in
    within (ap (λ z. cond z 1 (cond (int_lt n (pos 0)) 0 2)) e) e r.0 r.1
lying_by kind n false true e f =
    below (ap (λ z. cond z 1 (cond (int_lt n (pos 0)) 0 2)) e ∙ ap (λ z. cond z 0 2) f) e
    (below_says (2 ^ bits kind - 1) (2 ^ bits kind - 1) n e f)
lying_by kind n false false e f =
    above (ap (λ z. cond z 1 (cond (int_lt n (pos 0)) 0 2)) e ∙ ap (λ z. cond z 0 2) f) e
    (above_says (2 ^ bits kind - 1) (2 ^ bits kind - 1) n e f)

lying : (kind : ValueKind) (n : ℤ) → Lying kind n
lying kind n = lying_by kind n (fits kind n) (int_lt n (pos 0)) refl refl

pub place_few : (kind : ValueKind) (n : ℤ) → range_place kind n < 3
place_few kind n = elim (lying kind n) [
  | below e f h ↦ omega (arith, e)
  | within e f h g ↦ omega (arith, e)
  | above e f h ↦ omega (arith, e)
]

module _ (table : Table) (kind : ValueKind) (a : SumOf) where
  abbrev V : ℤ
  V = sum_value table a

  below_met : V <ℤ low_limit kind → AreMet table (range_limits kind a 0)
  below_met h = one_all (IsMet table) _ (omega (arith, ints, h))

  within_met : low_limit kind ≤ℤ V → V ≤ℤ high_limit kind → AreMet table (range_limits kind a 1)
  within_met h g = two_all (IsMet table) _ _ (omega (arith, ints, h, g)) (omega (arith, ints, h, g))

  above_met : high_limit kind <ℤ V → AreMet table (range_limits kind a 2)
  above_met h = one_all (IsMet table) _ (omega (arith, ints, h))

  pub range_met : (k : ℕ) → range_place kind (sum_value table a) ≡ k → AreMet table (range_limits kind a k)
  range_met k p = subst (λ j. AreMet table (range_limits kind a j)) p (elim (lying kind V) [
    | below e f h ↦ subst (λ j. AreMet table (range_limits kind a j)) (sym e) (below_met h)
    | within e f h g ↦ subst (λ j. AreMet table (range_limits kind a j)) (sym e) (within_met h g)
    | above e f h ↦ subst (λ j. AreMet table (range_limits kind a j)) (sym e) (above_met h)
  ])

  met_below : AreMet table (range_limits kind a 0) → V <ℤ low_limit kind
  met_below m = let h = one_met table _ m in omega (arith, ints, h)

  met_low : AreMet table (range_limits kind a 1) → low_limit kind ≤ℤ V
  met_low m = let h = second_met table _ _ m in omega (arith, ints, h)

  met_high : AreMet table (range_limits kind a 1) → V ≤ℤ high_limit kind
  met_high m = let h = first_met table _ _ m in omega (arith, ints, h)

  met_above : AreMet table (range_limits kind a 2) → high_limit kind <ℤ V
  met_above m = let h = one_met table _ m in omega (arith, ints, h)

  apart : low_limit kind ≤ℤ high_limit kind
  apart = omega (arith, ints)

  pub met_range : (k : ℕ) → k < 3 → AreMet table (range_limits kind a k) → range_place kind (sum_value table a) ≡ k
  met_range zero lt m = let b = met_below m in let p = apart in elim (lying kind V) [
    | below e f h ↦ e
    | within e f h g ↦ absurd (omega (arith, ints, b, h))
    | above e f h ↦ absurd (omega (arith, ints, b, h, p))
  ]
  met_range (suc zero) lt m = let b = met_low m in let c = met_high m in elim (lying kind V) [
    | below e f h ↦ absurd (omega (arith, ints, b, h))
    | within e f h g ↦ e
    | above e f h ↦ absurd (omega (arith, ints, c, h))
  ]
  met_range (suc (suc zero)) lt m = let b = met_above m in let p = apart in elim (lying kind V) [
    | below e f h ↦ absurd (omega (arith, ints, b, h, p))
    | within e f h g ↦ absurd (omega (arith, ints, b, g))
    | above e f h ↦ e
  ]
  met_range (suc (suc (suc k))) lt m = absurd (omega (arith, lt))

  node_zero : a.node ≡ nodes.Zero → range_place kind a.plus ≡ range_place kind (sum_value table a)
  node_zero e =
      let z : node_value table a.node ≡ pos 0 = ap (node_value table) e in
      ap (range_place kind) (omega (arith, ints, z))

  range_by : (t : Bool) → is_zero_node a.node ≡ t
      → cond t (range_place kind a.plus == range_place kind V) (is_outcome 3 (Outcome (range_place kind V))) ≡ true
  range_by true e = eq-eqb (range_place kind a.plus) (range_place kind V) (node_zero (zero_node a.node e))
  range_by false e = let lt = place_few kind V in grind (arith, nat_tests)

  pub range_can : can_range kind a (Outcome (range_place kind (sum_value table a))) ≡ true
  range_can = range_by (is_zero_node a.node) refl

-- ---- what an operator gives

cond_some : (t : Bool) (r s : SumOf) → cond t (Some r) None ≡ Some s → s ≡ r
cond_some true r s e = cc
cond_some false r s e = absurd (cc)

small_sum_is : (r s : SumOf) → small_sum r ≡ Some s → s ≡ r
small_sum_is r s e = cond_some (is_between (negsuc (2 ^ 64 - 2)) (pos (2 ^ 64 - 1)) r.plus) r s e

module _ (table : Table) (a b s : SumOf) where
  abbrev Wa : ℤ
  Wa = sum_value table a

  abbrev Wb : ℤ
  Wb = sum_value table b

  value_by : (r : SumOf) → small_sum r ≡ Some s → sum_value table s ≡ sum_value table r
  value_by r e = ap (sum_value table) (small_sum_is r s e)

  add_right : b.node ≡ nodes.Zero → node_value table a.node +ℤ (a.plus +ℤ b.plus) ≡ Wa +ℤ Wb
  add_right e = let z : node_value table b.node ≡ pos 0 = ap (node_value table) e in omega (arith, ints, z)

  add_left : a.node ≡ nodes.Zero → node_value table b.node +ℤ (a.plus +ℤ b.plus) ≡ Wa +ℤ Wb
  add_left e = let z : node_value table a.node ≡ pos 0 = ap (node_value table) e in omega (arith, ints, z)

  sub_right : b.node ≡ nodes.Zero → node_value table a.node +ℤ (a.plus -ℤ b.plus) ≡ Wa -ℤ Wb
  sub_right e = let z : node_value table b.node ≡ pos 0 = ap (node_value table) e in omega (arith, ints, z)

  sub_same : a.node ≡ b.node → pos 0 +ℤ (a.plus -ℤ b.plus) ≡ Wa -ℤ Wb
  sub_same e =
      let z : node_value table a.node ≡ node_value table b.node = ap (node_value table) e in
      omega (arith, ints, z)

  add_by : (t u : Bool) → is_zero_node b.node ≡ t → is_zero_node a.node ≡ u
      → cond t (small_sum (record { node = a.node; plus = a.plus +ℤ b.plus }))
      (cond u (small_sum (record { node = b.node; plus = a.plus +ℤ b.plus })) None) ≡ Some s
      → sum_value table s ≡ Wa +ℤ Wb
  add_by true u et eu e =
      value_by (record { node = a.node; plus = a.plus +ℤ b.plus }) e
      ∙ add_right (zero_node b.node et)
  add_by false true et eu e =
      value_by (record { node = b.node; plus = a.plus +ℤ b.plus }) e
      ∙ add_left (zero_node a.node eu)
  add_by false false et eu e = absurd (cc)

  sub_by : (t u : Bool) → is_zero_node b.node ≡ t → is_same_node a.node b.node ≡ u
      → cond t (small_sum (record { node = a.node; plus = a.plus -ℤ b.plus }))
      (cond u (small_sum (record { node = nodes.Zero; plus = a.plus -ℤ b.plus })) None) ≡ Some s
      → sum_value table s ≡ Wa -ℤ Wb
  sub_by true u et eu e =
      value_by (record { node = a.node; plus = a.plus -ℤ b.plus }) e
      ∙ sub_right (zero_node b.node et)
  sub_by false true et eu e =
      value_by (record { node = nodes.Zero; plus = a.plus -ℤ b.plus }) e
      ∙ sub_same (same_node a.node b.node eu)
  sub_by false false et eu e = absurd (cc)

  sum_result : (o : Op) → sum_of o a b ≡ Some s
      → sum_value table s ≡ result_of o (sum_value table a) (sum_value table b)
  sum_result ops.Add e = add_by (is_zero_node b.node) (is_zero_node a.node) refl refl e
  sum_result ops.Sub e = sub_by (is_zero_node b.node) (is_same_node a.node b.node) refl refl e
  sum_result ops.Mul e = absurd (cc)
  sum_result ops.Div e = absurd (cc)
  sum_result ops.Rem e = absurd (cc)

  -- the operator is + or -
  sum_defined : (o : Op) → sum_of o a b ≡ Some s → (n : ℤ) → is_undefined o n ≡ false
  sum_defined ops.Add e n = refl
  sum_defined ops.Sub e n = refl
  sum_defined ops.Mul e n = absurd (cc)
  sum_defined ops.Div e n = absurd (cc)
  sum_defined ops.Rem e n = absurd (cc)

  -- a sum in range is the result of the operator; one that isn't leaves it without a result
  pub sum_arithmetic : (o : Op) (kind : ValueKind) → sum_of o a b ≡ Some s
      → arithmetic o kind (sum_value table a) (sum_value table b) ≡ in_range kind (sum_value table s)
  sum_arithmetic o kind e =
      ap (λ t. cond t None (in_range kind (result_of o Wa Wb))) (sum_defined o e Wb)
      ∙ ap (in_range kind) (sym (sum_result o e))

-- ---- comparisons by the order of two numbers

lt_yes : (m n : ℤ) → m <ℤ n → int_lt m n ≡ true
lt_yes m n h = grind (arith, ints)

lt_no : (m n : ℤ) → n ≤ℤ m → int_lt m n ≡ false
lt_no m n h = grind (arith, ints)

le_yes : (m n : ℤ) → m ≤ℤ n → int_le m n ≡ true
le_yes m n h = grind (arith, ints)

le_no : (m n : ℤ) → n <ℤ m → int_le m n ≡ false
le_no m n h = grind (arith, ints)

eq_yes : (m n : ℤ) → m ≡ n → int_eq m n ≡ true
eq_yes m n h = grind (arith, ints)

eq_no : (m n : ℤ) → (m ≡ n → ⊥) → int_eq m n ≡ false
eq_no m n h = grind (arith, ints)

compares_as : (c : Cmp) (m n : ℤ) (o : Ordering) → Ranks m n o
    → holds c (value.Int m) (value.Int n) ≡ holds_order c o
compares_as cmps.Equal m n Less r = eq_no m n (λ e. omega (arith, ints, r, e))
compares_as cmps.Equal m n Equal r = eq_yes m n r
compares_as cmps.Equal m n Greater r = eq_no m n (λ e. omega (arith, ints, r, e))
compares_as cmps.NotEqual m n Less r = ap not (eq_no m n (λ e. omega (arith, ints, r, e)))
compares_as cmps.NotEqual m n Equal r = ap not (eq_yes m n r)
compares_as cmps.NotEqual m n Greater r = ap not (eq_no m n (λ e. omega (arith, ints, r, e)))
compares_as cmps.Less m n Less r = lt_yes m n r
compares_as cmps.Less m n Equal r = lt_no m n (omega (arith, ints, r))
compares_as cmps.Less m n Greater r = lt_no m n (omega (arith, ints, r))
compares_as cmps.LessEqual m n Less r = le_yes m n (omega (arith, ints, r))
compares_as cmps.LessEqual m n Equal r = le_yes m n (omega (arith, ints, r))
compares_as cmps.LessEqual m n Greater r = le_no m n r
compares_as cmps.Greater m n Less r = lt_no n m (omega (arith, ints, r))
compares_as cmps.Greater m n Equal r = lt_no n m (omega (arith, ints, r))
compares_as cmps.Greater m n Greater r = lt_yes n m r
compares_as cmps.GreaterEqual m n Less r = le_no n m r
compares_as cmps.GreaterEqual m n Equal r = le_yes n m (omega (arith, ints, r))
compares_as cmps.GreaterEqual m n Greater r = le_yes n m (omega (arith, ints, r))

pub holds_by_order : (c : Cmp) (m n : ℤ) → holds c (value.Int m) (value.Int n) ≡ holds_order c (int_cmp m n)
holds_by_order c m n = compares_as c m n (int_cmp m n) (int_ranks m n)

-- a number that isn't 0 is below it or above it
pub true_by_order : (n : ℤ) → is_true (value.Int n) ≡ is_true (value.Int (order_number (int_cmp n (pos 0))))
true_by_order n = by (int_cmp n (pos 0)) (int_ranks n (pos 0))
  where
    by : (o : Ordering) → Ranks n (pos 0) o → is_true (value.Int n) ≡ is_true (value.Int (order_number o))
    by Less r = ap not (eq_no n (pos 0) (λ e. omega (arith, ints, r, e)))
    by Equal r = ap not (eq_yes n (pos 0) r)
    by Greater r = ap not (eq_no n (pos 0) (λ e. omega (arith, ints, r, e)))
