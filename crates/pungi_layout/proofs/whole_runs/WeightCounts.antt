-- At most five steps for a node, each loop taken once.
use Rattle.std.proofs.Common.{◌+◌, ◌*◌, ◌≤◌, arith, ℕ, List, [], ◌∷◌, Option, Some, None}
use Rattle.pungi_resolved.specs.Values as expr
use Rattle.pungi_resolved.specs.Actions as stmt
use Rattle.pungi_layout.specs.code.Sound.{expr_nodes, place_nodes, values_nodes, option_nodes, declare_nodes}
use Rattle.pungi_layout.specs.code.Sound.{stmt_nodes, stmts_nodes}
use Rattle.pungi_layout.specs.alike.Weights.{expr_weight, place_weight, values_weight, option_weight, bind_weight}
use Rattle.pungi_layout.specs.alike.Weights.{declare_weight, tested_weight, stmt_weight, stmts_weight}

mutual
  expr_light : (v : expr.Value) → expr_weight v + 1 ≤ 5 * expr_nodes v
  expr_light (expr.read p kind place) = let a = place_light place in omega (arith, a)
  expr_light (expr.inner p v) = let a = expr_light v in omega (arith, a)
  expr_light (expr.signed p m kind v) = let a = expr_light v in omega (arith, a)
  expr_light (expr.negated p v) = let a = expr_light v in omega (arith, a)
  expr_light (expr.stepped p is_postfix m kind place) = let a = place_light place in omega (arith, a)
  expr_light (expr.emptied p kind place) = let a = place_light place in omega (arith, a)
  expr_light (expr.computed p m kind a b) = let x = expr_light a in let y = expr_light b in omega (arith, x, y)
  expr_light (expr.compared p m a b) = let x = expr_light a in let y = expr_light b in omega (arith, x, y)
  expr_light (expr.joined_by p m a b) = let x = expr_light a in let y = expr_light b in omega (arith, x, y)
  expr_light (expr.stored p kind place v) = let x = place_light place in let y = expr_light v in omega (arith, x, y)
  expr_light (expr.updated p m counted kind place v) = let x = place_light place in let y = expr_light v in omega
      (arith, x, y)
  expr_light (expr.chosen p c a b) = let x = expr_light a in let y = expr_light b in let z = expr_light c in omega
      (arith, x, y, z)
  expr_light (expr.converted p kind v) = let a = expr_light v in omega (arith, a)
  expr_light (expr.cast_of p v) = let a = expr_light v in omega (arith, a)
  expr_light (expr.dropped p v) = let a = expr_light v in omega (arith, a)
  expr_light (expr.called p f vs) = let a = values_light vs in omega (arith, a)
  expr_light (expr.called_row p n sig vs) = let a = values_light vs in omega (arith, a)
  expr_light (expr.called_unless_null p n sig vs) = let a = values_light vs in omega (arith, a)
  expr_light (expr.called_with_outputs p n sig vs steps) = let a = values_light vs in omega (arith, a)
  expr_light v = omega arith

  place_light : (place : expr.Place) → place_weight place + 5 ≤ 5 * place_nodes place
  place_light (expr.field_place p base tag field) = let a = expr_light base in omega (arith, a)
  place_light place = omega arith

  values_light : (vs : expr.Values) → values_weight vs ≤ 5 * values_nodes vs
  values_light expr.no_values = omega arith
  values_light (expr.value_and v vs) = let a = expr_light v in let b = values_light vs in omega (arith, a, b)

option_light : (o : Option expr.Value) → option_weight o ≤ 5 * option_nodes o
option_light None = omega arith
option_light (Some v) = let a = expr_light v in omega (arith, a)

bind_light : (o : Option expr.Value) → bind_weight o ≤ 5 * (option_nodes o + 1)
bind_light None = omega arith
bind_light (Some v) = let a = expr_light v in omega (arith, a)

declare_light : (rs : List stmt.DeclaredLocal) → declare_weight rs ≤ 5 * declare_nodes rs + 1
declare_light [] = omega arith
declare_light (r ∷ rs) = let a = bind_light r.value in let b = declare_light rs in omega (arith, a, b)

tested_light : (test behind : Option expr.Value) (body n : ℕ) → body + 1 ≤ 5 * n
    → tested_weight test behind body ≤ 5 * (option_nodes test + option_nodes behind + n) + 1
tested_light None behind body n h = let a = option_light behind in omega (arith, a, h)
tested_light (Some c) behind body n h = let a = option_light behind in let b = expr_light c in omega (arith, a, b, h)

mutual
  -- five steps a node are enough
  pub stmt_light : (a : stmt.Action) → stmt_weight a + 1 ≤ 5 * stmt_nodes a
  stmt_light (stmt.block p ss q) = let a = stmts_light ss in omega (arith, a)
  stmt_light (stmt.declare p rs) = let a = declare_light rs in omega (arith, a)
  stmt_light (stmt.do_expr p v) = let a = option_light v in omega (arith, a)
  stmt_light (stmt.if_only p c a) = let x = expr_light c in let y = stmt_light a in omega (arith, x, y)
  stmt_light (stmt.if_else p c a b) = let x = expr_light c in let y = stmt_light a in let z = stmt_light b in omega
      (arith, x, y, z)
  stmt_light (stmt.while p c a) = let y = stmt_light a in let x = tested_light (Some c) None (stmt_weight a)
      (stmt_nodes a) y in omega (arith, x)
  stmt_light (stmt.do_while p a c) = let y = stmt_light a in let x = tested_light (Some c) None (stmt_weight a)
      (stmt_nodes a) y in omega (arith, x)
  stmt_light (stmt.for p rs u c w a) =
      let y = stmt_light a in let x = tested_light c w (stmt_weight a) (stmt_nodes a) y in let z = declare_light rs
      in let v = option_light u in omega (arith, x, z, v)
  stmt_light (stmt.switch p v (stmt.block q ss r)) = let x = expr_light v in let a = stmts_light ss in omega
      (arith, x, a)
  stmt_light (stmt.switch p v a) = let x = expr_light v in let y = stmt_light a in omega (arith, x, y)
  stmt_light (stmt.case p n a) = let x = stmt_light a in omega (arith, x)
  stmt_light (stmt.default p a) = let x = stmt_light a in omega (arith, x)
  stmt_light (stmt.label p l a) = let x = stmt_light a in omega (arith, x)
  stmt_light (stmt.return p k v) = let a = option_light v in omega (arith, a)
  stmt_light a = omega arith

  stmts_light : (ss : stmt.Actions) → stmts_weight ss ≤ 5 * stmts_nodes ss + 1
  stmts_light stmt.no_actions = omega arith
  stmts_light (stmt.action_and a ss) = let x = stmt_light a in let y = stmts_light ss in omega (arith, x, y)
