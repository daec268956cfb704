-- Levels: each expression takes one, and none takes more than it has nodes.
use Rattle.std.proofs.Common.{ℕ, ◌+◌, ◌≤◌, List, [], ◌∷◌, Option, Some, None, Bool, true, false, arith}
use Rattle.pungi_resolved.specs.Values as expr
use Rattle.pungi_resolved.specs.Actions as stmt
use Rattle.pungi_layout.specs.code.ExprCode.{above}
use Rattle.pungi_layout.specs.code.Sizes.{keep_size}
use Rattle.pungi_layout.specs.code.Sound.{expr_nodes, place_nodes, values_nodes, option_nodes, declare_nodes}
use Rattle.pungi_layout.specs.code.Sound.{stmt_nodes, stmts_nodes}
use Rattle.pungi_layout.specs.code.Levels.{expr_levels, place_levels, values_levels, option_levels, declare_levels}
use Rattle.pungi_layout.specs.code.Levels.{stmt_levels, stmts_levels}

-- what is taken from a stored value on is within the levels of its place
pub above_low : (place : expr.Place) (d n : ℕ) → above place d + n ≤ d + place_levels place n
above_low (expr.local_place p x) d n = omega arith
above_low (expr.global_place p w) d n = omega arith
above_low (expr.field_place p base tag field) d n = omega arith
above_low expr.no_place d n = omega arith

pub above_less : (place : expr.Place) (d : ℕ) → d ≤ above place d
above_less (expr.local_place p x) d = omega arith
above_less (expr.global_place p n) d = omega arith
above_less (expr.field_place p base tag field) d = omega arith
above_less expr.no_place d = omega arith

pub some_levels : (v : expr.Value) → 1 ≤ expr_levels v
some_levels (expr.read p kind place) = omega (arith, above_low place 0 1)
some_levels (expr.inner p v) = some_levels v
some_levels (expr.signed p m kind v) = some_levels v
some_levels (expr.negated p v) = omega arith
some_levels (expr.stepped p is_postfix m kind place) = omega (arith, above_low place 0 1)
some_levels (expr.computed p m kind a b) = omega arith
some_levels (expr.compared p m a b) = omega arith
some_levels (expr.joined_by p m a b) = omega arith
some_levels (expr.stored p kind place v) = omega (arith, above_low place 0 (expr_levels v), some_levels v)
some_levels (expr.updated p m counted kind place v) = omega (arith, above_low place 0 (expr_levels v + 1))
some_levels (expr.chosen p c a b) = omega (arith, some_levels c)
some_levels (expr.converted p kind v) = some_levels v
some_levels (expr.cast_of p v) = some_levels v
some_levels (expr.dropped p v) = some_levels v
some_levels (expr.called p f vs) = omega arith
some_levels (expr.called_row p n g vs) = omega arith
some_levels (expr.called_unless_null p n g vs) = omega arith
some_levels (expr.called_with_outputs p n g vs steps) = omega arith
some_levels _ = omega arith

pub some_nodes : (v : expr.Value) → 1 ≤ expr_nodes v
some_nodes (expr.constant p n) = omega arith
some_nodes _ = omega arith

keep_low : (is_postfix : Bool) → keep_size is_postfix ≤ 1
keep_low true = omega arith
keep_low false = omega arith

mutual
  pub expr_few : (v : expr.Value) → expr_levels v ≤ expr_nodes v
  expr_few (expr.read p kind place) = omega (arith, place_few place 1)
  expr_few (expr.inner p v) = omega (arith, expr_few v)
  expr_few (expr.signed p m kind v) = omega (arith, expr_few v)
  expr_few (expr.negated p v) = omega (arith, expr_few v)
  expr_few (expr.stepped p is_postfix m kind place) = omega (arith, place_few place 1, keep_low is_postfix)
  expr_few (expr.emptied p kind place) = omega (arith, place_few place 1)
  expr_few (expr.computed p m kind a b) = omega (arith, expr_few a, expr_few b)
  expr_few (expr.compared p m a b) = omega (arith, expr_few a, expr_few b)
  expr_few (expr.joined_by p m a b) = omega (arith, expr_few a, expr_few b)
  expr_few (expr.stored p kind place v) = omega (arith, place_few place (expr_levels v), expr_few v)
  expr_few (expr.updated p m counted kind place v) = omega (arith, place_few place (expr_levels v + 1), expr_few v)
  expr_few (expr.chosen p c a b) = omega (arith, expr_few c, expr_few a, expr_few b)
  expr_few (expr.converted p kind v) = omega (arith, expr_few v)
  expr_few (expr.cast_of p v) = omega (arith, expr_few v)
  expr_few (expr.dropped p v) = omega (arith, expr_few v)
  expr_few (expr.called p f vs) = omega (arith, values_few vs)
  expr_few (expr.called_row p n g vs) = omega (arith, values_few vs)
  expr_few (expr.called_unless_null p n g vs) = omega (arith, values_few vs)
  expr_few (expr.called_with_outputs p n g vs steps) = omega (arith, values_few vs)
  expr_few _ = omega arith

  place_few : (place : expr.Place) (n : ℕ) → place_levels place n + 1 ≤ place_nodes place + n
  place_few (expr.field_place p base tag field) n = omega (arith, expr_few base, some_nodes base)
  place_few _ n = omega arith

  values_few : (vs : expr.Values) → values_levels vs ≤ values_nodes vs
  values_few expr.no_values = omega arith
  values_few (expr.value_and v vs) = omega (arith, expr_few v, some_nodes v, values_few vs)

option_few : (o : Option expr.Value) → option_levels o ≤ option_nodes o
option_few None = omega arith
option_few (Some v) = expr_few v

declare_few : (rs : List stmt.DeclaredLocal) → declare_levels rs ≤ declare_nodes rs
declare_few [] = omega arith
declare_few (r ∷ rs) = omega (arith, option_few r.value, declare_few rs)

mutual
  pub stmt_few : (a : stmt.Action) → stmt_levels a ≤ stmt_nodes a
  stmt_few (stmt.block p ss q) = omega (arith, stmts_few ss)
  stmt_few (stmt.declare p rs) = omega (arith, declare_few rs)
  stmt_few (stmt.do_expr p v) = omega (arith, option_few v)
  stmt_few (stmt.if_only p c a) = omega (arith, expr_few c, stmt_few a)
  stmt_few (stmt.if_else p c a b) = omega (arith, expr_few c, stmt_few a, stmt_few b)
  stmt_few (stmt.while p c a) = omega (arith, expr_few c, stmt_few a)
  stmt_few (stmt.do_while p a c) = omega (arith, expr_few c, stmt_few a)
  stmt_few (stmt.for p rs u c w a) =
      omega (arith, declare_few rs, option_few u, option_few c, option_few w, stmt_few a)
  stmt_few (stmt.switch p v a) = omega (arith, expr_few v, some_nodes v, stmt_few a)
  stmt_few (stmt.case p n a) = omega (arith, stmt_few a)
  stmt_few (stmt.default p a) = omega (arith, stmt_few a)
  stmt_few (stmt.label p l a) = omega (arith, stmt_few a)
  stmt_few (stmt.return p kind v) = omega (arith, option_few v)
  stmt_few _ = omega arith

  stmts_few : (ss : stmt.Actions) → stmts_levels ss ≤ stmts_nodes ss
  stmts_few stmt.no_actions = omega arith
  stmts_few (stmt.action_and a ss) = omega (arith, stmt_few a, stmts_few ss)
