-- How many steps of the meaning may pass without an instruction: a bound, each loop taken once.
--   expr_weight v, place_weight place, values_weight vs, args_weight vs    an expression, a base, arguments
--   option_weight o           what is done and forgotten, where it is there
--   bind_weight o, declare_weight rs  declared locals
--   again_weight w            a loop after its body
--   stmt_weight a, stmts_weight ss, list_weight list, other_weight o    statements, and one that may be missing
--   turn_weight, tested_weight, loop_weight    a loop after its test, and at its head
--   switch_weight a           a `switch` after its value
--   item_weight t, weight k   what remains; each step after a call that writes variables has instructions of its own
use Rattle.std.specs.Prelude.{ℕ, ◌+◌, List, [], ◌∷◌, drop, Option, Some, None}
use Rattle.pungi_resolved.specs.Values as expr
use Rattle.pungi_resolved.specs.Actions as stmt
use Rattle.pungi_meaning.specs.Todo.{Loop, Todo, ToEval, ToRight, ToPick, ToArgs, ToExec, ToDeclare, ToChoose, ToRest}
use Rattle.pungi_meaning.specs.Todo.{ToTurn, ToAgain, ToSwitch, ToOutputs, ToPostfix, ToEmpty}

abbrev mutual
  pub expr_weight : expr.Value → ℕ
  expr_weight (expr.read p kind place) = place_weight place + 2
  expr_weight (expr.inner p v) = expr_weight v + 1
  expr_weight (expr.signed p m kind v) = expr_weight v + 2
  expr_weight (expr.negated p v) = expr_weight v + 2
  expr_weight (expr.stepped p is_postfix m kind place) = place_weight place + 7
  expr_weight (expr.emptied p kind place) = place_weight place + 5
  expr_weight (expr.computed p m kind a b) = expr_weight a + expr_weight b + 2
  expr_weight (expr.compared p m a b) = expr_weight a + expr_weight b + 2
  expr_weight (expr.joined_by p m a b) = expr_weight a + expr_weight b + 3
  expr_weight (expr.stored p kind place v) = place_weight place + expr_weight v + 2
  expr_weight (expr.updated p m counted kind place v) = place_weight place + expr_weight v + 5
  expr_weight (expr.chosen p c a b) = expr_weight c + expr_weight a + expr_weight b + 2
  expr_weight (expr.converted p kind v) = expr_weight v + 2
  expr_weight (expr.cast_of p v) = expr_weight v + 1
  expr_weight (expr.dropped p v) = expr_weight v + 1
  expr_weight (expr.called p f vs) = values_weight vs + 2
  expr_weight (expr.called_row p n g vs) = values_weight vs + 2
  expr_weight (expr.called_unless_null p n g vs) = values_weight vs + 2
  expr_weight (expr.called_with_outputs p n g vs steps) = values_weight vs + 2
  expr_weight v = 1

  pub place_weight : expr.Place → ℕ
  place_weight (expr.field_place p base tag field) = expr_weight base
  place_weight place = 0

  pub values_weight : expr.Values → ℕ
  values_weight expr.no_values = 0
  values_weight (expr.value_and v vs) = expr_weight v + 1 + values_weight vs

abbrev pub args_weight : List expr.Value → ℕ
args_weight [] = 1
args_weight (v ∷ vs) = expr_weight v + 1 + args_weight vs

abbrev pub option_weight : Option expr.Value → ℕ
option_weight None = 0
option_weight (Some v) = expr_weight v + 1

abbrev pub bind_weight : Option expr.Value → ℕ
bind_weight None = 1
bind_weight (Some v) = expr_weight v + 2

abbrev pub declare_weight : List stmt.DeclaredLocal → ℕ
declare_weight [] = 1
declare_weight (r ∷ rs) = bind_weight r.value + declare_weight rs

-- with a body of this weight: after the body, after the test, and at the test
abbrev pub again_weight : Option expr.Value → ℕ
again_weight behind = option_weight behind + 2

abbrev pub turn_weight : Option expr.Value → ℕ → ℕ
turn_weight behind body = body + again_weight behind + 1

abbrev pub tested_weight : Option expr.Value → Option expr.Value → ℕ → ℕ
tested_weight None behind body = body + again_weight behind
tested_weight (Some c) behind body = expr_weight c + turn_weight behind body

abbrev mutual
  pub stmt_weight : stmt.Action → ℕ
  stmt_weight (stmt.block p ss q) = stmts_weight ss + 1
  stmt_weight (stmt.declare p rs) = declare_weight rs + 1
  stmt_weight (stmt.do_expr p v) = option_weight v + 1
  stmt_weight (stmt.if_only p c a) = expr_weight c + stmt_weight a + 2
  stmt_weight (stmt.if_else p c a b) = expr_weight c + stmt_weight a + stmt_weight b + 2
  stmt_weight (stmt.while p c a) = tested_weight (Some c) None (stmt_weight a) + 1
  stmt_weight (stmt.do_while p a c) = tested_weight (Some c) None (stmt_weight a) + 1
  stmt_weight (stmt.for p rs u c w a) = declare_weight rs + option_weight u + tested_weight c w (stmt_weight a) + 1
  stmt_weight (stmt.switch p v (stmt.block q ss r)) = expr_weight v + (stmts_weight ss + 2) + 1
  stmt_weight (stmt.switch p v a) = expr_weight v + (stmt_weight a + 2) + 1
  stmt_weight (stmt.case p n a) = stmt_weight a + 1
  stmt_weight (stmt.default p a) = stmt_weight a + 1
  stmt_weight (stmt.label p l a) = stmt_weight a + 1
  stmt_weight (stmt.return p k v) = option_weight v + 1
  stmt_weight a = 1

  pub stmts_weight : stmt.Actions → ℕ
  stmts_weight stmt.no_actions = 1
  stmts_weight (stmt.action_and a ss) = stmt_weight a + 1 + stmts_weight ss

abbrev pub list_weight : List stmt.Action → ℕ
list_weight [] = 1
list_weight (a ∷ rest) = stmt_weight a + 1 + list_weight rest

abbrev pub loop_weight : Loop → ℕ
loop_weight loop = tested_weight loop.test loop.increment (stmt_weight loop.body)

abbrev pub switch_weight : stmt.Action → ℕ
switch_weight (stmt.block q ss r) = stmts_weight ss + 2
switch_weight a = stmt_weight a + 2

abbrev pub other_weight : Option stmt.Action → ℕ
other_weight None = 0
other_weight (Some b) = stmt_weight b

-- ---- what remains

abbrev pub item_weight : Todo → ℕ
item_weight (ToEval v) = expr_weight v
item_weight (ToRight on b) = expr_weight b + 2
item_weight (ToPostfix p m kind place) = 5
item_weight (ToEmpty kind place) = 3
item_weight (ToPick a b) = expr_weight a + expr_weight b + 1
item_weight (ToArgs p t args i) = args_weight (drop i args)
item_weight (ToOutputs p steps) = 0
item_weight (ToExec a) = stmt_weight a
item_weight (ToDeclare rs) = declare_weight rs
item_weight (ToChoose a b) = stmt_weight a + other_weight b + 1
item_weight (ToRest block i) = list_weight (drop i block)
item_weight (ToTurn loop) = turn_weight loop.increment (stmt_weight loop.body)
item_weight (ToAgain loop) = again_weight loop.increment
item_weight (ToSwitch p a) = switch_weight a
item_weight t = 1

abbrev pub weight : List Todo → ℕ
weight [] = 0
weight (t ∷ k) = item_weight t + weight k
