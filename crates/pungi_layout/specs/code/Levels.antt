-- How many levels of temporaries there are: an expression takes as many as the values that wait in it at once, and a
-- statement as many as the expression in it that takes the most.
--   place_levels place n           a place, where n levels are taken from the one that its stored value waits at
--   expr_levels v, values_levels vs    an expression, arguments one after another
--   option_levels o                an expression that may be missing
--   declare_levels rs              declared locals
--   stmt_levels a, stmts_levels ss a statement, statements
use Rattle.std.specs.Prelude.{ℕ, ◌+◌, max, List, [], ◌∷◌, Option, Some, None}
use Rattle.pungi_resolved.specs.Values as expr
use Rattle.pungi_resolved.specs.Actions as stmt
use Rattle.pungi_layout.specs.code.Sizes.{keep_size}

abbrev mutual
  pub expr_levels : expr.Value → ℕ
  expr_levels (expr.read p kind place) = place_levels place 1
  expr_levels (expr.inner p v) = expr_levels v
  expr_levels (expr.signed p m kind v) = expr_levels v
  expr_levels (expr.negated p v) = expr_levels v + 1
  expr_levels (expr.stepped p is_postfix m kind place) = place_levels place 1 + keep_size is_postfix
  expr_levels (expr.emptied p kind place) = place_levels place 1 + 1
  expr_levels (expr.computed p m kind a b) = max (expr_levels a) (expr_levels b + 1)
  expr_levels (expr.compared p m a b) = max (expr_levels a) (expr_levels b + 1)
  expr_levels (expr.joined_by p m a b) = max (expr_levels a) (expr_levels b) + 1
  expr_levels (expr.stored p kind place v) = place_levels place (expr_levels v)
  expr_levels (expr.updated p m counted kind place v) = place_levels place (expr_levels v + 1)
  expr_levels (expr.chosen p c a b) = max (expr_levels c) (max (expr_levels a) (expr_levels b))
  expr_levels (expr.converted p kind v) = expr_levels v
  expr_levels (expr.cast_of p v) = expr_levels v
  expr_levels (expr.dropped p v) = expr_levels v
  expr_levels (expr.called p f vs) = max (values_levels vs) 1
  expr_levels (expr.called_row p n g vs) = max (values_levels vs) 1
  expr_levels (expr.called_unless_null p n g vs) = max (values_levels vs) 1
  expr_levels (expr.called_with_outputs p n g vs steps) = max (values_levels vs) 2
  expr_levels v = 1

  -- the base of a field waits below what is stored there
  pub place_levels : expr.Place → ℕ → ℕ
  place_levels (expr.field_place p base tag field) n = max (expr_levels base) (n + 1)
  place_levels place n = n

  pub values_levels : expr.Values → ℕ
  values_levels expr.no_values = 0
  values_levels (expr.value_and v vs) = max (expr_levels v) (values_levels vs + 1)

abbrev pub option_levels : Option expr.Value → ℕ
option_levels None = 0
option_levels (Some v) = expr_levels v

abbrev pub declare_levels : List stmt.DeclaredLocal → ℕ
declare_levels [] = 0
declare_levels (r ∷ rs) = max (option_levels r.value) (declare_levels rs)

-- the value of a `switch` waits while it is compared
abbrev mutual
  pub stmt_levels : stmt.Action → ℕ
  stmt_levels (stmt.block p ss q) = stmts_levels ss
  stmt_levels (stmt.declare p rs) = declare_levels rs
  stmt_levels (stmt.do_expr p v) = option_levels v
  stmt_levels (stmt.if_only p c a) = max (expr_levels c) (stmt_levels a)
  stmt_levels (stmt.if_else p c a b) = max (expr_levels c) (max (stmt_levels a) (stmt_levels b))
  stmt_levels (stmt.while p c a) = max (expr_levels c) (stmt_levels a)
  stmt_levels (stmt.do_while p a c) = max (expr_levels c) (stmt_levels a)
  stmt_levels (stmt.for p rs u c w a) = max (declare_levels rs) (max (option_levels u) (max (option_levels c)
      (max (option_levels w) (stmt_levels a))))
  stmt_levels (stmt.switch p v a) = max (max (expr_levels v) 2) (stmt_levels a)
  stmt_levels (stmt.case p n a) = stmt_levels a
  stmt_levels (stmt.default p a) = stmt_levels a
  stmt_levels (stmt.label p l a) = stmt_levels a
  stmt_levels (stmt.return p k v) = option_levels v
  stmt_levels a = 0

  pub stmts_levels : stmt.Actions → ℕ
  stmts_levels stmt.no_actions = 0
  stmts_levels (stmt.action_and a ss) = max (stmt_levels a) (stmts_levels ss)
