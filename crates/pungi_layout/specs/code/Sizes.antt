-- How many instructions an expression and a statement take.
--   place_size place               the base of a place
--   fit_size to from               a conversion, where the kinds differ
--   store_size               a store, which leaves the stored value
--   sign_size, keep_size           what a minus, and `++` after its operand, take more
--   missing_one q, missing_size ps vs    the branches on arguments that may be NULL
--   outputs_size steps             what comes after a call that writes variables
--   expr_size v, values_size vs    an expression, arguments one after another
--   option_size o                  an expression that may be missing
--   args_size vs                   arguments in a list
--   declare_size rs                declared locals
--   test_size o                    a test and the branch after it, where there is one
--   stmt_size a, stmts_size as, list_size list    a statement, statements
--   switch_size a                  a `switch`, after its value
use Rattle.std.specs.Prelude.{ℕ, ◌+◌, ◌*◌, Bool, List, [], ◌∷◌, length, Option, Some, None, if◌then◌else◌}
use Rattle.pungi_api.specs.declared.param.Param.{Param}
use Rattle.pungi_api.specs.declared.param.Param.TheVariants as param
use Rattle.pungi_types.specs.declared.kind.ValueKind.{ValueKind}
use Rattle.pungi_resolved.specs.declared.output_step.OutputStep.{OutputStep}
use Rattle.pungi_resolved.specs.declared.output_step.OutputStep.TheVariants.{Ends, Writes}
use Rattle.pungi_resolved.specs.Values as expr
use Rattle.pungi_types.specs.Operators.{is_same_kind}
use Rattle.pungi_resolved.specs.Actions as stmt
use Rattle.pungi_meaning.specs.Values.{wide}
use Rattle.pungi_meaning.specs.Todo.{listed, listed_values}
use Rattle.pungi_meaning.specs.Stmts.{block_cases}
use Rattle.pungi_meaning.specs.Work.{block_locals}
use Rattle.pungi_layout.specs.code.Parts.{is_minus}

abbrev pub fit_size : ValueKind → ValueKind → ℕ
fit_size to from = if is_same_kind (Some to) (Some from) then 0 else 1

abbrev pub store_size : ℕ
store_size = 2

abbrev pub sign_size : Bool → ℕ
sign_size minus = if minus then 1 else 0

-- after its operand `++` first makes the place of its value, and then keeps the old content there
abbrev pub keep_size : Bool → ℕ
keep_size behind = if behind then 1 else 0

-- a branch on each argument that may be NULL
abbrev pub missing_one : Param → ℕ
missing_one param.ObjectOrNull = 1
missing_one q = 0

abbrev pub missing_size : List Param → List expr.Value → ℕ
missing_size [] vs = 0
missing_size (q ∷ ps) [] = 0
missing_size (q ∷ ps) (v ∷ vs) = missing_one q + missing_size ps vs

abbrev pub outputs_size : List OutputStep → ℕ
outputs_size [] = 0
outputs_size (Ends n gives ∷ steps) = 2 + outputs_size steps
outputs_size (Writes x a ∷ steps) = 1 + outputs_size steps

abbrev mutual
  pub expr_size : expr.Value → ℕ
  expr_size (expr.constant p n) = 1
  expr_size (expr.text_of p ns) = 1
  expr_size (expr.null_of p) = 1
  expr_size (expr.static_of p n) = 1
  expr_size (expr.module_of p n) = 1
  expr_size (expr.read p kind place) = place_size place + 1
  expr_size (expr.inner p v) = expr_size v
  expr_size (expr.signed p m kind v) = expr_size v + sign_size (is_minus m)
  expr_size (expr.negated p v) = 1 + expr_size v + 2
  expr_size (expr.stepped p is_postfix m kind place) = keep_size is_postfix + place_size place + 1
      + keep_size is_postfix + 1 + fit_size kind (wide kind) + store_size
  expr_size (expr.emptied p kind place) = 1 + place_size place + 1 + 1 + 1 + store_size
  expr_size (expr.computed p m kind a b) = expr_size a + expr_size b + 1
  expr_size (expr.compared p m a b) = expr_size a + expr_size b + 1
  expr_size (expr.joined_by p m a b) = 1 + expr_size a + 1 + expr_size b + 2
  expr_size (expr.stored p kind place v) = place_size place + expr_size v + store_size
  expr_size (expr.updated p m counted kind place v) = place_size place + 1 + expr_size v + 1 + fit_size kind counted
      + store_size
  expr_size (expr.chosen p c a b) = expr_size c + 1 + expr_size a + 1 + expr_size b
  expr_size (expr.converted p kind v) = expr_size v + 1
  expr_size (expr.cast_of p v) = expr_size v
  expr_size (expr.dropped p v) = expr_size v
  expr_size (expr.called p f vs) = values_size vs + 1
  expr_size (expr.called_row p n g vs) = values_size vs + 1
  expr_size (expr.called_unless_null p n g vs) =
      values_size vs + (missing_size g.params (listed_values vs) + (1 + (1 + 1)))
  expr_size (expr.called_with_outputs p n g vs steps) = values_size vs + (1 + (outputs_size steps + 3))
  expr_size (expr.nonsense p) = 1

  pub place_size : expr.Place → ℕ
  place_size (expr.local_place p x) = 0
  place_size (expr.global_place p n) = 0
  place_size (expr.field_place p base tag field) = expr_size base
  place_size expr.no_place = 0

  pub values_size : expr.Values → ℕ
  values_size expr.no_values = 0
  values_size (expr.value_and v vs) = expr_size v + values_size vs

abbrev pub args_size : List expr.Value → ℕ
args_size [] = 0
args_size (v ∷ vs) = expr_size v + args_size vs

-- ---- statements

abbrev pub option_size : Option expr.Value → ℕ
option_size None = 0
option_size (Some v) = expr_size v

abbrev pub declare_size : List stmt.DeclaredLocal → ℕ
declare_size [] = 0
declare_size (r ∷ rs) = option_size r.value + 1 + declare_size rs

-- a loop's test and the branch after it; a loop without one has neither
abbrev pub test_size : Option expr.Value → ℕ
test_size None = 0
test_size (Some c) = expr_size c + 1

abbrev mutual
  pub stmt_size : stmt.Action → ℕ
  stmt_size (stmt.block p ss q) = length (block_locals (listed ss)) + stmts_size ss
  stmt_size (stmt.declare p rs) = declare_size rs
  stmt_size (stmt.do_expr p v) = option_size v
  stmt_size (stmt.if_only p c a) = expr_size c + 1 + stmt_size a
  stmt_size (stmt.if_else p c a b) = expr_size c + 1 + stmt_size a + 1 + stmt_size b
  stmt_size (stmt.while p c a) = expr_size c + 1 + stmt_size a + 1
  stmt_size (stmt.do_while p a c) = 1 + expr_size c + 1 + stmt_size a + 1
  stmt_size (stmt.for p rs u c w a) = length rs + declare_size rs + option_size u + test_size c + stmt_size a
      + option_size w + 1
  stmt_size (stmt.switch p v (stmt.block q ss r)) = expr_size v
      + (length (block_locals (listed ss)) + 2 * length (block_cases (listed ss)) + 1 + stmts_size ss)
  stmt_size (stmt.switch p v a) = expr_size v + (1 + stmt_size a)
  stmt_size (stmt.case p n a) = stmt_size a
  stmt_size (stmt.default p a) = stmt_size a
  stmt_size (stmt.label p l a) = stmt_size a
  stmt_size (stmt.goto p l) = 1
  stmt_size (stmt.break p) = 1
  stmt_size (stmt.continue p) = 1
  stmt_size (stmt.return p k v) = option_size v + 1

  pub stmts_size : stmt.Actions → ℕ
  stmts_size stmt.no_actions = 0
  stmts_size (stmt.action_and a ss) = stmt_size a + stmts_size ss

-- of a `switch`, after its value: the locals of its block are unset, then come the comparisons, then the block
abbrev pub switch_size : stmt.Action → ℕ
switch_size (stmt.block q ss r) =
    length (block_locals (listed ss)) + 2 * length (block_cases (listed ss)) + 1 + stmts_size ss
switch_size a = 1 + stmt_size a

abbrev pub list_size : List stmt.Action → ℕ
list_size [] = 0
list_size (a ∷ rest) = stmt_size a + list_size rest
