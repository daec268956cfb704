-- What the lowering requires of a checked function: its locals are there, each operand has a value, each place is one,
-- and a call has a value that may return NULL instead of it or is compared. Of how many values an expression is made.
--   AreWritten nl steps                     the locals that a call writes
--   IsSound nl v, IsPlaceSound, AreSound    an expression, a place, arguments
--   IsWanted nl v                           an operand: it leaves a value
--   IsOptionSound, IsOptionWanted           one that may be missing
--   AreDeclared nl rs                       declared locals
--   IsStmtSound nl a, AreStmtsSound         a statement, statements
--   expr_nodes v, place_nodes, values_nodes, option_nodes, declare_nodes, stmt_nodes a, stmts_nodes  how many nodes
use Rattle.std.specs.Prelude.{◌≡◌, ℕ, ◌+◌, ◌<◌, true, List, [], ◌∷◌, Option, Some, None}
use Rattle.pungi_resolved.specs.declared.output_step.OutputStep.{OutputStep}
use Rattle.pungi_resolved.specs.declared.output_step.OutputStep.TheVariants.{Ends, Writes}
use Rattle.pungi_resolved.specs.Values as expr
use Rattle.pungi_resolved.specs.Actions as stmt
use Rattle.pungi_layout.specs.code.Parts.{gives, has_call_value}

abbrev pub AreWritten : ℕ → List OutputStep → Type 0
AreWritten nl [] = Unit {0}
AreWritten nl (Ends n gives ∷ steps) = AreWritten nl steps
AreWritten nl (Writes x a ∷ steps) = (x < nl) × AreWritten nl steps

abbrev mutual
  pub IsSound : ℕ → expr.Value → Type 0
  IsSound nl (expr.read p kind place) = IsPlaceSound nl place
  IsSound nl (expr.inner p v) = IsSound nl v
  IsSound nl (expr.signed p m kind v) = (gives v ≡ true) × IsSound nl v
  IsSound nl (expr.negated p v) = (gives v ≡ true) × IsSound nl v
  IsSound nl (expr.stepped p is_postfix m kind place) = IsPlaceSound nl place
  IsSound nl (expr.emptied p kind place) = IsPlaceSound nl place
  IsSound nl (expr.computed p m kind a b) = (gives a ≡ true) × IsSound nl a × (gives b ≡ true) × IsSound nl b
  IsSound nl (expr.compared p m a b) = (gives a ≡ true) × IsSound nl a × (gives b ≡ true) × IsSound nl b
  IsSound nl (expr.joined_by p m a b) = (gives a ≡ true) × IsSound nl a × (gives b ≡ true) × IsSound nl b
  IsSound nl (expr.stored p kind place v) = IsPlaceSound nl place × (gives v ≡ true) × IsSound nl v
  IsSound nl (expr.updated p m counted kind place v) = IsPlaceSound nl place × (gives v ≡ true) × IsSound nl v
  IsSound nl (expr.chosen p c a b) = (gives c ≡ true) × IsSound nl c × (gives a ≡ true) × IsSound nl a
      × (gives b ≡ true) × IsSound nl b
  IsSound nl (expr.converted p kind v) = (gives v ≡ true) × IsSound nl v
  IsSound nl (expr.cast_of p v) = IsSound nl v
  IsSound nl (expr.dropped p v) = IsSound nl v
  IsSound nl (expr.called p f vs) = AreSound nl vs
  IsSound nl (expr.called_row p n g vs) = AreSound nl vs
  IsSound nl (expr.called_unless_null p n g vs) = AreSound nl vs × (has_call_value g.answer ≡ true)
  IsSound nl (expr.called_with_outputs p n g vs steps) =
      AreSound nl vs × AreWritten nl steps × (has_call_value g.answer ≡ true)
  IsSound nl v = Unit {0}

  pub IsPlaceSound : ℕ → expr.Place → Type 0
  IsPlaceSound nl (expr.local_place p x) = x < nl
  IsPlaceSound nl (expr.global_place p n) = Unit {0}
  IsPlaceSound nl (expr.field_place p base tag field) = (gives base ≡ true) × IsSound nl base
  IsPlaceSound nl expr.no_place = ⊥

  pub AreSound : ℕ → expr.Values → Type 0
  AreSound nl expr.no_values = Unit {0}
  AreSound nl (expr.value_and v vs) = (gives v ≡ true) × IsSound nl v × AreSound nl vs

abbrev pub IsWanted : ℕ → expr.Value → Type 0
IsWanted nl v = (gives v ≡ true) × IsSound nl v

abbrev pub IsOptionSound : ℕ → Option expr.Value → Type 0
IsOptionSound nl None = Unit {0}
IsOptionSound nl (Some v) = IsSound nl v

abbrev pub IsOptionWanted : ℕ → Option expr.Value → Type 0
IsOptionWanted nl None = Unit {0}
IsOptionWanted nl (Some v) = IsWanted nl v

abbrev pub AreDeclared : ℕ → List stmt.DeclaredLocal → Type 0
AreDeclared nl [] = Unit {0}
AreDeclared nl (r ∷ rs) = (r.number < nl) × IsOptionWanted nl r.value × AreDeclared nl rs

abbrev mutual
  pub IsStmtSound : ℕ → stmt.Action → Type 0
  IsStmtSound nl (stmt.block p ss q) = AreStmtsSound nl ss
  IsStmtSound nl (stmt.declare p rs) = AreDeclared nl rs
  IsStmtSound nl (stmt.do_expr p v) = IsOptionSound nl v
  IsStmtSound nl (stmt.if_only p c a) = IsWanted nl c × IsStmtSound nl a
  IsStmtSound nl (stmt.if_else p c a b) = IsWanted nl c × IsStmtSound nl a × IsStmtSound nl b
  IsStmtSound nl (stmt.while p c a) = IsWanted nl c × IsStmtSound nl a
  IsStmtSound nl (stmt.do_while p a c) = IsWanted nl c × IsStmtSound nl a
  IsStmtSound nl (stmt.for p rs u c w a) = AreDeclared nl rs × IsOptionSound nl u × IsOptionWanted nl c
      × IsOptionSound nl w × IsStmtSound nl a
  IsStmtSound nl (stmt.switch p v a) = IsWanted nl v × IsStmtSound nl a
  IsStmtSound nl (stmt.case p n a) = IsStmtSound nl a
  IsStmtSound nl (stmt.default p a) = IsStmtSound nl a
  IsStmtSound nl (stmt.label p l a) = IsStmtSound nl a
  IsStmtSound nl (stmt.return p k v) = IsOptionWanted nl v
  IsStmtSound nl a = Unit {0}

  pub AreStmtsSound : ℕ → stmt.Actions → Type 0
  AreStmtsSound nl stmt.no_actions = Unit {0}
  AreStmtsSound nl (stmt.action_and a ss) = IsStmtSound nl a × AreStmtsSound nl ss

-- ---- how many

abbrev mutual
  pub expr_nodes : expr.Value → ℕ
  expr_nodes (expr.read p kind place) = place_nodes place + 1
  expr_nodes (expr.inner p v) = expr_nodes v + 1
  expr_nodes (expr.signed p m kind v) = expr_nodes v + 1
  expr_nodes (expr.negated p v) = expr_nodes v + 1
  expr_nodes (expr.stepped p is_postfix m kind place) = place_nodes place + 1
  expr_nodes (expr.emptied p kind place) = place_nodes place + 1
  expr_nodes (expr.computed p m kind a b) = expr_nodes a + expr_nodes b + 1
  expr_nodes (expr.compared p m a b) = expr_nodes a + expr_nodes b + 1
  expr_nodes (expr.joined_by p m a b) = expr_nodes a + expr_nodes b + 1
  expr_nodes (expr.stored p kind place v) = place_nodes place + expr_nodes v + 1
  expr_nodes (expr.updated p m counted kind place v) = place_nodes place + expr_nodes v + 1
  expr_nodes (expr.chosen p c a b) = expr_nodes c + expr_nodes a + expr_nodes b + 1
  expr_nodes (expr.converted p kind v) = expr_nodes v + 1
  expr_nodes (expr.cast_of p v) = expr_nodes v + 1
  expr_nodes (expr.dropped p v) = expr_nodes v + 1
  expr_nodes (expr.called p f vs) = values_nodes vs + 1
  expr_nodes (expr.called_row p n g vs) = values_nodes vs + 1
  expr_nodes (expr.called_unless_null p n g vs) = values_nodes vs + 1
  expr_nodes (expr.called_with_outputs p n g vs steps) = values_nodes vs + 2
  expr_nodes v = 1

  pub place_nodes : expr.Place → ℕ
  place_nodes (expr.field_place p base tag field) = expr_nodes base + 1
  place_nodes place = 1

  pub values_nodes : expr.Values → ℕ
  values_nodes expr.no_values = 0
  values_nodes (expr.value_and v vs) = expr_nodes v + values_nodes vs

abbrev pub option_nodes : Option expr.Value → ℕ
option_nodes None = 0
option_nodes (Some v) = expr_nodes v

abbrev pub declare_nodes : List stmt.DeclaredLocal → ℕ
declare_nodes [] = 0
declare_nodes (r ∷ rs) = option_nodes r.value + 1 + declare_nodes rs

abbrev mutual
  pub stmt_nodes : stmt.Action → ℕ
  stmt_nodes (stmt.block p ss q) = stmts_nodes ss + 1
  stmt_nodes (stmt.declare p rs) = declare_nodes rs + 1
  stmt_nodes (stmt.do_expr p v) = option_nodes v + 1
  stmt_nodes (stmt.if_only p c a) = expr_nodes c + stmt_nodes a + 1
  stmt_nodes (stmt.if_else p c a b) = expr_nodes c + stmt_nodes a + stmt_nodes b + 1
  stmt_nodes (stmt.while p c a) = expr_nodes c + stmt_nodes a + 1
  stmt_nodes (stmt.do_while p a c) = expr_nodes c + stmt_nodes a + 1
  stmt_nodes (stmt.for p rs u c w a) = declare_nodes rs + option_nodes u + option_nodes c + option_nodes w
      + stmt_nodes a + 1
  stmt_nodes (stmt.switch p v a) = expr_nodes v + stmt_nodes a + 1
  stmt_nodes (stmt.case p n a) = stmt_nodes a + 1
  stmt_nodes (stmt.default p a) = stmt_nodes a + 1
  stmt_nodes (stmt.label p l a) = stmt_nodes a + 1
  stmt_nodes (stmt.return p k v) = option_nodes v + 1
  stmt_nodes a = 1

  pub stmts_nodes : stmt.Actions → ℕ
  stmts_nodes stmt.no_actions = 0
  stmts_nodes (stmt.action_and a ss) = stmt_nodes a + stmts_nodes ss
