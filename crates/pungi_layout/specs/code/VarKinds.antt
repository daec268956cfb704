-- What the variables of a code hold: first the parameters, then the other locals in the order of the text, then the
-- temporaries.
--   kind_held r                    what a declared local holds
--   stmt_declared a, stmts_declared ss  the locals that a statement declares, those of the statements in it too
--   temp_kinds n                   so many times five temporaries
--   var_kinds f                    all variables of the code of a function
use Rattle.std.specs.Prelude.{ℕ, zero, suc, List, [], ◌∷◌, ◌++◌, map}
use Rattle.pungi_api.specs.declared.param.Param.{Param}
use Rattle.pungi_api.specs.declared.param.Param.TheVariants as param
use Rattle.pungi_resolved.specs.Actions as stmt
use Rattle.pungi_resolved.specs.Functions.{ResolvedFunction}
use Rattle.pungi_layout.specs.code.CallKinds.{held_kind}
use Rattle.pungi_layout.specs.code.Levels.{stmt_levels}

abbrev pub kind_held : stmt.DeclaredLocal → Param
kind_held r = held_kind r.kind

abbrev mutual
  pub stmt_declared : stmt.Action → List stmt.DeclaredLocal
  stmt_declared (stmt.block p ss q) = stmts_declared ss
  stmt_declared (stmt.declare p rs) = rs
  stmt_declared (stmt.if_only p c a) = stmt_declared a
  stmt_declared (stmt.if_else p c a b) = stmt_declared a ++ stmt_declared b
  stmt_declared (stmt.while p c a) = stmt_declared a
  stmt_declared (stmt.do_while p a c) = stmt_declared a
  stmt_declared (stmt.for p rs u c w a) = rs ++ stmt_declared a
  stmt_declared (stmt.switch p v a) = stmt_declared a
  stmt_declared (stmt.case p n a) = stmt_declared a
  stmt_declared (stmt.default p a) = stmt_declared a
  stmt_declared (stmt.label p l a) = stmt_declared a
  stmt_declared a = []

  pub stmts_declared : stmt.Actions → List stmt.DeclaredLocal
  stmts_declared stmt.no_actions = []
  stmts_declared (stmt.action_and a ss) = stmt_declared a ++ stmts_declared ss

-- the variables of a level, in the order of the columns
abbrev pub temp_kinds : ℕ → List Param
temp_kinds zero = []
temp_kinds (suc n) = param.Int ∷ param.Long ∷ param.Size ∷ param.TextOrNull ∷ param.ObjectOrNull ∷ temp_kinds n

abbrev pub var_kinds : ResolvedFunction → List Param
var_kinds f = map held_kind f.params ++ (map kind_held (stmt_declared f.body) ++ temp_kinds (stmt_levels f.body))
