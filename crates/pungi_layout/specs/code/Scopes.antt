-- Where a jump leads from inside of a statement.
--   Env                         where `break`, `continue` and each `goto` lead
--   everywhere n                to one place, the end of the function
--   label_or o n                a place that was found, or else this
--   for_head pc rs u            the head of a `for`, after what it declares and does first
--   stmt_label l pc a           the place of a label of a statement that begins at this place; none in an inner block
--   list_label l pc list        the same of the statements of a block
--   in_block, in_loop, in_switch    the inside of a block, a loop and a `switch`
--   placed_cases, list_cases    the cases of statements, each with the place where its statement begins
--   list_default                the place of the statement after `default`
use Rattle.std.specs.Prelude.{ℕ, ◌+◌, ◌==◌, ℤ, List, [], ◌∷◌, ◌++◌, length, Option, Some, None, if◌then◌else◌}
use Rattle.pungi_base.specs.declared.names.Name.{Name}
use Rattle.pungi_resolved.specs.Values as expr
use Rattle.pungi_resolved.specs.Actions as stmt
use Rattle.pungi_meaning.specs.Work.{or_else}
use Rattle.pungi_meaning.specs.Stmts.{cases_of, is_default}
use Rattle.pungi_layout.specs.code.Sizes.{expr_size, option_size, declare_size, test_size, stmt_size}

pub record Env : Type 0 where
  pub breaks : ℕ
  pub continues : ℕ
  pub labels : Name → ℕ

abbrev pub everywhere : ℕ → Env
everywhere n = record { breaks = n; continues = n; labels = λ l. n }

abbrev pub label_or : Option ℕ → ℕ → ℕ
label_or None n = n
label_or (Some m) n = m

abbrev pub for_head : ℕ → List stmt.DeclaredLocal → Option expr.Value → ℕ
for_head pc rs u = pc + length rs + declare_size rs + option_size u

abbrev pub stmt_label : Name → ℕ → stmt.Action → Option ℕ
stmt_label l pc (stmt.label p n a) = if n.0 == l.0 then Some pc else stmt_label l pc a
stmt_label l pc (stmt.case p n a) = stmt_label l pc a
stmt_label l pc (stmt.default p a) = stmt_label l pc a
stmt_label l pc (stmt.if_only p c a) = stmt_label l (pc + expr_size c + 1) a
stmt_label l pc (stmt.if_else p c a b) =
    or_else (stmt_label l (pc + expr_size c + 1) a) (stmt_label l (pc + expr_size c + 1 + stmt_size a + 1) b)
stmt_label l pc (stmt.while p c a) = stmt_label l (pc + test_size (Some c)) a
stmt_label l pc (stmt.do_while p a c) = stmt_label l (pc + 1 + test_size (Some c)) a
stmt_label l pc (stmt.for p rs u c w a) = stmt_label l (for_head pc rs u + test_size c) a
stmt_label l pc (stmt.switch p v a) = stmt_label l (pc + expr_size v + 1) a
stmt_label l pc a = None

abbrev pub list_label : Name → ℕ → List stmt.Action → Option ℕ
list_label l pc [] = None
list_label l pc (a ∷ rest) = or_else (stmt_label l pc a) (list_label l (pc + stmt_size a) rest)

abbrev pub in_block : Env → ℕ → List stmt.Action → Env
in_block env pc block =
    record {
      breaks = env.breaks;
      continues = env.continues;
      labels = λ l. label_or (list_label l pc block)
          (env.labels l);
    }

abbrev pub in_loop : Env → ℕ → ℕ → Env
in_loop env continues end = record { breaks = end; continues = continues; labels = env.labels }

abbrev pub in_switch : Env → ℕ → Env
in_switch env end = record { breaks = end; continues = env.continues; labels = env.labels }

-- ---- switch

-- the cases of statements, and the places where these statements begin
abbrev pub placed_cases : ℕ → List ℤ → List (ℤ × ℕ)
placed_cases pc [] = []
placed_cases pc (c ∷ cs) = (c, pc) ∷ placed_cases pc cs

abbrev pub list_cases : ℕ → List stmt.Action → List (ℤ × ℕ)
list_cases pc [] = []
list_cases pc (a ∷ rest) = placed_cases pc (cases_of a) ++ list_cases (pc + stmt_size a) rest

abbrev pub list_default : ℕ → List stmt.Action → Option ℕ
list_default pc [] = None
list_default pc (a ∷ rest) = if is_default a then Some pc else list_default (pc + stmt_size a) rest
