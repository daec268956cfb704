-- The cases of a `switch` whose statements begin at known places.
--   case_lines p x y pc a n     the comparison of one case
--   cases_at list starts        the cases of statements, each with the place where its statement begins
--   default_at list starts      the place of the statement after `default`
--   is_block a                  a statement is a block
--   skipped_code nl env pc p v a    a `switch` over what is no block
use Rattle.std.specs.Prelude.{ℕ, ◌+◌, ℤ, Bool, true, false, List, [], ◌∷◌, ◌++◌, Option, Some, None, if◌then◌else◌}
use Rattle.pungi_base.specs.declared.pos.Pos.{Pos}
use Rattle.pungi_resolved.specs.Values as expr
use Rattle.pungi_resolved.specs.Actions as stmt
use Rattle.pungi_meaning.specs.Stmts.{cases_of, is_default}
use Rattle.pungi_meaning.specs.declared.cmp.Cmp.TheVariants as cmps
use Rattle.pungi_code.specs.declared.atom.Atom.{Atom}
use Rattle.pungi_code.specs.declared.code.Line.{Line}
use Rattle.pungi_code.specs.declared.instr.Instr.TheVariants.{Compare, Branch, Jump}
use Rattle.pungi_layout.specs.code.Sizes.{expr_size, stmt_size}
use Rattle.pungi_layout.specs.code.ExprCode.{line, to_var, var, at_label}
use Rattle.pungi_layout.specs.code.Scopes.{Env, in_switch, placed_cases}
use Rattle.pungi_layout.specs.code.StmtCode.{value_code, stmt_code}

abbrev pub case_lines : Pos → ℕ → ℕ → ℕ → Atom → ℕ → List Line
case_lines p x y pc a n =
    line p (Compare (to_var y) cmps.Equal (var x) a) ∷ line p (Branch (var y) (at_label n) (at_label (pc + 2))) ∷ []

abbrev pub cases_at : List stmt.Action → List ℕ → List (ℤ × ℕ)
cases_at [] starts = []
cases_at (a ∷ rest) [] = []
cases_at (a ∷ rest) (n ∷ starts) = placed_cases n (cases_of a) ++ cases_at rest starts

abbrev pub default_at : List stmt.Action → List ℕ → Option ℕ
default_at [] starts = None
default_at (a ∷ rest) [] = None
default_at (a ∷ rest) (n ∷ starts) = if is_default a then Some n else default_at rest starts

abbrev pub is_block : stmt.Action → Bool
is_block (stmt.block p ss q) = true
is_block a = false

abbrev pub skipped_code : ℕ → Env → ℕ → Pos → expr.Value → stmt.Action → List Line
skipped_code nl env pc p v a =
    value_code nl pc v ++ line p (Jump (at_label (pc + expr_size v + 1 + stmt_size a)))
    ∷ stmt_code nl (in_switch env (pc + expr_size v + 1 + stmt_size a)) (pc + expr_size v + 1) a
