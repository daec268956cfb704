-- What an emitter of statements does.
--   Emits lines ps ..           it adds these instructions after what was there, and takes these places from the front
--                               of the plan
--   EmitsStmt nl env a          those of a statement
--   EmitsList nl env list       those of statements, one after another
use Rattle.std.specs.Prelude.{◌≡◌, ℕ, List, ◌++◌, length}
use Rattle.pungi_resolved.specs.Actions as stmt
use Rattle.pungi_resolved.specs.ActionView.{actions_of}
use Rattle.pungi_code.specs.declared.code.Line.{Line}
use Rattle.pungi_layout.specs.code.Scopes.{Env}
use Rattle.pungi_layout.specs.code.StmtCode.{stmt_code, stmts_code}
use Rattle.pungi_emit.specs.planning.Plans.{plan_of, plans_of}

pub record Emits (lines : List Line) (ps : List ℕ) (c0 c1 : List Line) (l0 l1 : List ℕ) : Type 0 where
  pub code : c1 ≡ c0 ++ lines
  pub plan : l0 ≡ ps ++ l1

abbrev pub EmitsStmt : ℕ → Env → stmt.Action → List Line → List Line → List ℕ → List ℕ → Type 0
EmitsStmt nl env a c0 = Emits (stmt_code nl env (length c0) a) (plan_of (length c0) a) c0

abbrev pub EmitsList : ℕ → Env → List stmt.Action → List Line → List Line → List ℕ → List ℕ → Type 0
EmitsList nl env list c0 =
    Emits (stmts_code nl env (length c0) (actions_of list)) (plans_of (length c0) (actions_of list)) c0
