-- The places to which the jumps of a statement lead are places of the code, and so are those of the cases of a
-- `switch`.
use Rattle.std.proofs.Common.{◌≡◌, ℕ, ◌+◌, ◌<◌, ◌≤◌, ℤ, arith, true, false, List, [], ◌∷◌, ◌++◌, Option, Some, None}
use Rattle.std.proofs.Common.{refl}
use Rattle.std.specs.Prelude.{◌==◌, if◌then◌else◌}
use Rattle.pungi_base.specs.declared.names.Name.{Name}
use Rattle.pungi_base.specs.declared.pos.Pos.{Pos}
use Rattle.pungi_api.specs.declared.param.Param.{Param}
use Rattle.pungi_resolved.specs.Values as expr
use Rattle.pungi_resolved.specs.Actions as stmt
use Rattle.pungi_code.specs.WellFormed.{is_constant}
use Rattle.pungi_meaning.specs.Stmts.{cases_of, is_default}
use Rattle.pungi_meaning.specs.Work.{or_else}
use Rattle.pungi_meaning.specs.Todo.{listed}
use Rattle.pungi_layout.specs.code.Sizes.{expr_size, test_size, stmt_size, stmts_size, switch_size}
use Rattle.pungi_layout.specs.code.Scopes.{Env, label_or, for_head, stmt_label, list_label, placed_cases, list_cases}
use Rattle.pungi_layout.specs.code.Scopes.{list_default, in_block}
use Rattle.pungi_layout.specs.kinds.Typed.{Known, IsStmtTyped, AreStmtsTyped}

-- .. sizes
pub switch_is : (p : Pos) (v : expr.Value) (a : stmt.Action)
    → stmt_size (stmt.switch p v a) ≡ expr_size v + switch_size a
switch_is p v (stmt.block q ss r) = refl
switch_is p v a = refl

pub switch_more : (a : stmt.Action) → 1 + stmt_size a ≤ switch_size a
switch_more (stmt.block q ss r) = omega arith
switch_more a = omega arith

-- .. places
-- a place that was found is in front of this one
abbrev pub IsIn : ℕ → Option ℕ → Type 0
IsIn end None = Unit {0}
IsIn end (Some m) = m < end

pub either_in : (end : ℕ) (o u : Option ℕ) → IsIn end o → IsIn end u → IsIn end (or_else o u)
either_in end None u h k = k
either_in end (Some m) u h k = h

pub label_in : (end : ℕ) (o : Option ℕ) (m : ℕ) → IsIn end o → m < end → label_or o m < end
label_in end None m h k = k
label_in end (Some x) m h k = h

stmt_label_in : (end : ℕ) (l : Name) (pc : ℕ) (a : stmt.Action) → pc + stmt_size a < end → IsIn end (stmt_label l pc a)
stmt_label_in end l pc (stmt.label p w a) h =
    elim (w.0 == l.0) as (λ b. IsIn end (if b then Some pc else stmt_label l pc a)) [
      | true ↦ omega (arith, h)
      | false ↦ stmt_label_in end l pc a h
    ]
stmt_label_in end l pc (stmt.case p i a) h = stmt_label_in end l pc a h
stmt_label_in end l pc (stmt.default p a) h = stmt_label_in end l pc a h
stmt_label_in end l pc (stmt.if_only p c a) h = stmt_label_in end l (pc + expr_size c + 1) a (omega (arith, h))
stmt_label_in end l pc (stmt.if_else p c a b) h =
    either_in end (stmt_label l (pc + expr_size c + 1) a) _ (stmt_label_in end l (pc + expr_size c + 1) a
    (omega (arith, h)))
    (stmt_label_in end l (pc + expr_size c + 1 + stmt_size a + 1) b (omega (arith, h)))
stmt_label_in end l pc (stmt.while p c a) h = stmt_label_in end l (pc + test_size (Some c)) a (omega (arith, h))
stmt_label_in end l pc (stmt.do_while p a c) h = stmt_label_in end l (pc + 1 + test_size (Some c)) a (omega (arith, h))
stmt_label_in end l pc (stmt.for p rs u c w a) h =
    stmt_label_in end l (for_head pc rs u + test_size c) a (omega (arith, h))
stmt_label_in end l pc (stmt.switch p v a) h =
    let e = switch_is p v a in
    let m = switch_more a in
    stmt_label_in end l (pc + expr_size v + 1) a (omega (arith, h, e, m))
stmt_label_in end l pc (stmt.block p ss q) h = tt
stmt_label_in end l pc (stmt.declare p rs) h = tt
stmt_label_in end l pc (stmt.do_expr p v) h = tt
stmt_label_in end l pc (stmt.goto p w) h = tt
stmt_label_in end l pc (stmt.break p) h = tt
stmt_label_in end l pc (stmt.continue p) h = tt
stmt_label_in end l pc (stmt.return p k v) h = tt

list_label_in : (end : ℕ) (l : Name) (pc : ℕ) (ss : stmt.Actions) → pc + stmts_size ss < end
    → IsIn end (list_label l pc (listed ss))
list_label_in end l pc stmt.no_actions h = tt
list_label_in end l pc (stmt.action_and a ss) h =
    either_in end (stmt_label l pc a) _ (stmt_label_in end l pc a (omega (arith, h)))
    (list_label_in end l (pc + stmt_size a) ss (omega (arith, h)))

pub default_in : (end : ℕ) (pc : ℕ) (ss : stmt.Actions) → pc + stmts_size ss < end
    → IsIn end (list_default pc (listed ss))
default_in end pc stmt.no_actions h = tt
default_in end pc (stmt.action_and a ss) h =
    elim (is_default a) as (λ b. IsIn end (if b then Some pc else list_default (pc + stmt_size a) (listed ss))) [
      | true ↦ omega (arith, h)
      | false ↦ default_in end (pc + stmt_size a) ss (omega (arith, h))
    ]

-- where jumps lead from here is in front of this place
pub record EnvIn (end : ℕ) (env : Env) : Type 0 where
  pub breaks : env.breaks < end
  pub continues : env.continues < end
  pub labels : (l : Name) → env.labels l < end

pub block_in : (end : ℕ) (env : Env) (pc : ℕ) (ss : stmt.Actions) → pc + stmts_size ss < end → EnvIn end env
    → EnvIn end (in_block env pc (listed ss))
block_in end env pc ss h e =
    record {
      breaks = e.breaks;
      continues = e.continues;
      labels = λ l. label_in end (list_label l pc (listed ss))
          (env.labels l) (list_label_in end l pc ss h) (e.labels l);
    }

-- .. cases
-- constants, and places in front of this one
abbrev pub CasesIn : ℕ → List (ℤ × ℕ) → Type 0
CasesIn end [] = Unit {0}
CasesIn end (c ∷ cs) = (is_constant c.0 ≡ true) × (c.1 < end) × CasesIn end cs

cases_append : (end : ℕ) (as' bs : List (ℤ × ℕ)) → CasesIn end as' → CasesIn end bs → CasesIn end (as' ++ bs)
cases_append end [] bs h k = k
cases_append end (c ∷ as') bs h k = (h.0, h.1, cases_append end as' bs h.2 k)

module _ (file : Known) (vars : List Param) where
  own_cases : (end pc : ℕ) (a : stmt.Action) → pc < end → IsStmtTyped file vars a
      → CasesIn end (placed_cases pc (cases_of a))
  own_cases end pc (stmt.case p i a) h k = (k.0, h, own_cases end pc a h k.1)
  own_cases end pc (stmt.default p a) h k = own_cases end pc a h k
  own_cases end pc (stmt.label p l a) h k = own_cases end pc a h k
  own_cases end pc _ h k = tt

  pub list_cases_in : (end pc : ℕ) (ss : stmt.Actions) → pc + stmts_size ss < end → AreStmtsTyped file vars ss
      → CasesIn end (list_cases pc (listed ss))
  list_cases_in end pc stmt.no_actions h k = tt
  list_cases_in end pc (stmt.action_and a ss) h k =
      cases_append end (placed_cases pc (cases_of a)) _ (own_cases end pc a (omega (arith, h)) k.0)
      (list_cases_in end (pc + stmt_size a) ss (omega (arith, h)) k.1)
