-- The instructions of a statement whose parts are of the kinds that they need name what is there, and of the kind that
-- they need.
use Rattle.std.proofs.Common.{◌≡◌, ℕ, ◌+◌, ◌*◌, ◌<◌, ◌≤◌, ℤ, arith, true, false, List, [], ◌∷◌, ◌++◌, length, Option}
use Rattle.std.proofs.Common.{Some, None, refl, sym, ap, ◌∙◌}
use Rattle.std.specs.Prelude.{◌^◌, is_none}
use Rattle.pungi_base.specs.declared.pos.Pos.{Pos}
use Rattle.pungi_api.specs.declared.param.Param.{Param}
use Rattle.pungi_api.specs.declared.param.Param.TheVariants as param
use Rattle.pungi_types.specs.declared.kind.ValueKind.{ValueKind}
use Rattle.pungi_types.specs.declared.kind.ValueKind.TheVariants as kinds
use Rattle.pungi_resolved.specs.Values as expr
use Rattle.pungi_resolved.specs.Actions as stmt
use Rattle.pungi_meaning.specs.declared.cmp.Cmp.TheVariants as cmps
use Rattle.pungi_meaning.specs.Values.{slot_kind}
use Rattle.pungi_meaning.specs.Stmts.{block_cases}
use Rattle.pungi_meaning.specs.Work.{block_locals, action_locals}
use Rattle.pungi_meaning.specs.Todo.{listed}
use Rattle.pungi_code.specs.declared.atom.Atom.TheVariants as atom
use Rattle.pungi_code.specs.declared.code.Code.{Code}
use Rattle.pungi_code.specs.declared.code.Line.{Line}
use Rattle.pungi_code.specs.WellFormed.{is_integer, is_wide, is_returned}
use Rattle.pungi_layout.specs.code.Sizes.{expr_size, option_size, declare_size, test_size, stmt_size, stmts_size}
use Rattle.pungi_layout.specs.code.Temporaries.{temp, value_column, temp_of, operand, local_column}
use Rattle.pungi_layout.specs.code.ExprCode.{var, expr_code}
use Rattle.pungi_layout.specs.code.Scopes.{Env, label_or, for_head, list_cases, list_default, in_block, in_loop}
use Rattle.pungi_layout.specs.code.Scopes.{in_switch}
use Rattle.pungi_layout.specs.code.StmtCode.{unset_code, value_code, option_code, bind_code, declare_code, test_code}
use Rattle.pungi_layout.specs.code.StmtCode.{tested_code, case_code, return_code, stmt_code, stmts_code}
use Rattle.pungi_layout.specs.code.Levels.{expr_levels, option_levels, declare_levels, stmt_levels, stmts_levels}
use Rattle.pungi_layout.specs.kinds.Typed.{Known, is_kept, GoesIn, IsHeld, IsTyped, IsOptionTyped, IsDeclaredTyped}
use Rattle.pungi_layout.specs.kinds.Typed.{AreDeclaredTyped, IsReturned, IsStmtTyped, AreStmtsTyped}
use Rattle.pungi_layout.specs.code.CallKinds.{returned_kind}
use Rattle.pungi_layout.proofs.well_formed.Instructions.{column_kind, number_kind, integer_wide, lt_true, var_atom}
use Rattle.pungi_layout.proofs.well_formed.Instructions.{number_atom, set_fine, compare_fine, jump_fine, is_tested}
use Rattle.pungi_layout.proofs.well_formed.Instructions.{condition_fine, branch_fine, tested_fine, numbers_compared}
use Rattle.pungi_layout.proofs.well_formed.Instructions.{AreFine, constant_number, fine_append}
use Rattle.pungi_layout.proofs.well_formed.Columns.{number_wide, value_low, kept_returned, void_returned}
use Rattle.pungi_layout.proofs.code.LevelLemmas.{some_levels}
use Rattle.pungi_layout.proofs.well_formed.Operands.{own_held, own_in, known_held}
use Rattle.pungi_layout.proofs.well_formed.Exprs.{expr_fine}
use Rattle.pungi_layout.proofs.code.StmtLengths.{cases_long}
use Rattle.pungi_layout.proofs.well_formed.JumpPlaces.{label_in, default_in, EnvIn, block_in, CasesIn, list_cases_in}

module _ (file : Known) (code : Code) (nl n : ℕ) (temps : (d c : ℕ) → d < n → c ≤ 4
    → IsHeld code.vars (temp nl d c) (column_kind c)) (few : n ≤ 2 ^ 14)
    (result : code.result ≡ returned_kind file.result) where
  abbrev IsFine : List Line → Type 0
  IsFine ls = AreFine file code ls

  joins : (a b : List Line) → IsFine a → IsFine b → IsFine (a ++ b)
  joins a b f g = fine_append file code a b f g

  -- .. locals
  abbrev AreThere : List stmt.DeclaredLocal → Type 0
  AreThere [] = Unit {0}
  AreThere (r ∷ rs) = (r.number < length code.vars) × AreThere rs

  one_there : (x : ℕ) (k : Option ValueKind) (v : Option expr.Value) → IsDeclaredTyped file code.vars x k v
      → x < length code.vars
  one_there x None v h = absurd h
  one_there x (Some k) v h = h.1.0

  all_there : (rs : List stmt.DeclaredLocal) → AreDeclaredTyped file code.vars rs → AreThere rs
  all_there [] h = tt
  all_there (r ∷ rs) h = (one_there r.number r.kind r.value h.0, all_there rs h.1)

  there_append : (rs qs : List stmt.DeclaredLocal) → AreThere rs → AreThere qs → AreThere (rs ++ qs)
  there_append [] qs h k = k
  there_append (r ∷ rs) qs h k = (h.0, there_append rs qs h.1 k)

  own_there : (a : stmt.Action) → IsStmtTyped file code.vars a → AreThere (action_locals a)
  own_there (stmt.declare p rs) h = all_there rs h
  own_there _ h = tt

  declared_there : (ss : stmt.Actions) → AreStmtsTyped file code.vars ss → AreThere (block_locals (listed ss))
  declared_there stmt.no_actions h = tt
  declared_there (stmt.action_and a ss) h = there_append (action_locals a) (block_locals (listed ss))
      (own_there a h.0) (declared_there ss h.1)

  unset_fine : (p : Pos) (rs : List stmt.DeclaredLocal) → AreThere rs → IsFine (unset_code p rs)
  unset_fine p [] h = tt
  unset_fine p (r ∷ rs) h = ((lt_true r.number (length code.vars) h.0, refl, refl), unset_fine p rs h.1)

  -- a first value in its variable, which the local may hold
  record Bound (kind : ValueKind) (v : expr.Value) : Type 0 where
    held_kind : Param
    held : IsHeld code.vars (operand nl 0 (local_column (Some kind)) v) held_kind
    goes : GoesIn held_kind v
    wide : is_wide held_kind (slot_kind kind) ≡ true
    tested : is_tested code held_kind ≡ true

  bound : (kind : ValueKind) (v : expr.Value) → 0 < n → is_kept kind ≡ true → GoesIn (slot_kind kind) v → Bound kind v
  bound kinds.Int v lt k g = record {
    held_kind = param.Int;
    held = known_held file code nl n temps few 0 v 0 lt g
        (omega arith);
    goes = g;
    wide = refl;
    tested = refl;
  }
  bound kinds.Long v lt k g =
      record {
        held_kind = column_kind (value_column v);
        held = own_held file code nl n temps few 0 v lt;
        goes
            = own_in file code nl n temps few v;
        wide = integer_wide (column_kind (value_column v))
            (number_kind (value_column v) g);
        tested = tested_fine code (value_column v) (value_low v);
      }
  bound kinds.Size v lt k g =
      record {
        held_kind = column_kind (value_column v);
        held = own_held file code nl n temps few 0 v lt;
        goes
            = own_in file code nl n temps few v;
        wide = number_wide (value_column v) g;
        tested = tested_fine code (value_column v) (value_low v);
      }
  bound kinds.Text v lt k g = record {
    held_kind = param.TextOrNull;
    held = temps 0 3 lt (omega arith);
    goes = g;
    wide = refl;
    tested = refl;
  }
  bound (kinds.Object tag) v lt k g = record {
    held_kind = param.ObjectOrNull;
    held = known_held file code nl n
        temps few 0 v 4 lt g (omega arith);
    goes = g;
    wide = refl;
    tested = refl;
  }
  bound kinds.Null v lt k g = absurd (cc)
  bound kinds.Void v lt k g = absurd (cc)

  bind_fine : (pc : ℕ) (p : Pos) (x : ℕ) (kind : Option ValueKind) (v : Option expr.Value)
      → option_levels v ≤ n → pc + option_size v + 1 < length code.instrs → IsDeclaredTyped file code.vars x kind v
      → IsFine (bind_code nl pc p x kind v)
  bind_fine pc p x None v le at h = absurd h
  bind_fine pc p x (Some kind) None le at h = ((lt_true x (length code.vars) h.1.0, refl, refl), tt)
  bind_fine pc p x (Some kind) (Some v) le at h =
      let b = bound kind v (omega (arith, le, some_levels v)) h.0 h.2.0 in
      let t = operand nl 0 (local_column (Some kind)) v in
      joins (expr_code nl 0 t pc v) _ (expr_fine file code nl n temps few v 0 t pc b.held_kind (omega (arith, le))
      (omega (arith, at)) b.held b.goes h.2.1) (
        set_fine file code x (slot_kind kind) (var t) h.1 (var_atom code t b.held_kind (slot_kind kind) b.held b.wide)
            refl,
        tt,
      )

  declare_fine : (rs : List stmt.DeclaredLocal) (pc : ℕ) → declare_levels rs ≤ n
      → pc + declare_size rs < length code.instrs → AreDeclaredTyped file code.vars rs
      → IsFine (declare_code nl pc rs)
  declare_fine [] pc le at h = tt
  declare_fine (r ∷ rs) pc le at h =
      joins (bind_code nl pc r.at r.number r.kind r.value) _ (bind_fine pc r.at r.number r.kind r.value
      (omega (arith, le)) (omega (arith, at)) h.0)
      (declare_fine rs (pc + option_size r.value + 1) (omega (arith, le)) (omega (arith, at)) h.1)

  -- .. values
  value_fine : (v : expr.Value) (pc : ℕ) → expr_levels v ≤ n → pc + expr_size v < length code.instrs
      → IsTyped file code.vars v → IsFine (value_code nl pc v)
  value_fine v pc le at h =
      let o = some_levels v in
      expr_fine file code nl n temps few v 0 (temp_of nl 0 v) pc (column_kind (value_column v)) (omega (arith, le))
      at (own_held file code nl n temps few 0 v (omega (arith, le, o))) (own_in file code nl n temps few v) h

  option_fine : (o : Option expr.Value) (pc : ℕ) → option_levels o ≤ n → pc + option_size o < length code.instrs
      → IsOptionTyped file code.vars o → IsFine (option_code nl pc o)
  option_fine None pc le at h = tt
  option_fine (Some v) pc le at h = value_fine v pc le at h

  test_fine : (c : expr.Value) (pc go other : ℕ) → expr_levels c ≤ n
      → pc + expr_size c < length code.instrs → go < length code.instrs → other < length code.instrs
      → IsTyped file code.vars c
      → IsFine (test_code nl pc c go other)
  test_fine c pc go other le at g o h =
      let m = some_levels c in
      joins (value_code nl pc c) _ (value_fine c pc le at h) (
        branch_fine file code (temp_of nl 0 c) (column_kind (value_column c)) go other
            (own_held file code nl n temps few 0 c (omega (arith, le, m))) (tested_fine code (value_column c)
            (value_low c)) g o,
        tt,
      )

  tested_option : (c : Option expr.Value) (pc go other : ℕ) → option_levels c ≤ n
      → pc + option_size c < length code.instrs → go < length code.instrs → other < length code.instrs
      → IsOptionTyped file code.vars c
      → IsFine (tested_code nl pc c go other)
  tested_option None pc go other le at g o h = tt
  tested_option (Some c) pc go other le at g o h = test_fine c pc go other le at g o h

  tested_more : (c : Option expr.Value) → option_size c ≤ test_size c
  tested_more None = omega arith
  tested_more (Some c) = omega arith

  -- .. the comparisons of a `switch`
  case_fine : (p : Pos) (x y : ℕ) (k : Param) (cs : List (ℤ × ℕ)) (pc : ℕ) → IsHeld code.vars y param.Int
      → IsHeld code.vars x k → is_integer k ≡ true → pc + 2 * length cs < length code.instrs
      → CasesIn (length code.instrs) cs
      → IsFine (case_code p x y pc cs)
  case_fine p x y k [] pc hy hx i at h = tt
  case_fine p x y k (c ∷ cs) pc hy hx i at h = (
    compare_fine file code y param.Int cmps.Equal (var x) (atom.Int c.0) hy refl
        (numbers_compared code false (var x) (atom.Int c.0) (number_atom code x k hx i)
        (constant_number code.vars c.0 h.0)) refl,
    (
      branch_fine file code y param.Int c.1 (pc + 2) hy refl h.1 (omega (arith, at)),
      case_fine p x y k cs (pc + 2) hy hx i (omega (arith, at)) h.2,
    ),
  )

  -- .. what is returned is of the kind of the function's result
  return_fine : (p : Pos) (k : Option ValueKind) (v : Option expr.Value) (pc : ℕ) → option_levels v ≤ n
      → pc + (option_size v + 1) < length code.instrs → k ≡ file.result → IsReturned file code.vars k v
      → IsFine (return_code nl pc p k v)
  return_fine p k None pc le at r h = (
    (refl, ap is_none (result ∙ sym (ap returned_kind r)) ∙ void_returned k h, refl),
    tt,
  )
  return_fine p None (Some v) pc le at r h = absurd h
  return_fine p (Some k) (Some v) pc le at r h =
      let b = bound k v (omega (arith, le, some_levels v)) h.0 h.1.0 in
      let t = operand nl 0 (local_column (Some k)) v in
      let same = result ∙ sym (ap returned_kind r) ∙ kept_returned k h.0 in
      joins (expr_code nl 0 t pc v) _ (expr_fine file code nl n temps few v 0 t pc b.held_kind (omega (arith, le))
      (omega (arith, at)) b.held b.goes h.1.1) (
        (
          condition_fine code t b.held_kind b.held b.tested,
          ap (λ o. is_returned code.vars o (Some (var t))) same
              ∙ var_atom code t b.held_kind (slot_kind k) b.held b.wide,
          refl,
        ),
        tt,
      )

  -- .. statements
  loop_in : (env : Env) (again end : ℕ) → again < length code.instrs → end < length code.instrs
      → EnvIn (length code.instrs) env → EnvIn (length code.instrs) (in_loop env again end)
  loop_in env again end a b e = record { breaks = b; continues = a; labels = e.labels }

  switch_in : (env : Env) (end : ℕ) → end < length code.instrs → EnvIn (length code.instrs) env
      → EnvIn (length code.instrs) (in_switch env end)
  switch_in env end b e = record { breaks = b; continues = e.continues; labels = e.labels }

  mutual
    pub stmt_fine : (a : stmt.Action) (env : Env) (pc : ℕ) → stmt_levels a ≤ n
        → pc + stmt_size a < length code.instrs → EnvIn (length code.instrs) env → IsStmtTyped file code.vars a
        → IsFine (stmt_code nl env pc a)
    stmt_fine (stmt.block p ss q) env pc le at e h =
        let from = pc + length (block_locals (listed ss)) in
        joins (unset_code p (block_locals (listed ss))) _ (unset_fine p (block_locals (listed ss))
        (declared_there ss h))
        (stmts_fine ss (in_block env from (listed ss)) from (omega (arith, le)) (omega (arith, at))
        (block_in (length code.instrs) env from ss (omega (arith, at)) e) h)
    stmt_fine (stmt.declare p rs) env pc le at e h = declare_fine rs pc le at h
    stmt_fine (stmt.do_expr p v) env pc le at e h = option_fine v pc (omega (arith, le)) at h
    stmt_fine (stmt.if_only p c a) env pc le at e h =
        joins (test_code nl pc c (pc + expr_size c + 1) (pc + expr_size c + 1 + stmt_size a)) _
        (test_fine c pc (pc + expr_size c + 1) (pc + expr_size c + 1 + stmt_size a) (omega (arith, le))
        (omega (arith, at)) (omega (arith, at)) (omega (arith, at)) h.0)
        (stmt_fine a env (pc + expr_size c + 1) (omega (arith, le)) (omega (arith, at)) e h.1)
    stmt_fine (stmt.if_else p c a b) env pc le at e h =
        joins (test_code nl pc c (pc + expr_size c + 1) (pc + expr_size c + 1 + stmt_size a + 1)) _
        (test_fine c pc (pc + expr_size c + 1) (pc + expr_size c + 1 + stmt_size a + 1) (omega (arith, le))
        (omega (arith, at)) (omega (arith, at)) (omega (arith, at)) h.0)
        (joins (stmt_code nl env (pc + expr_size c + 1) a) _ (stmt_fine a env (pc + expr_size c + 1)
        (omega (arith, le)) (omega (arith, at)) e h.1) (
          jump_fine file code (pc + expr_size c + 1 + stmt_size a + 1 + stmt_size b) (omega (arith, at)),
          stmt_fine b env (pc + expr_size c + 1 + stmt_size a + 1) (omega (arith, le)) (omega (arith, at)) e h.2,
        ))
    stmt_fine (stmt.while p c a) env pc le at e h =
        let from = pc + (expr_size c + 1) in
        let again = from + stmt_size a in
        let end = from + stmt_size a + 0 + 1 in
        joins (test_code nl pc c from end) _
        (test_fine c pc from end (omega (arith, le)) (omega (arith, at)) (omega (arith, at)) (omega (arith, at))
        h.0)
        (joins (stmt_code nl (in_loop env again end) from a) _
        (stmt_fine a (in_loop env again end) from (omega (arith, le)) (omega (arith, at))
        (loop_in env again end (omega (arith, at)) (omega (arith, at)) e) h.1)
        (jump_fine file code pc (omega (arith, at)), tt))
    stmt_fine (stmt.do_while p a c) env pc le at e h =
        let from = pc + 1 + (expr_size c + 1) in
        let again = from + stmt_size a in
        let end = from + stmt_size a + 0 + 1 in (
          jump_fine file code from (omega (arith, at)),
          joins (test_code nl (pc + 1) c from end) _
              (test_fine c (pc + 1) from end (omega (arith, le)) (omega (arith, at)) (omega (arith, at))
              (omega (arith, at)) h.0)
              (joins (stmt_code nl (in_loop env again end) from a) _
              (stmt_fine a (in_loop env again end) from (omega (arith, le)) (omega (arith, at))
              (loop_in env again end (omega (arith, at)) (omega (arith, at)) e) h.1)
              (jump_fine file code (pc + 1) (omega (arith, at)), tt)),
        )
    stmt_fine (stmt.for p rs u c w a) env pc le at e h =
        let head = for_head pc rs u in
        let go = head + test_size c in
        let again = head + test_size c + stmt_size a in
        let end = head + test_size c + stmt_size a + option_size w + 1 in
        let tested = tested_more c in
        joins (unset_code p rs) _ (unset_fine p rs (all_there rs h.0))
        (joins (declare_code nl (pc + length rs) rs) _ (declare_fine rs (pc + length rs) (omega (arith, le))
        (omega (arith, at)) h.0)
        (joins (option_code nl (pc + length rs + declare_size rs) u) _ (option_fine u
        (pc + length rs + declare_size rs) (omega (arith, le)) (omega (arith, at)) h.1)
        (joins (tested_code nl head c go end) _ (tested_option c head go end (omega (arith, le))
        (omega (arith, at, tested)) (omega (arith, at)) (omega (arith, at)) h.2)
        (joins (stmt_code nl (in_loop env again end) go a) _
        (stmt_fine a (in_loop env again end) go (omega (arith, le)) (omega (arith, at))
        (loop_in env again end (omega (arith, at)) (omega (arith, at)) e) h.4)
        (joins (option_code nl again w) _ (option_fine w again (omega (arith, le)) (omega (arith, at)) h.3)
        (jump_fine file code head (omega (arith, at)), tt))))))
    stmt_fine (stmt.switch p v (stmt.block q ss r)) env pc le at e h =
        let count = length (block_locals (listed ss)) in
        let first = pc + expr_size v + count + 2 * length (block_cases (listed ss)) + 1 in
        let end = first + stmts_size ss in
        let o = some_levels v in
        let inner = in_switch env end in
        let place = label_or (list_default first (listed ss)) end in
        let long = cases_long (listed ss) first in
        joins (value_code nl pc v) _ (value_fine v pc (omega (arith, le)) (omega (arith, at)) h.1)
        (joins (unset_code p (block_locals (listed ss))) _ (unset_fine p (block_locals (listed ss))
        (declared_there ss h.2))
        (joins (case_code p (temp_of nl 0 v) (temp nl 1 0) (pc + expr_size v + count) (list_cases first (listed ss))) _
        (case_fine p (temp_of nl 0 v) (temp nl 1 0) (column_kind (value_column v)) (list_cases first (listed ss))
        (pc + expr_size v + count) (temps 1 0 (omega (arith, le)) (omega arith))
        (own_held file code nl n temps few 0 v (omega (arith, le, o))) (number_kind (value_column v) h.0)
        (omega (arith, at, long)) (list_cases_in file code.vars (length code.instrs) first ss (omega (arith, at))
        h.2)) (
          jump_fine file code place (label_in (length code.instrs) (list_default first (listed ss)) end
              (default_in (length code.instrs) first ss (omega (arith, at))) (omega (arith, at))),
          stmts_fine ss (in_block inner first (listed ss)) first (omega (arith, le)) (omega (arith, at))
              (block_in (length code.instrs) inner first ss (omega (arith, at)) (switch_in env end (omega (arith, at))
              e)) h.2,
        )))
    stmt_fine (stmt.switch p v a) env pc le at e h =
        let end = pc + expr_size v + 1 + stmt_size a in
        joins (value_code nl pc v) _ (value_fine v pc (omega (arith, le)) (omega (arith, at)) h.1) (
          jump_fine file code end (omega (arith, at)),
          stmt_fine a (in_switch env end) (pc + expr_size v + 1) (omega (arith, le)) (omega (arith, at))
              (switch_in env end (omega (arith, at)) e) h.2,
        )
    stmt_fine (stmt.case p i a) env pc le at e h = stmt_fine a env pc (omega (arith, le)) at e h.1
    stmt_fine (stmt.default p a) env pc le at e h = stmt_fine a env pc (omega (arith, le)) at e h
    stmt_fine (stmt.label p l a) env pc le at e h = stmt_fine a env pc (omega (arith, le)) at e h
    stmt_fine (stmt.goto p l) env pc le at e h = (jump_fine file code (env.labels l) (e.labels l), tt)
    stmt_fine (stmt.break p) env pc le at e h = (jump_fine file code env.breaks e.breaks, tt)
    stmt_fine (stmt.continue p) env pc le at e h = (jump_fine file code env.continues e.continues, tt)
    stmt_fine (stmt.return p k v) env pc le at e h = return_fine p k v pc le at h.0 h.1

    stmts_fine : (ss : stmt.Actions) (env : Env) (pc : ℕ) → stmts_levels ss ≤ n
        → pc + stmts_size ss < length code.instrs → EnvIn (length code.instrs) env → AreStmtsTyped file code.vars ss
        → IsFine (stmts_code nl env pc ss)
    stmts_fine stmt.no_actions env pc le at e h = tt
    stmts_fine (stmt.action_and a ss) env pc le at e h =
        joins (stmt_code nl env pc a) _ (stmt_fine a env pc (omega (arith, le)) (omega (arith, at)) e h.0)
        (stmts_fine ss env (pc + stmt_size a) (omega (arith, le)) (omega (arith, at)) e h.1)
