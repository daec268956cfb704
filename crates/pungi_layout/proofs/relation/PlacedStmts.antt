-- The instructions of a statement stand in the code as the relation says.
use Rattle.std.proofs.Common.{◌≡◌, ℕ, ◌+◌, ◌*◌, ◌<◌, ◌≤◌, ℤ, List, [], ◌∷◌, ◌++◌, length, Option, Some, None, ap, ◌∙◌}
use Rattle.std.proofs.Common.{subst, arith}
use Rattle.pungi_base.specs.declared.pos.Pos.{Pos}
use Rattle.pungi_types.specs.declared.kind.ValueKind.{ValueKind}
use Rattle.pungi_resolved.specs.Values as expr
use Rattle.pungi_resolved.specs.Actions as stmt
use Rattle.pungi_meaning.specs.Stmts.{block_cases}
use Rattle.pungi_meaning.specs.Todo.{listed}
use Rattle.pungi_meaning.specs.Work.{action_locals, block_locals}
use Rattle.pungi_code.specs.declared.code.Line.{Line}
use Rattle.pungi_code.specs.declared.instr.Instr.TheVariants.{Jump}
use Rattle.pungi_layout.specs.code.FirstTokens.{first_token}
use Rattle.pungi_layout.specs.code.Sizes.{expr_size, option_size, declare_size, test_size, stmt_size, stmts_size}
use Rattle.pungi_layout.specs.code.Temporaries.{temp, temp_of, operand, local_column}
use Rattle.pungi_layout.specs.code.ExprCode.{line, at_label, expr_code}
use Rattle.pungi_layout.specs.code.Scopes.{Env, label_or, for_head, list_cases, list_default, in_block, in_loop}
use Rattle.pungi_layout.specs.code.Scopes.{in_switch}
use Rattle.pungi_layout.specs.code.StmtCode.{unset_code, value_code, option_code, bind_code, declare_code, test_code}
use Rattle.pungi_layout.specs.code.StmtCode.{tested_code, case_code, stmt_code, stmts_code}
use Rattle.pungi_layout.specs.code.Sound.{IsSound, IsWanted, IsOptionSound, IsOptionWanted, AreDeclared, IsStmtSound}
use Rattle.pungi_layout.specs.code.Sound.{AreStmtsSound}
use Rattle.pungi_layout.specs.code.Levels.{expr_levels, option_levels, declare_levels, stmt_levels, stmts_levels}
use Rattle.pungi_layout.proofs.code.ExprLengths.{expr_long}
use Rattle.pungi_layout.proofs.code.StmtLengths.{unset_long, value_long, option_long, bind_long, declare_long}
use Rattle.pungi_layout.proofs.code.StmtLengths.{test_long, tested_long, case_long, cases_long, stmt_long}
use Rattle.pungi_layout.proofs.relation.Waiting.{switch_first}
use Rattle.pungi_layout.proofs.relation.Relation.{Does, IsTemp, ExprAt, OptionAt, UnsetAt, BindAt, ReachAt, TestAt}
use Rattle.pungi_layout.proofs.relation.Relation.{ComparedAt, StmtAt, StmtsAt}
use Rattle.pungi_layout.proofs.relation.Standing.{HasAt, has_cut}
use Rattle.pungi_layout.proofs.relation.PlacedExprs.{expr_placed, operand_at, value_at, temp_at}

-- ---- where they stand

-- the locals of a block are those of its declarations
declared_both : (rs qs : List stmt.DeclaredLocal) (nl : ℕ) → AreDeclared nl rs → AreDeclared nl qs
    → AreDeclared nl (rs ++ qs)
declared_both [] qs nl h g = g
declared_both (r ∷ rs) qs nl h g = (h.0, h.1, declared_both rs qs nl h.2 g)

by_one : (a : stmt.Action) (nl : ℕ) → IsStmtSound nl a → AreDeclared nl (action_locals a)
by_one (stmt.declare p rs) nl h = h
by_one (stmt.block p ss q) nl h = tt
by_one (stmt.do_expr p v) nl h = tt
by_one (stmt.if_only p c a) nl h = tt
by_one (stmt.if_else p c a b) nl h = tt
by_one (stmt.while p c a) nl h = tt
by_one (stmt.do_while p a c) nl h = tt
by_one (stmt.for p rs u c w a) nl h = tt
by_one (stmt.switch p v a) nl h = tt
by_one (stmt.case p n a) nl h = tt
by_one (stmt.default p a) nl h = tt
by_one (stmt.label p l a) nl h = tt
by_one (stmt.goto p l) nl h = tt
by_one (stmt.break p) nl h = tt
by_one (stmt.continue p) nl h = tt
by_one (stmt.return p k v) nl h = tt

pub block_declared : (ss : stmt.Actions) (nl : ℕ) → AreStmtsSound nl ss → AreDeclared nl (block_locals (listed ss))
block_declared stmt.no_actions nl h = tt
block_declared (stmt.action_and a ss) nl h =
    declared_both (action_locals a) (block_locals (listed ss)) nl (by_one a nl h.0) (block_declared ss nl h.1)

module _ (code : List Line) (nl room : ℕ) where
  unset_placed : (rs : List stmt.DeclaredLocal) (pc : ℕ) (p : Pos) → AreDeclared nl rs
      → HasAt code pc (unset_code p rs) → UnsetAt code nl room rs pc
  unset_placed [] pc p s h = tt
  unset_placed (r ∷ rs) pc p s h = (s.0, (p, h.0), unset_placed rs (pc + 1) p s.2 h.1)

  value_temp : (v : expr.Value) → nl + 5 * expr_levels v ≤ room → IsTemp code nl room 0 (temp_of nl 0 v)
  value_temp v le = value_at code nl room v 0 (omega (arith, le))

  value_placed : (v : expr.Value) (pc : ℕ) → nl + 5 * expr_levels v ≤ room → IsSound nl v
      → HasAt code pc (value_code nl pc v) → ExprAt code nl room 0 (temp_of nl 0 v) pc v
  value_placed v pc le s h = expr_placed code nl room v 0 (temp_of nl 0 v) pc (omega (arith, le)) (value_temp v le) s h

  option_placed : (o : Option expr.Value) (pc : ℕ) → nl + 5 * option_levels o ≤ room → IsOptionSound nl o
      → HasAt code pc (option_code nl pc o) → OptionAt code nl room pc o
  option_placed None pc le s h = tt
  option_placed (Some v) pc le s h = (temp_of nl 0 v, value_temp v le, value_placed v pc le s h)

  bind_placed : (o : Option expr.Value) (x pc : ℕ) (p : Pos) (kind : Option ValueKind)
      → nl + 5 * option_levels o ≤ room → x < nl → IsOptionWanted nl o → HasAt code pc (bind_code nl pc p x kind o)
      → BindAt code nl room x pc o
  bind_placed None x pc p kind le lt s h = (lt, (p, h.0))
  bind_placed (Some v) x pc p kind le lt s h =
      let y = operand nl 0 (local_column kind) v in
      let at = operand_at code nl room (local_column kind) v 0 (omega (arith, le)) in
      let g = has_cut code pc (expr_size v) (expr_code nl 0 y pc v) _ (expr_long v nl 0 y pc) h in
      (y, s.0, at, expr_placed code nl room v 0 y pc (omega (arith, le)) at s.1 g.0, lt, (p, g.1.0))

  declare_placed : (rs : List stmt.DeclaredLocal) (pc : ℕ) → nl + 5 * declare_levels rs ≤ room → AreDeclared nl rs
      → HasAt code pc (declare_code nl pc rs) → ReachAt code nl room pc rs
  declare_placed [] pc le s h = tt
  declare_placed (r ∷ rs) pc le s h =
      let g = has_cut code pc (option_size r.value + 1) (bind_code nl pc r.at r.number r.kind r.value) _
      (bind_long r.value nl pc r.number r.at r.kind) h in
      let e : pc + (option_size r.value + 1) ≡ pc + option_size r.value + 1 = omega arith in (
        bind_placed r.value r.number pc r.at r.kind (omega (arith, le)) s.0 s.1 g.0,
        declare_placed rs
            (pc + option_size r.value + 1) (omega (arith, le)) s.2 (subst (λ x. HasAt code x
            (declare_code nl (pc + option_size r.value + 1) rs)) e g.1),
      )

  test_placed : (c : expr.Value) (pc go other : ℕ) → nl + 5 * expr_levels c ≤ room → IsWanted nl c
      → HasAt code pc (test_code nl pc c go other) → TestAt code nl room pc (Some c) go other
  test_placed c pc go other le s h =
      let g = has_cut code pc (expr_size c) (value_code nl pc c) _ (value_long c nl pc) h in
      (temp_of nl 0 c, s.0, value_temp c le, value_placed c pc le s.1 g.0, (first_token c, g.1.0))

  tested_placed : (o : Option expr.Value) (pc go other : ℕ) → nl + 5 * option_levels o ≤ room
      → IsOptionWanted nl o → HasAt code pc (tested_code nl pc o go other) → TestAt code nl room pc o go other
  tested_placed None pc go other le s h = tt
  tested_placed (Some c) pc go other le s h = test_placed c pc go other le s h

  compared_placed : (cs : List (ℤ × ℕ)) (p : Pos) (x y pc other : ℕ) (rest : List Line)
      → HasAt code pc (case_code p x y pc cs ++ line p (Jump (at_label other)) ∷ rest)
      → ComparedAt code nl room p x y pc cs other
  compared_placed [] p x y pc other rest h = (p, h.0)
  compared_placed (c ∷ cs) p x y pc other rest h =
      let e : pc + 1 + 1 ≡ pc + 2 = omega arith in (
        h.0,
        (p, h.1.0),
        compared_placed cs p x y (pc + 2) other rest (subst (λ n. HasAt code n
            (case_code p x y (pc + 2) cs ++ line p (Jump (at_label other)) ∷ rest)) e h.1.1),
      )

  mutual
    pub stmt_placed : (a : stmt.Action) (env : Env) (pc : ℕ) → nl + 5 * stmt_levels a ≤ room → IsStmtSound nl a
        → HasAt code pc (stmt_code nl env pc a) → StmtAt code nl room env pc a
    stmt_placed (stmt.block p ss q) env pc le s h =
        let own = block_locals (listed ss) in
        let from = pc + length own in
        let inner = in_block env from (listed ss) in
        let g = has_cut code pc (length own) (unset_code p own) (stmts_code nl inner from ss) (unset_long own p) h in
        (unset_placed own pc p (block_declared ss nl s) g.0, stmts_placed ss inner from (omega (arith, le)) s g.1)
    stmt_placed (stmt.declare p rs) env pc le s h = declare_placed rs pc (omega (arith, le)) s h
    stmt_placed (stmt.do_expr p v) env pc le s h = option_placed v pc (omega (arith, le)) s h
    stmt_placed (stmt.if_only p c a) env pc le s h =
        let pa = pc + expr_size c + 1 in
        let end = pa + stmt_size a in
        let e : pc + (expr_size c + 1) ≡ pa = omega arith in
        let g = has_cut code pc (expr_size c + 1) (test_code nl pc c pa end) (stmt_code nl env pa a)
        (test_long c nl pc pa end) h in (
          test_placed c pc pa end (omega (arith, le)) s.0 g.0,
          stmt_placed a env pa (omega (arith, le)) s.1
              (subst (λ x. HasAt code x (stmt_code nl env pa a)) e g.1),
        )
    stmt_placed (stmt.if_else p c a b) env pc le s h =
        let pa = pc + expr_size c + 1 in
        let pb = pa + stmt_size a + 1 in
        let e : pc + (expr_size c + 1) ≡ pa = omega arith in
        let jump = line p (Jump (at_label (pb + stmt_size b))) in
        let rest = stmt_code nl env pa a ++ jump ∷ stmt_code nl env pb b in
        let g = has_cut code pc (expr_size c + 1) (test_code nl pc c pa pb) rest (test_long c nl pc pa pb) h in
        let f = has_cut code pa (stmt_size a) (stmt_code nl env pa a) (jump ∷ stmt_code nl env pb b)
        (stmt_long a nl env pa) (subst (λ x. HasAt code x rest) e g.1) in (
          test_placed c pc pa pb (omega (arith, le)) s.0 g.0,
          stmt_placed a env pa (omega (arith, le)) s.1 f.0,
          (p, f.1.0),
          stmt_placed b env pb (omega (arith, le)) s.2 f.1.1,
        )
    stmt_placed (stmt.while p c a) env pc le s h =
        let go = pc + (expr_size c + 1) in
        let end = go + stmt_size a + 0 + 1 in
        let inner = in_loop env (go + stmt_size a) end in
        let z : go + stmt_size a ≡ go + stmt_size a + 0 = omega arith in
        let g = has_cut code pc (expr_size c + 1) (test_code nl pc c go end) _ (test_long c nl pc go end) h in
        let f = has_cut code go (stmt_size a) (stmt_code nl inner go a) _ (stmt_long a nl inner go) g.1 in (
          test_placed c pc go end (omega (arith, le)) s.0 g.0,
          stmt_placed a inner go (omega (arith, le)) s.1 f.0,
          subst (λ x. Does code nl room x (Jump (at_label pc))) z (p, f.1.0),
        )
    stmt_placed (stmt.do_while p a c) env pc le s h =
        let head = pc + 1 in
        let go = head + (expr_size c + 1) in
        let end = go + stmt_size a + 0 + 1 in
        let inner = in_loop env (go + stmt_size a) end in
        let z : go + stmt_size a ≡ go + stmt_size a + 0 = omega arith in
        let g = has_cut code head (expr_size c + 1) (test_code nl head c go end) _ (test_long c nl head go end)
        h.1 in
        let f = has_cut code go (stmt_size a) (stmt_code nl inner go a) _ (stmt_long a nl inner go) g.1 in (
          (p, h.0),
          test_placed c head go end (omega (arith, le)) s.0 g.0,
          stmt_placed a inner go
              (omega (arith, le)) s.1 f.0,
          subst (λ x. Does code nl room x (Jump (at_label head))) z (p, f.1.0),
        )
    stmt_placed (stmt.for p rs u c w a) env pc le s h =
        let head = for_head pc rs u in
        let go = head + test_size c in
        let again = go + stmt_size a in
        let end = again + option_size w + 1 in
        let inner = in_loop env again end in
        let g1 = has_cut code pc (length rs) (unset_code p rs) _ (unset_long rs p) h in
        let g2 = has_cut code (pc + length rs) (declare_size rs) (declare_code nl (pc + length rs) rs) _
        (declare_long rs nl (pc + length rs)) g1.1 in
        let g3 = has_cut code (pc + length rs + declare_size rs) (option_size u)
        (option_code nl (pc + length rs + declare_size rs) u) _ (option_long u nl
        (pc + length rs + declare_size rs)) g2.1 in
        let g4 = has_cut code head (test_size c) (tested_code nl head c go end) _ (tested_long c nl head go end)
        g3.1 in
        let g5 = has_cut code go (stmt_size a) (stmt_code nl inner go a) _ (stmt_long a nl inner go) g4.1 in
        let g6 = has_cut code again (option_size w) (option_code nl again w) _ (option_long w nl again) g5.1 in (
          unset_placed rs pc p s.0 g1.0,
          declare_placed rs (pc + length rs) (omega (arith, le)) s.0 g2.0,
          option_placed u (pc + length rs + declare_size rs) (omega (arith, le)) s.1 g3.0,
          tested_placed c head go
              end (omega (arith, le)) s.2 g4.0,
          stmt_placed a inner go (omega (arith, le)) s.4 g5.0,
          option_placed w
              again (omega (arith, le)) s.3 g6.0,
          (p, g6.1.0),
        )
    stmt_placed (stmt.switch p v (stmt.block q ss r)) env pc le s h =
        let own = block_locals (listed ss) in
        let count = length own in
        let from = switch_first (pc + expr_size v) count ss in
        let end = from + stmts_size ss in
        let inner = in_block (in_switch env end) from (listed ss) in
        let cs = list_cases from (listed ss) in
        let at = pc + expr_size v + count in
        let x = temp_of nl 0 v in
        let y = temp nl 1 0 in
        let n = 2 * length (block_cases (listed ss)) in
        let other = label_or (list_default from (listed ss)) end in
        let lc : length (case_code p x y at cs) ≡ n = case_long cs p x y at
        ∙ ap (λ i. 2 * i) (cases_long (listed ss) from) in
        let lv : nl + 5 * expr_levels v ≤ room = omega (arith, le) in
        let ly : nl + 5 * (1 + 1) ≤ room = omega (arith, le) in
        let g1 = has_cut code pc (expr_size v) (value_code nl pc v) _ (value_long v nl pc) h in
        let g2 = has_cut code (pc + expr_size v) count (unset_code p own) _ (unset_long own p) g1.1 in
        let g3 = has_cut code at n (case_code p x y at cs) (line p (Jump (at_label other))
        ∷ stmts_code nl inner from ss) lc g2.1 in (
          x,
          s.0.0,
          value_temp v lv,
          value_placed v pc lv s.0.1 g1.0,
          unset_placed own (pc + expr_size v) p
              (block_declared ss nl s.1) g2.0,
          (
            y,
            temp_at code nl room 1 0 1 (omega arith) (omega arith) ly,
            compared_placed cs p x y at other (stmts_code nl inner from ss) g2.1,
          ),
          stmts_placed ss inner from
              (omega (arith, le)) s.1 g3.1.1,
        )
    stmt_placed (stmt.switch p v a) env pc le s h =
        let end = pc + expr_size v + 1 + stmt_size a in
        let lv : nl + 5 * expr_levels v ≤ room = omega (arith, le) in
        let g = has_cut code pc (expr_size v) (value_code nl pc v) _ (value_long v nl pc) h in (
          temp_of nl 0 v,
          s.0.0,
          value_temp v lv,
          value_placed v pc lv s.0.1 g.0,
          (p, g.1.0),
          stmt_placed a
              (in_switch env end) (pc + expr_size v + 1) (omega (arith, le)) s.1 g.1.1,
        )
    stmt_placed (stmt.case p n a) env pc le s h = stmt_placed a env pc (omega (arith, le)) s h
    stmt_placed (stmt.default p a) env pc le s h = stmt_placed a env pc (omega (arith, le)) s h
    stmt_placed (stmt.label p l a) env pc le s h = stmt_placed a env pc (omega (arith, le)) s h
    stmt_placed (stmt.goto p l) env pc le s h = (p, h.0)
    stmt_placed (stmt.break p) env pc le s h = (p, h.0)
    stmt_placed (stmt.continue p) env pc le s h = (p, h.0)
    stmt_placed (stmt.return p k None) env pc le s h = h.0
    stmt_placed (stmt.return p k (Some v)) env pc le s h =
        let y = operand nl 0 (local_column k) v in
        let at = operand_at code nl room (local_column k) v 0 (omega (arith, le)) in
        let g = has_cut code pc (expr_size v) (expr_code nl 0 y pc v) _ (expr_long v nl 0 y pc) h in
        (y, s.0, at, expr_placed code nl room v 0 y pc (omega (arith, le)) at s.1 g.0, g.1.0)

    stmts_placed : (ss : stmt.Actions) (env : Env) (pc : ℕ) → nl + 5 * stmts_levels ss ≤ room → AreStmtsSound nl ss
        → HasAt code pc (stmts_code nl env pc ss) → StmtsAt code nl room env pc ss
    stmts_placed stmt.no_actions env pc le s h = tt
    stmts_placed (stmt.action_and a ss) env pc le s h =
        let g = has_cut code pc (stmt_size a) (stmt_code nl env pc a) (stmts_code nl env (pc + stmt_size a) ss)
        (stmt_long a nl env pc) h in (
          stmt_placed a env pc (omega (arith, le)) s.0 g.0,
          stmts_placed ss env (pc + stmt_size a)
              (omega (arith, le)) s.1 g.1,
        )
