-- Where a statement begins, no path reads a temporary before it writes it.
use Rattle.std.proofs.Common.{◌≡◌, inl, inr, ℕ, zero, suc, ◌+◌, ◌*◌, ℤ, List, [], ◌∷◌, ◌++◌, length, Option, Some, None}
use Rattle.std.proofs.Common.{refl, ap, ◌∙◌, subst, arith, Bool, true, false, if◌then◌else◌}
use Rattle.std.specs.Prelude.{slice_get, ◌==◌}
use Rattle.pungi_base.specs.declared.names.Name.{Name}
use Rattle.pungi_base.specs.declared.pos.Pos.{Pos}
use Rattle.pungi_resolved.specs.Values as expr
use Rattle.pungi_resolved.specs.Actions as stmt
use Rattle.pungi_meaning.specs.Stmts.{cases_of, block_cases, is_default}
use Rattle.pungi_meaning.specs.Todo.{listed}
use Rattle.pungi_meaning.specs.Work.{block_locals}
use Rattle.pungi_code.specs.declared.code.Line.{Line}
use Rattle.pungi_code.specs.declared.instr.Instr.TheVariants.{Jump}
use Rattle.pungi_layout.specs.code.Sizes.{expr_size, option_size, declare_size, test_size, stmt_size, stmts_size}
use Rattle.pungi_layout.specs.code.Temporaries.{temp, temp_of, operand, local_column}
use Rattle.pungi_layout.specs.code.ExprCode.{line, at_label, expr_code}
use Rattle.pungi_layout.specs.code.Scopes.{Env, label_or, for_head, stmt_label, list_label, placed_cases, list_cases}
use Rattle.pungi_layout.specs.code.Scopes.{list_default, in_block, in_loop, in_switch}
use Rattle.pungi_layout.specs.code.StmtCode.{unset_code, value_code, option_code, declare_code, test_code, tested_code}
use Rattle.pungi_layout.specs.code.StmtCode.{case_code, stmt_code, stmts_code}
use Rattle.pungi_layout.specs.code.Sound.{IsOptionSound, IsOptionWanted, IsStmtSound, AreStmtsSound}
use Rattle.pungi_layout.specs.liveness.Liveness.{Among, WritesFirst}
use Rattle.pungi_layout.proofs.liveness.FoundPlaces.{or_found, if_found}
use Rattle.pungi_layout.proofs.code.ExprLengths.{expr_long}
use Rattle.pungi_layout.proofs.code.StmtLengths.{unset_long, value_long, option_long, declare_long, test_long}
use Rattle.pungi_layout.proofs.code.StmtLengths.{tested_long, case_long, cases_long, stmt_long}
use Rattle.pungi_layout.proofs.relation.Waiting.{switch_first}
use Rattle.pungi_layout.proofs.relation.Standing.{HasAt, has_cut}
use Rattle.pungi_layout.proofs.liveness.Paths.{more, shorter, by_line, by_last}
use Rattle.pungi_layout.proofs.liveness.Places.{one_more}
use Rattle.pungi_layout.proofs.liveness.Values.{Dead, EnvBelow, dead_at, below_shorter, loop_below, switch_below}
use Rattle.pungi_layout.proofs.liveness.Values.{option_dead, wanted_first, unset_first, declare_dead, test_dead}
use Rattle.pungi_layout.proofs.liveness.Values.{tested_dead, jump_dead, far_jump_dead}

module _ (code : List Line) (nl : ℕ) where
  -- ---- loops

  module _ (p : Pos) (o w : Option expr.Value) (env : Env) (head size : ℕ) (so : IsOptionWanted nl o)
      (sw : IsOptionSound nl w) where
    abbrev body : ℕ
    body = head + test_size o

    abbrev again : ℕ
    again = body + size

    abbrev end : ℕ
    end = again + option_size w + 1

    module _
        (ho : HasAt code head (tested_code nl head o body end))
        (hw : HasAt code again (option_code nl again w))
        (hj : slice_get code (again + option_size w) ≡ Some (line p (Jump (at_label head))))
        (inside : (n : ℕ) → EnvBelow code nl n (in_loop env again end) → Dead code nl n again → Dead code nl n body)
      where
        back_dead : (n : ℕ) → ((m : ℕ) → n ≡ suc m → Dead code nl m head) → Dead code nl n again
        back_dead n next = option_dead code nl w again n sw hw
            (far_jump_dead code nl n (again + option_size w) head p hj next)

        pub loop_dead : (n : ℕ) → EnvBelow code nl n env → Dead code nl n end → Dead code nl n head
        loop_dead zero below next = tt
        loop_dead (suc n) below next =
            let rest = loop_dead n (below_shorter code nl n env below) (shorter code nl n end [] next) in
            let back = back_dead (suc n) (λ m e. subst (λ x. Dead code nl x head) (ap-pred n m e) rest) in
            tested_dead code nl o head end (suc n) so ho
            (inside (suc n) (loop_below code nl (suc n) env again end below next
            back) back) next
          where
            ap-pred : (n m : ℕ) → suc n ≡ suc m → n ≡ m
            ap-pred n m e = omega (arith, e)

        pub again_dead : (n : ℕ) → EnvBelow code nl n env → Dead code nl n end → Dead code nl n again
        again_dead zero below next = tt
        again_dead (suc n) below next =
            let rest = loop_dead n (below_shorter code nl n env below) (shorter code nl n end [] next) in
            back_dead (suc n) (λ m e. subst (λ x. Dead code nl x head) (same n m e) rest)
          where
            same : (n m : ℕ) → suc n ≡ suc m → n ≡ m
            same n m e = omega (arith, e)

        pub inside_dead : (n : ℕ) → EnvBelow code nl n env → Dead code nl n end
            → EnvBelow code nl n (in_loop env again end) × Dead code nl n again
        inside_dead n below next = let back = again_dead n below next in (
          loop_below code nl n env again end below next
              back,
          back,
        )

  -- ---- lists

  any_dead : (n pc : ℕ) (ws : List ℕ) → Dead code nl n pc → WritesFirst code nl n pc ws
  any_dead n pc ws h = more code nl n pc [] ws (λ x m. absurd m) h

  -- each statement of a list begins so, and so does what is after it
  abbrev pub StartsDead : ℕ → ℕ → stmt.Actions → Type 0
  StartsDead n pc stmt.no_actions = Dead code nl n pc
  StartsDead n pc (stmt.action_and a ss) = Dead code nl n pc × StartsDead n (pc + stmt_size a) ss

  pub front : (n pc : ℕ) (ss : stmt.Actions) → StartsDead n pc ss → Dead code nl n pc
  front n pc stmt.no_actions h = h
  front n pc (stmt.action_and a ss) h = h.0

  abbrev pub CasesDead : ℕ → List (ℤ × ℕ) → Type 0
  CasesDead n [] = Unit {0}
  CasesDead n (c ∷ cs) = Dead code nl n c.1 × CasesDead n cs

  both_dead : (n : ℕ) (cs ds : List (ℤ × ℕ)) → CasesDead n cs → CasesDead n ds → CasesDead n (cs ++ ds)
  both_dead n [] ds h g = g
  both_dead n (c ∷ cs) ds h g = (h.0, both_dead n cs ds h.1 g)

  placed_dead : (n pc : ℕ) (cs : List ℤ) → Dead code nl n pc → CasesDead n (placed_cases pc cs)
  placed_dead n pc [] h = tt
  placed_dead n pc (c ∷ cs) h = (h, placed_dead n pc cs h)

  pub cases_dead : (n pc : ℕ) (ss : stmt.Actions) → StartsDead n pc ss → CasesDead n (list_cases pc (listed ss))
  cases_dead n pc stmt.no_actions h = tt
  cases_dead n pc (stmt.action_and a ss) h =
      both_dead n (placed_cases pc (cases_of a)) (list_cases (pc + stmt_size a) (listed ss))
      (placed_dead n pc (cases_of a) h.0) (cases_dead n (pc + stmt_size a) ss h.1)

  default_by : (b : Bool) (n pc past : ℕ) (o : Option ℕ) → Dead code nl n pc → Dead code nl n (label_or o past)
      → Dead code nl n (label_or (if b then Some pc else o) past)
  default_by true n pc past o h g = h
  default_by false n pc past o h g = g

  pub default_dead : (n pc past : ℕ) (ss : stmt.Actions) → StartsDead n pc ss → Dead code nl n past
      → Dead code nl n (label_or (list_default pc (listed ss)) past)
  default_dead n pc past stmt.no_actions h next = next
  default_dead n pc past (stmt.action_and a ss) h next =
      default_by (is_default a) n pc past (list_default (pc + stmt_size a) (listed ss)) h.0
      (default_dead n (pc + stmt_size a) past ss h.1 next)

  -- the comparisons of a `switch`, and the jump after them
  chain_first : (cs : List (ℤ × ℕ)) (p : Pos) (x y pc other n : ℕ) (ws : List ℕ) (rest : List Line) → Among x ws
      → CasesDead n cs → Dead code nl n other
      → HasAt code pc (case_code p x y pc cs ++ line p (Jump (at_label other)) ∷ rest)
      → WritesFirst code nl n pc ws
  chain_first [] p x y pc other n ws rest m cases next h = by_line code nl n pc ws _ h.0 tt
      (any_dead n other ws next, tt)
  chain_first (c ∷ cs) p x y pc other n ws rest m cases next h =
      let e : pc + 1 + 1 ≡ pc + 2 = omega arith in
      let h' = subst (λ k. HasAt code k (case_code p x y (pc + 2) cs ++ line p (Jump (at_label other)) ∷ rest)) e
      h.1.1 in
      by_line code nl n pc ws _ h.0 (inr m, tt) (
        by_line code nl n (pc + 1) (y ∷ ws) _ h.1.0 (inr (inl refl), tt) (
          any_dead n c.1 (y ∷ ws) cases.0,
          (
            chain_first cs p x y (pc + 2) other n (y ∷ ws) rest (inr m) cases.1
                next h',
            tt,
          ),
        ),
        tt,
      )

  -- ---- labels

  label_or_dead : (n other : ℕ) (o : Option ℕ) → ((q : ℕ) → o ≡ Some q → Dead code nl n q) → Dead code nl n other
      → Dead code nl n (label_or o other)
  label_or_dead n other None h next = next
  label_or_dead n other (Some q) h next = h q refl

  -- the labels of a block, where what they lead to is shorter
  module _ (env : Env) (from end : ℕ) (list : List stmt.Action)
      (labels : (n : ℕ) → EnvBelow code nl n (in_block env from list) → Dead code nl n end → (l : Name) (q : ℕ)
      → list_label l from list ≡ Some q → Dead code nl n q)
    where
      pub inner_below : (n : ℕ) → EnvBelow code nl n env → Dead code nl n end
          → EnvBelow code nl n (in_block env from list)
      inner_below zero below next = tt
      inner_below (suc n) below next =
          let next' = shorter code nl n end [] next in
          let rest = inner_below n (below_shorter code nl n env below) next' in (
            below.0,
            below.1,
            λ l. label_or_dead n (env.labels l) (list_label l from list) (labels n rest next' l)
                (below.2 l),
          )

  -- ---- statements

  mutual
    pub stmt_dead : (a : stmt.Action) (env : Env) (pc n : ℕ) → IsStmtSound nl a
        → HasAt code pc (stmt_code nl env pc a) → EnvBelow code nl n env → Dead code nl n (pc + stmt_size a)
        → Dead code nl n pc
    stmt_dead (stmt.block p ss r) env pc n s h below next =
        let own = block_locals (listed ss) in
        let from = pc + length own in
        let list = listed ss in
        let inner = in_block env from list in
        let g = has_cut code pc (length own) (unset_code p own) (stmts_code nl inner from ss) (unset_long own p) h in
        let e : pc + (length own + stmts_size ss) ≡ from + stmts_size ss = omega arith in
        let end = dead_at code nl n _ _ e next in
        let b = inner_below env from (from + stmts_size ss) list (λ m bm nm l q eq. list_label_dead ss inner from m
        s g.1 bm nm l q eq) n below end in
        unset_first code nl own p pc n [] g.0 (front n from ss (starts_dead ss inner from n s g.1 b end))
    stmt_dead (stmt.declare p rs) env pc n s h below next = declare_dead code nl rs pc n s h next
    stmt_dead (stmt.do_expr p v) env pc n s h below next = option_dead code nl v pc n s h next
    stmt_dead (stmt.if_only p c a) env pc n s h below next =
        let pa = pc + expr_size c + 1 in
        let end = pa + stmt_size a in
        let e : pc + (expr_size c + 1) ≡ pa = omega arith in
        let f : pc + (expr_size c + 1 + stmt_size a) ≡ end = omega arith in
        let g = has_cut code pc (expr_size c + 1) (test_code nl pc c pa end) (stmt_code nl env pa a)
        (test_long c nl pc pa end) h in
        let next' = dead_at code nl n _ _ f next in
        test_dead code nl c pc pa end n s.0 g.0 (stmt_dead a env pa n s.1 (subst (λ x. HasAt code x
        (stmt_code nl env pa a)) e g.1) below next') next'
    stmt_dead (stmt.if_else p c a b) env pc n s h below next =
        let pa = pc + expr_size c + 1 in
        let pb = pa + stmt_size a + 1 in
        let end = pb + stmt_size b in
        let e : pc + (expr_size c + 1) ≡ pa = omega arith in
        let d : pc + (expr_size c + 1 + stmt_size a + 1 + stmt_size b) ≡ end = omega arith in
        let rest = stmt_code nl env pa a ++ line p (Jump (at_label end)) ∷ stmt_code nl env pb b in
        let g = has_cut code pc (expr_size c + 1) (test_code nl pc c pa pb) rest (test_long c nl pc pa pb) h in
        let f = has_cut code pa (stmt_size a) (stmt_code nl env pa a) (line p (Jump (at_label end))
        ∷ stmt_code nl env pb b) (stmt_long a nl env pa) (subst (λ x. HasAt code x rest) e g.1) in
        let next' = dead_at code nl n _ _ d next in
        test_dead code nl c pc pa pb n s.0 g.0
        (stmt_dead a env pa n s.1 f.0 below (jump_dead code nl n (pa + stmt_size a) end p
        f.1.0 next')) (stmt_dead b env pb n s.2 f.1.1 below next')
    stmt_dead (stmt.while p c a) env pc n s h below next =
        let go = pc + (expr_size c + 1) in
        let again = go + stmt_size a in
        let end = again + 0 + 1 in
        let inner = in_loop env again end in
        let z : again ≡ again + 0 = omega arith in
        let d : pc + (expr_size c + 1 + stmt_size a + 1) ≡ end = omega arith in
        let g = has_cut code pc (expr_size c + 1) (test_code nl pc c go end) _ (test_long c nl pc go end) h in
        let f = has_cut code go (stmt_size a) (stmt_code nl inner go a) _ (stmt_long a nl inner go) g.1 in
        let j = subst (λ x. slice_get code x ≡ Some (line p (Jump (at_label pc)))) z f.1.0 in
        loop_dead p (Some c) None env pc (stmt_size a) s.0 tt g.0 tt j (λ m bm nm. stmt_dead a inner go m s.1 f.0 bm
        nm) n below (dead_at code nl n _ _ d next)
    stmt_dead (stmt.do_while p a c) env pc n s h below next =
        let head = pc + 1 in
        let go = head + (expr_size c + 1) in
        let again = go + stmt_size a in
        let end = again + 0 + 1 in
        let inner = in_loop env again end in
        let z : again ≡ again + 0 = omega arith in
        let d : pc + (1 + expr_size c + 1 + stmt_size a + 1) ≡ end = omega arith in
        let g = has_cut code head (expr_size c + 1) (test_code nl head c go end) _ (test_long c nl head go end)
        h.1 in
        let f = has_cut code go (stmt_size a) (stmt_code nl inner go a) _ (stmt_long a nl inner go) g.1 in
        let j = subst (λ x. slice_get code x ≡ Some (line p (Jump (at_label head)))) z f.1.0 in
        let i = inside_dead p (Some c) None env head (stmt_size a) s.0 tt g.0 tt j
        (λ m bm nm. stmt_dead a inner go m s.1 f.0 bm nm) n below (dead_at code nl n _ _ d next) in
        jump_dead code nl n pc go p h.0 (stmt_dead a inner go n s.1 f.0 i.0 i.1)
    stmt_dead (stmt.for p rs u c w a) env pc n s h below next =
        let head = for_head pc rs u in
        let go = head + test_size c in
        let again = go + stmt_size a in
        let end = again + option_size w + 1 in
        let inner = in_loop env again end in
        let d : pc + (length rs + declare_size rs + option_size u + test_size c + stmt_size a + option_size w + 1)
        ≡ end = omega arith in
        let g1 = has_cut code pc (length rs) (unset_code p rs) _ (unset_long rs p) h in
        let g2 = has_cut code (pc + length rs) (declare_size rs) (declare_code nl (pc + length rs) rs) _
        (declare_long rs nl (pc + length rs)) g1.1 in
        let g3 = has_cut code (pc + length rs + declare_size rs) (option_size u)
        (option_code nl (pc + length rs + declare_size rs) u) _ (option_long u nl
        (pc + length rs + declare_size rs)) g2.1 in
        let g4 = has_cut code head (test_size c) (tested_code nl head c go end) _ (tested_long c nl head go end)
        g3.1 in
        let g5 = has_cut code go (stmt_size a) (stmt_code nl inner go a) _ (stmt_long a nl inner go) g4.1 in
        let g6 = has_cut code again (option_size w) (option_code nl again w) _ (option_long w nl again) g5.1 in
        let at_head = loop_dead p c w env head (stmt_size a) s.2 s.3 g4.0 g6.0 g6.1.0
        (λ m bm nm. stmt_dead a inner go m s.4 g5.0 bm nm) n below (dead_at code nl n _ _ d next) in
        unset_first code nl rs p pc n [] g1.0 (declare_dead code nl rs (pc + length rs) n s.0 g2.0
        (option_dead code nl u (pc + length rs + declare_size rs) n s.1 g3.0 at_head))
    stmt_dead (stmt.switch p v (stmt.block t ss r)) env pc n s h below next =
        let own = block_locals (listed ss) in
        let list = listed ss in
        let count = length own in
        let from = switch_first (pc + expr_size v) count ss in
        let end = from + stmts_size ss in
        let env' = in_switch env end in
        let inner = in_block env' from list in
        let cs = list_cases from list in
        let at = pc + expr_size v + count in
        let x = temp_of nl 0 v in
        let y = temp nl 1 0 in
        let k = 2 * length (block_cases list) in
        let other = label_or (list_default from list) end in
        let lc : length (case_code p x y at cs) ≡ k = case_long cs p x y at ∙ ap (λ i. 2 * i) (cases_long list from) in
        let d : pc + (expr_size v + (count + k + 1 + stmts_size ss)) ≡ end = omega arith in
        let g1 = has_cut code pc (expr_size v) (value_code nl pc v) _ (value_long v nl pc) h in
        let g2 = has_cut code (pc + expr_size v) count (unset_code p own) _ (unset_long own p) g1.1 in
        let g3 = has_cut code at k (case_code p x y at cs) (line p (Jump (at_label other))
        ∷ stmts_code nl inner from ss) lc g2.1 in
        let next' = dead_at code nl n _ _ d next in
        let below' = switch_below code nl n env end below next' in
        let b = inner_below env' from end list (λ m bm nm l q eq. list_label_dead ss inner from m s.1 g3.1.1 bm nm l
        q eq) n below' next' in
        let starts = starts_dead ss inner from n s.1 g3.1.1 b next' in
        wanted_first code nl v x pc n s.0 g1.0
        (unset_first code nl own p (pc + expr_size v) n (x ∷ []) g2.0
        (chain_first cs p x y at other n (x ∷ []) (stmts_code nl inner from ss) (inl refl)
        (cases_dead n from ss starts) (default_dead n from end ss starts next') g2.1))
    stmt_dead (stmt.switch p v a) env pc n s h below next =
        let end = pc + expr_size v + 1 + stmt_size a in
        let x = temp_of nl 0 v in
        let d : pc + (expr_size v + (1 + stmt_size a)) ≡ end = omega arith in
        let g = has_cut code pc (expr_size v) (value_code nl pc v) _ (value_long v nl pc) h in
        wanted_first code nl v x pc n s.0 g.0 (one_more code nl n (pc + expr_size v) [] x
        (jump_dead code nl n (pc + expr_size v) end p g.1.0 (dead_at code nl n _ _ d next)))
    stmt_dead (stmt.case p m a) env pc n s h below next = stmt_dead a env pc n s h below next
    stmt_dead (stmt.default p a) env pc n s h below next = stmt_dead a env pc n s h below next
    stmt_dead (stmt.label p l a) env pc n s h below next = stmt_dead a env pc n s h below next
    stmt_dead (stmt.goto p l) env pc zero s h below next = tt
    stmt_dead (stmt.goto p l) env pc (suc n) s h below next = by_last code nl n pc [] _ h.0 tt (below.2 l, tt)
    stmt_dead (stmt.break p) env pc zero s h below next = tt
    stmt_dead (stmt.break p) env pc (suc n) s h below next = by_last code nl n pc [] _ h.0 tt (below.0, tt)
    stmt_dead (stmt.continue p) env pc zero s h below next = tt
    stmt_dead (stmt.continue p) env pc (suc n) s h below next = by_last code nl n pc [] _ h.0 tt (below.1, tt)
    stmt_dead (stmt.return p k None) env pc n s h below next = by_line code nl n pc [] _ h.0 tt tt
    stmt_dead (stmt.return p k (Some v)) env pc n s h below next =
        let x = operand nl 0 (local_column k) v in
        let g = has_cut code pc (expr_size v) (expr_code nl 0 x pc v) _ (expr_long v nl 0 x pc) h in
        wanted_first code nl v x pc n s g.0
        (by_line code nl n (pc + expr_size v) (x ∷ []) _ g.1.0 (inr (inl refl), tt) tt)

    pub starts_dead : (ss : stmt.Actions) (env : Env) (pc n : ℕ) → AreStmtsSound nl ss
        → HasAt code pc (stmts_code nl env pc ss) → EnvBelow code nl n env → Dead code nl n (pc + stmts_size ss)
        → StartsDead n pc ss
    starts_dead stmt.no_actions env pc n s h below next = let e : pc + 0 ≡ pc = omega arith in dead_at code nl n _ _ e
        next
    starts_dead (stmt.action_and a ss) env pc n s h below next =
        let q = pc + stmt_size a in
        let e : pc + (stmt_size a + stmts_size ss) ≡ q + stmts_size ss = omega arith in
        let g = has_cut code pc (stmt_size a) (stmt_code nl env pc a) (stmts_code nl env q ss)
        (stmt_long a nl env pc) h in
        let rest = starts_dead ss env q n s.1 g.1 below (dead_at code nl n _ _ e next) in
        (stmt_dead a env pc n s.0 g.0 below (front n q ss rest), rest)

    -- .. the labels in a statement
    label_dead : (a : stmt.Action) (env : Env) (pc n : ℕ) → IsStmtSound nl a → HasAt code pc (stmt_code nl env pc a)
        → EnvBelow code nl n env → Dead code nl n (pc + stmt_size a) → (l : Name) (q : ℕ) → stmt_label l pc a ≡ Some q
        → Dead code nl n q
    label_dead (stmt.label p k a) env pc n s h below next l q e = elim (if_found (k.0 == l.0) pc q
        (stmt_label l pc a) e) [
          | inl same ↦ dead_at code nl n _ _ same (stmt_dead a env pc n s h below next)
          | inr more' ↦ label_dead a env pc n s h below next l q more'
        ]
    label_dead (stmt.case p m a) env pc n s h below next l q e = label_dead a env pc n s h below next l q e
    label_dead (stmt.default p a) env pc n s h below next l q e = label_dead a env pc n s h below next l q e
    label_dead (stmt.if_only p c a) env pc n s h below next l q e =
        let pa = pc + expr_size c + 1 in
        let end = pa + stmt_size a in
        let d : pc + (expr_size c + 1) ≡ pa = omega arith in
        let f : pc + (expr_size c + 1 + stmt_size a) ≡ end = omega arith in
        let g = has_cut code pc (expr_size c + 1) (test_code nl pc c pa end) (stmt_code nl env pa a)
        (test_long c nl pc pa end) h in
        label_dead a env pa n s.1 (subst (λ x. HasAt code x (stmt_code nl env pa a)) d g.1) below
        (dead_at code nl n _ _ f next) l q e
    label_dead (stmt.if_else p c a b) env pc n s h below next l q e =
        let pa = pc + expr_size c + 1 in
        let pb = pa + stmt_size a + 1 in
        let end = pb + stmt_size b in
        let e' : pc + (expr_size c + 1) ≡ pa = omega arith in
        let d : pc + (expr_size c + 1 + stmt_size a + 1 + stmt_size b) ≡ end = omega arith in
        let rest = stmt_code nl env pa a ++ line p (Jump (at_label end)) ∷ stmt_code nl env pb b in
        let g = has_cut code pc (expr_size c + 1) (test_code nl pc c pa pb) rest (test_long c nl pc pa pb) h in
        let f = has_cut code pa (stmt_size a) (stmt_code nl env pa a) (line p (Jump (at_label end))
        ∷ stmt_code nl env pb b) (stmt_long a nl env pa) (subst (λ x. HasAt code x rest) e' g.1) in
        let next' = dead_at code nl n _ _ d next in
        elim (or_found (stmt_label l pa a) (stmt_label l pb b) q e) [
          | inl this ↦ label_dead a env pa n s.1 f.0 below (jump_dead code nl n (pa + stmt_size a) end p f.1.0 next') l
              q this
          | inr that ↦ label_dead b env pb n s.2 f.1.1 below next' l q that
        ]
    label_dead (stmt.while p c a) env pc n s h below next l q e =
        let go = pc + (expr_size c + 1) in
        let again = go + stmt_size a in
        let end = again + 0 + 1 in
        let inner = in_loop env again end in
        let z : again ≡ again + 0 = omega arith in
        let d : pc + (expr_size c + 1 + stmt_size a + 1) ≡ end = omega arith in
        let g = has_cut code pc (expr_size c + 1) (test_code nl pc c go end) _ (test_long c nl pc go end) h in
        let f = has_cut code go (stmt_size a) (stmt_code nl inner go a) _ (stmt_long a nl inner go) g.1 in
        let j = subst (λ x. slice_get code x ≡ Some (line p (Jump (at_label pc)))) z f.1.0 in
        let i = inside_dead p (Some c) None env pc (stmt_size a) s.0 tt g.0 tt j
        (λ m bm nm. stmt_dead a inner go m s.1 f.0 bm nm) n below (dead_at code nl n _ _ d next) in
        label_dead a inner go n s.1 f.0 i.0 i.1 l q e
    label_dead (stmt.do_while p a c) env pc n s h below next l q e =
        let head = pc + 1 in
        let go = head + (expr_size c + 1) in
        let again = go + stmt_size a in
        let end = again + 0 + 1 in
        let inner = in_loop env again end in
        let z : again ≡ again + 0 = omega arith in
        let d : pc + (1 + expr_size c + 1 + stmt_size a + 1) ≡ end = omega arith in
        let g = has_cut code head (expr_size c + 1) (test_code nl head c go end) _ (test_long c nl head go end)
        h.1 in
        let f = has_cut code go (stmt_size a) (stmt_code nl inner go a) _ (stmt_long a nl inner go) g.1 in
        let j = subst (λ x. slice_get code x ≡ Some (line p (Jump (at_label head)))) z f.1.0 in
        let i = inside_dead p (Some c) None env head (stmt_size a) s.0 tt g.0 tt j
        (λ m bm nm. stmt_dead a inner go m s.1 f.0 bm nm) n below (dead_at code nl n _ _ d next) in
        label_dead a inner go n s.1 f.0 i.0 i.1 l q e
    label_dead (stmt.for p rs u c w a) env pc n s h below next l q e =
        let head = for_head pc rs u in
        let go = head + test_size c in
        let again = go + stmt_size a in
        let end = again + option_size w + 1 in
        let inner = in_loop env again end in
        let d : pc + (length rs + declare_size rs + option_size u + test_size c + stmt_size a + option_size w + 1)
        ≡ end = omega arith in
        let g1 = has_cut code pc (length rs) (unset_code p rs) _ (unset_long rs p) h in
        let g2 = has_cut code (pc + length rs) (declare_size rs) (declare_code nl (pc + length rs) rs) _
        (declare_long rs nl (pc + length rs)) g1.1 in
        let g3 = has_cut code (pc + length rs + declare_size rs) (option_size u)
        (option_code nl (pc + length rs + declare_size rs) u) _ (option_long u nl
        (pc + length rs + declare_size rs)) g2.1 in
        let g4 = has_cut code head (test_size c) (tested_code nl head c go end) _ (tested_long c nl head go end)
        g3.1 in
        let g5 = has_cut code go (stmt_size a) (stmt_code nl inner go a) _ (stmt_long a nl inner go) g4.1 in
        let g6 = has_cut code again (option_size w) (option_code nl again w) _ (option_long w nl again) g5.1 in
        let i = inside_dead p c w env head (stmt_size a) s.2 s.3 g4.0 g6.0 g6.1.0
        (λ m bm nm. stmt_dead a inner go m s.4 g5.0 bm nm) n below (dead_at code nl n _ _ d next) in
        label_dead a inner go n s.4 g5.0 i.0 i.1 l q e
    label_dead (stmt.switch p v (stmt.block t ss r)) env pc n s h below next l q e = absurd (cc)
    label_dead (stmt.switch p v a) env pc n s h below next l q e =
        let end = pc + expr_size v + 1 + stmt_size a in
        let d : pc + (expr_size v + (1 + stmt_size a)) ≡ end = omega arith in
        let g = has_cut code pc (expr_size v) (value_code nl pc v) _ (value_long v nl pc) h in
        let next' = dead_at code nl n _ _ d next in
        label_dead a (in_switch env end) (pc + expr_size v + 1) n s.1 g.1.1 (switch_below code nl n env end below next')
        next' l q e
    label_dead a env pc n s h below next l q e = absurd (cc)

    pub list_label_dead : (ss : stmt.Actions) (env : Env) (pc n : ℕ) → AreStmtsSound nl ss
        → HasAt code pc (stmts_code nl env pc ss) → EnvBelow code nl n env → Dead code nl n (pc + stmts_size ss)
        → (l : Name) (q : ℕ)
        → list_label l pc (listed ss) ≡ Some q → Dead code nl n q
    list_label_dead stmt.no_actions env pc n s h below next l q e = absurd (cc)
    list_label_dead (stmt.action_and a ss) env pc n s h below next l q e =
        let r = pc + stmt_size a in
        let e' : pc + (stmt_size a + stmts_size ss) ≡ r + stmts_size ss = omega arith in
        let g = has_cut code pc (stmt_size a) (stmt_code nl env pc a) (stmts_code nl env r ss)
        (stmt_long a nl env pc) h in
        let next' = dead_at code nl n _ _ e' next in
        elim (or_found (stmt_label l pc a) (list_label l r (listed ss)) q e) [
          | inl this ↦ label_dead a env pc n s.0 g.0 below (front n r ss (starts_dead ss env r n s.1 g.1 below
              next')) l q this
          | inr that ↦ list_label_dead ss env r n s.1 g.1 below next' l q that
        ]
