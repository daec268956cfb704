-- A step that doesn't go back leaves less to be done.
use Rattle.std.proofs.Common.{◌≡◌, ℕ, zero, suc, ◌+◌, ◌*◌, ◌==◌, ◌≤◌, pos, List, [], ◌∷◌, drop, Option, Some, None}
use Rattle.std.proofs.Common.{refl, ap, ◌∙◌, subst, arith, Bool, true, false, if◌then◌else◌}
use Rattle.std.specs.Prelude.{slice_get}
use Rattle.pungi_base.specs.declared.choice.Choice.{Choice}
use Rattle.pungi_base.specs.declared.names.Name.{Name}
use Rattle.pungi_base.specs.declared.pos.Pos.{Pos}
use Rattle.pungi_base.specs.declared.value.Value.{Value}
use Rattle.pungi_base.specs.declared.value.Value.TheVariants as value
use Rattle.pungi_resolved.specs.Values as expr
use Rattle.pungi_resolved.specs.Actions as stmt
use Rattle.pungi_meaning.specs.declared.op.Op.TheVariants as ops
use Rattle.pungi_meaning.specs.Values.{fits, is_true, arithmetic, number_of}
use Rattle.pungi_meaning.specs.Todo.{Loop, Todo, ToEval, ToLoad, ToOld, ToStep, ToMinus, ToCompute}
use Rattle.pungi_meaning.specs.Todo.{ToFit, ToCompare, ToNot, ToRight, ToTruth, ToPick, ToStore, ToArgs}
use Rattle.pungi_meaning.specs.Todo.{ToOutputs, ToExec, ToForget, ToDeclare, ToBind, ToChoose, ToRest, ToTest}
use Rattle.pungi_meaning.specs.Todo.{ToTurn, ToAgain, ToSwitch, ToSwitchEnd, ToReturn, ToEnd, State, listed}
use Rattle.pungi_meaning.specs.Todo.{ToPostfix, ToEmpty, ToYield}
use Rattle.pungi_meaning.specs.Exprs.{is_wanted, next_arg, evaluate}
use Rattle.pungi_meaning.specs.Jumps.{a_loop, enter, enter_among, found_or, from_label, after_break, after_continue}
use Rattle.pungi_meaning.specs.Stmts.{declare_value, else_part, test_loop_by, turn, evaluate_first, target, enter_at}
use Rattle.pungi_meaning.specs.Stmts.{switch, return_value, next_stmt, execute, test_loop}
use Rattle.pungi_meaning.specs.Run.{at_end, act}
use Rattle.pungi_meaning.specs.Work.{replace_value, replace_two, top, below, or_else, pop_value}
use Rattle.pungi_layout.specs.alike.Weights.{expr_weight, option_weight, bind_weight, declare_weight, again_weight}
use Rattle.pungi_layout.specs.alike.Weights.{turn_weight, tested_weight, stmt_weight, stmts_weight, list_weight}
use Rattle.pungi_layout.specs.alike.Weights.{loop_weight, switch_weight, other_weight, weight}
use Rattle.pungi_layout.proofs.simulation.Calls.{IsNext, is_next}
use Rattle.pungi_layout.proofs.relation.Jumps.{drop_next}
use Rattle.pungi_layout.proofs.simulation.Stmts.{jumps}
use Rattle.pungi_layout.proofs.whole_runs.LessLeftExprs.{AreLight, Leaves, at_most, field_light, old_light, store_light}
use Rattle.pungi_layout.proofs.whole_runs.LessLeftExprs.{computed_light, fit_light, right_light, pick_light}
use Rattle.pungi_layout.proofs.whole_runs.LessLeftExprs.{evaluate_light, arg_light, output_light, stepping_light}

module _ (most : ℕ) where
  -- ---- statements

  list_is : (ss : stmt.Actions) → list_weight (listed ss) ≡ stmts_weight ss
  list_is stmt.no_actions = refl
  list_is (stmt.action_and a ss) = ap (λ n. stmt_weight a + 1 + n) (list_is ss)

  drop_light : (i : ℕ) (block : List stmt.Action) → list_weight (drop i block) ≤ list_weight block
  drop_light zero block = omega arith
  drop_light (suc i) [] = omega arith
  drop_light (suc i) (a ∷ block) = omega (arith, drop_light i block)

  declare_light : (o : Option expr.Value) (r : stmt.DeclaredLocal) (rs : List stmt.DeclaredLocal) (k : List Todo)
      (s : State) → AreLight most k → Leaves most (bind_weight o + declare_weight rs + weight k)
      (declare_value r o rs k s)
  declare_light None r rs k s h = (omega arith, (tt, h))
  declare_light (Some v) r rs k s h = (omega arith, (tt, (tt, (tt, h))))

  started_light : (o : Option expr.Value) (k : List Todo) → AreLight most k
      → (weight (evaluate_first o k) ≤ option_weight o + weight k) × AreLight most (evaluate_first o k)
  started_light None k h = (omega arith, h)
  started_light (Some v) k h = (omega arith, (tt, (tt, h)))

  body_light : (test behind : Option expr.Value) (body n : ℕ) → tested_weight test behind body ≤ n → body ≤ n
  body_light None behind body n h = omega (arith, h)
  body_light (Some c) behind body n h = omega (arith, h)

  tested_light : (test behind : Option expr.Value) (body : stmt.Action) (k : List Todo)
      → loop_weight (a_loop test behind body) ≤ most → AreLight most k
      → (weight (test_loop_by test (a_loop test behind body) k) ≤ loop_weight (a_loop test behind body) + weight k)
      × AreLight most (test_loop_by test (a_loop test behind body) k)
  tested_light None behind body k le h = (omega arith, (body_light None behind (stmt_weight body) most le, (le, h)))
  tested_light (Some c) behind body k le h = (omega arith, (tt, (le, h)))

  turn_light : (c : Bool) (loop : Loop) (n : ℕ) (k : List Todo) (s : State)
      → turn_weight loop.increment (stmt_weight loop.body) + weight k ≤ n → loop_weight loop ≤ most → AreLight most k
      → Leaves most n (pop_value (turn c loop k) s)
  turn_light true loop n k s le hl h = (
    omega (arith, le),
    (
      body_light loop.test loop.increment
          (stmt_weight loop.body) most hl,
      (hl, h),
    ),
  )
  turn_light false loop n k s le hl h = (omega (arith, le), h)

  choose_light : (c : Bool) (a : stmt.Action) (b : Option stmt.Action) (n : ℕ) (k : List Todo) (s : State)
      → stmt_weight a + other_weight b + 1 + weight k ≤ n → stmt_weight a ≤ most → other_weight b ≤ most
      → AreLight most k
      → Leaves most n (pop_value (if c then ToExec a ∷ k else else_part b k) s)
  choose_light true a b n k s le ha hb h = (omega (arith, le), (ha, h))
  choose_light false a None n k s le ha hb h = (omega (arith, le), h)
  choose_light false a (Some b) n k s le ha hb h = (omega (arith, le), (hb, h))

  next_light : (o : Option stmt.Action) (block : List stmt.Action) (i : ℕ) (k : List Todo) (s : State)
      → IsNext block i o (drop i block) → list_weight block ≤ most → AreLight most k
      → Leaves most (list_weight (drop i block) + weight k) (next_stmt block i o k s)
  next_light None block i k s e le h =
      let d : list_weight (drop i block) ≡ 1 = ap list_weight e in (omega (arith, d), h)
  next_light (Some a) block i k s e le h =
      let n : suc i ≡ i + 1 = omega arith in
      let d : list_weight (drop i block) ≡ stmt_weight a + 1 + list_weight (drop (i + 1) block) = ap list_weight e
      ∙ ap (λ j. stmt_weight a + 1 + list_weight (drop j block)) n in
      (omega (arith, d), (omega (arith, d, le, drop_light i block), (le, h)))

  enter_light : (o : Option ℕ) (list : List stmt.Action) (k : List Todo) → list_weight list ≤ most → AreLight most k
      → (weight (enter_at list o k) ≤ list_weight list + 1 + weight k) × AreLight most (enter_at list o k)
  enter_light None list k le h = (omega arith, h)
  enter_light (Some j) list k le h = (omega (arith, drop_light j list), (le, (tt, h)))

  switch_light : (a : stmt.Action) (p : Pos) (v : Value) (k : List Todo) (s : State) → switch_weight a ≤ most
      → AreLight most k → Leaves most (switch_weight a + weight k) (switch p v a k s)
  switch_light (stmt.block q ss r) p v k s le h =
      let e = list_is ss in
      let g = enter_light (target v (listed ss)) (listed ss) k (omega (arith, e, le)) h in (omega (arith, e, g.0), g.1)
  switch_light a p v k s le h = (omega arith, h)

  -- ---- jumps

  break_light : (k : List Todo) → AreLight most k → (weight (after_break k) ≤ weight k) × AreLight most (after_break k)
  break_light [] h = (omega arith, tt)
  break_light (ToEnd p v ∷ k) h = (omega arith, h)
  break_light (ToAgain loop ∷ k) h = (omega arith, h.1)
  break_light (ToSwitchEnd ∷ k) h = (omega arith, h.1)
  break_light (t ∷ k) h = let r = break_light k h.1 in (omega (arith, r.0), r.1)

  continue_light : (k : List Todo) → AreLight most k → (weight (after_continue k) ≤ weight k)
      × AreLight most (after_continue k)
  continue_light [] h = (omega arith, tt)
  continue_light (ToEnd p v ∷ k) h = (omega arith, h)
  continue_light (ToAgain loop ∷ k) h = (omega arith, h)
  continue_light (t ∷ k) h = let r = continue_light k h.1 in (omega (arith, r.0), r.1)

  -- what was found weighs no more than this
  abbrev pub FoundLight : ℕ → Option (List Todo) → Type 0
  FoundLight n None = Unit {0}
  FoundLight n (Some k) = (weight k ≤ n) × AreLight most k

  found_or_light : (n : ℕ) (a b : Option (List Todo)) → FoundLight n a → FoundLight n b → FoundLight n (or_else a b)
  found_or_light n None b h g = g
  found_or_light n (Some k) b h g = h

  found_if : (c : Bool) (n : ℕ) (k : List Todo) (o : Option (List Todo)) → FoundLight n (Some k) → FoundLight n o
      → FoundLight n (if c then Some k else o)
  found_if true n k o h g = h
  found_if false n k o h g = g

  found_more : (m n : ℕ) (o : Option (List Todo)) → m ≤ n → FoundLight m o → FoundLight n o
  found_more m n None le h = tt
  found_more m n (Some k) le h = (omega (arith, le, h.0), h.1)

  again_less : (test behind : Option expr.Value) (body : ℕ)
      → body + again_weight behind ≤ tested_weight test behind body
  again_less None behind body = omega arith
  again_less (Some c) behind body = omega arith

  entered_light : (a : stmt.Action) (l : Name) (k : List Todo) → stmt_weight a ≤ most → AreLight most k
      → FoundLight (stmt_weight a + weight k) (enter l a k)
  entered_light (stmt.label p n a) l k le h =
      found_if (n.0 == l.0) _ (ToExec a ∷ k) (enter l a k) (omega arith, (omega (arith, le), h))
      (found_more (stmt_weight a + weight k) _ (enter l a k) (omega arith) (entered_light a l k
      (omega (arith, le)) h))
  entered_light (stmt.case p n a) l k le h = found_more (stmt_weight a + weight k) _ (enter l a k) (omega arith)
      (entered_light a l k (omega (arith, le)) h)
  entered_light (stmt.default p a) l k le h = found_more (stmt_weight a + weight k) _ (enter l a k) (omega arith)
      (entered_light a l k (omega (arith, le)) h)
  entered_light (stmt.if_only p c a) l k le h =
      found_more (stmt_weight a + weight k) _ (enter l a k) (omega arith) (entered_light a l k (omega (arith, le)) h)
  entered_light (stmt.if_else p c a b) l k le h =
      found_or_light _ (enter l a k) (enter l b k)
      (found_more (stmt_weight a + weight k) _ (enter l a k) (omega arith) (entered_light a l k (omega (arith, le)) h))
      (found_more (stmt_weight b + weight k) _ (enter l b k) (omega arith) (entered_light b l k (omega (arith, le)) h))
  entered_light (stmt.while p c a) l k le h =
      found_more (stmt_weight a + (2 + weight k)) _ (enter l a (ToAgain (a_loop (Some c) None a) ∷ k)) (omega arith)
      (entered_light a l (ToAgain (a_loop (Some c) None a) ∷ k) (omega (arith, le)) (omega (arith, le), h))
  entered_light (stmt.do_while p a c) l k le h =
      found_more (stmt_weight a + (2 + weight k)) _ (enter l a (ToAgain (a_loop (Some c) None a) ∷ k)) (omega arith)
      (entered_light a l (ToAgain (a_loop (Some c) None a) ∷ k) (omega (arith, le)) (omega (arith, le), h))
  entered_light (stmt.for p rs u c w a) l k le h =
      let g = again_less c w (stmt_weight a) in
      found_more (stmt_weight a + (again_weight w + weight k)) _ (enter l a (ToAgain (a_loop c w a) ∷ k))
      (omega (arith, g)) (entered_light a l (ToAgain (a_loop c w a)
      ∷ k) (body_light c w (stmt_weight a) most (omega (arith, le))) (omega (arith, le), h))
  entered_light (stmt.switch p v (stmt.block q ss r)) l k le h = tt
  entered_light (stmt.switch p v a) l k le h =
      found_more (stmt_weight a + (1 + weight k)) (expr_weight v + (stmt_weight a + 2) + 1 + weight k)
      (enter l a (ToSwitchEnd ∷ k)) (omega arith) (entered_light a l (ToSwitchEnd ∷ k) (omega (arith, le))
      (tt, h))
  entered_light (stmt.block p ss q) l k le h = tt
  entered_light (stmt.declare p rs) l k le h = tt
  entered_light (stmt.do_expr p v) l k le h = tt
  entered_light (stmt.goto p n) l k le h = tt
  entered_light (stmt.break p) l k le h = tt
  entered_light (stmt.continue p) l k le h = tt
  entered_light (stmt.return p kind v) l k le h = tt

  among_light : (list block : List stmt.Action) (i : ℕ) (l : Name) (k : List Todo) → drop i block ≡ list
      → list_weight block ≤ most → AreLight most k → FoundLight (list_weight block + weight k)
      (enter_among l block i list k)
  among_light [] block i l k e le h = tt
  among_light (a ∷ list) block i l k e le h =
      let n : suc i ≡ i + 1 = omega arith in
      let d = subst (λ j. drop j block ≡ list) n (drop_next block i a list e) in
      let w1 : list_weight (drop i block) ≡ stmt_weight a + 1 + list_weight list = ap list_weight e in
      let w2 : list_weight (drop (i + 1) block) ≡ list_weight list = ap list_weight d in
      found_or_light (list_weight block + weight k) (enter l a (ToRest block (i + 1) ∷ k))
      (enter_among l block (i + 1) list k)
      (found_more (stmt_weight a + (list_weight (drop (i + 1) block) + weight k)) _
      (enter l a (ToRest block (i + 1) ∷ k)) (omega (arith, w1, w2, drop_light i block))
      (entered_light a l (ToRest block (i + 1) ∷ k) (omega (arith, w1, le, drop_light i block)) (le, h)))
      (among_light list block (i + 1) l k d le h)

  goto_by : (o : Option (List Todo)) (n : ℕ) (other : List Todo) → FoundLight n o
      → (weight other ≤ n) × AreLight most other → (weight (found_or o other) ≤ n) × AreLight most (found_or o other)
  goto_by None n other h r = r
  goto_by (Some k) n other h r = h

  goto_light : (l : Name) (k : List Todo) → AreLight most k
      → (weight (from_label l k) ≤ weight k + most) × AreLight most (from_label l k)
  goto_light l [] h = (omega arith, tt)
  goto_light l (ToEnd p v ∷ k) h = (omega arith, h)
  goto_light l (ToRest block i ∷ k) h =
      let r = goto_light l k h.1 in
      let f = among_light block block 0 l k refl h.0 h.1 in
      let g = goto_by (enter_among l block 0 block k) (weight k + most) (from_label l k)
      (found_more (list_weight block + weight k) _ (enter_among l block 0 block k) (omega (arith, h.0)) f) r in
      (omega (arith, g.0), g.1)
  goto_light l (t ∷ k) h = let r = goto_light l k h.1 in (omega (arith, r.0), r.1)

  returning_light : (o : Option expr.Value) (p : Pos) (k : List Todo) (s : State) → AreLight most k
      → Leaves most (option_weight o + 1 + weight k) (return_value p o k s)
  returning_light None p k s h = tt
  returning_light (Some v) p k s h = (omega arith, (tt, (tt, h)))

  execute_light : (a : stmt.Action) (k : List Todo) (s : State) → stmt_weight a ≤ most → AreLight most k
      → Leaves most (stmt_weight a + weight k + most * jumps (ToExec a ∷ k)) (execute a k s)
  execute_light (stmt.block p ss q) k s le h = let e = list_is ss in (omega (arith, e), (omega (arith, e, le), h))
  execute_light (stmt.declare p rs) k s le h = (omega arith, (tt, h))
  execute_light (stmt.do_expr p v) k s le h = let r = started_light v k h in (omega (arith, r.0), r.1)
  execute_light (stmt.if_only p c a) k s le h = (omega arith, (tt, ((omega (arith, le), omega arith), h)))
  execute_light (stmt.if_else p c a b) k s le h = (omega arith, (tt, ((omega (arith, le), omega (arith, le)), h)))
  execute_light (stmt.while p c a) k s le h = (omega arith, (tt, (omega (arith, le), h)))
  execute_light (stmt.do_while p a c) k s le h = (omega arith, (omega (arith, le), (omega (arith, le), h)))
  execute_light (stmt.for p rs u c w a) k s le h =
      let t = tested_light c w a k (omega (arith, le)) h in
      let r = started_light u (test_loop (a_loop c w a) k) t.1 in (omega (arith, r.0, t.0), (tt, r.1))
  execute_light (stmt.switch p v (stmt.block q ss r)) k s le h = (omega arith, (tt, (omega (arith, le), h)))
  execute_light (stmt.switch p v a) k s le h = (omega arith, (tt, (omega (arith, le), h)))
  execute_light (stmt.case p n a) k s le h = (omega arith, (omega (arith, le), h))
  execute_light (stmt.default p a) k s le h = (omega arith, (omega (arith, le), h))
  execute_light (stmt.label p l a) k s le h = (omega arith, (omega (arith, le), h))
  execute_light (stmt.goto p l) k s le h = let r = goto_light l k h in (omega (arith, r.0), r.1)
  execute_light (stmt.break p) k s le h = let r = break_light k h in (omega (arith, r.0), r.1)
  execute_light (stmt.continue p) k s le h = let r = continue_light k h in (omega (arith, r.0), r.1)
  execute_light (stmt.return p kind v) k s le h = at_most most (return_value p v k s) (omega arith)
      (returning_light v p k s h)

  end_light : (p : Pos) (v : Bool) (n : ℕ) (s : State) → Leaves most n (at_end p v s)
  end_light p true n s = tt
  end_light p false n s = tt

  pub step_light : 1 ≤ most → (choices : List Choice) (k : List Todo) (s : State) → AreLight most k
      → Leaves most (weight k + most * jumps k) (act choices k s)
  step_light some choices [] s h = tt
  step_light some choices (ToEval v ∷ k) s h = at_most most (evaluate choices v k s) (omega arith)
      (evaluate_light most v choices k s h.1)
  step_light some choices (ToLoad p kind tag field ∷ k) s h =
      field_light most (top s.values) choices p kind tag field _ k _ (omega arith) h.1
  step_light some choices (ToOld kind place ∷ k) s h = old_light most place choices kind _ k s (omega arith) h.1
  step_light some choices (ToStep p o kind ∷ k) s h =
      computed_light most (arithmetic o kind (number_of (top s.values)) (pos 1)) p o kind (top s.values)
      (value.Int (pos 1)) replace_value (weight (ToStep p o kind ∷ k) + most * 0) k s (λ os v. (omega arith, h.1))
  step_light some choices (ToPostfix p m kind place ∷ k) s h =
      let r = stepping_light most p m kind place (ToYield (top s.values) ∷ k) (tt, h.1) in (omega (arith, r.0), r.1)
  step_light some choices (ToEmpty kind place ∷ k) s h = (omega arith, (tt, (tt, h.1)))
  step_light some choices (ToYield v ∷ k) s h = (omega arith, h.1)
  step_light some choices (ToMinus p kind ∷ k) s h =
      computed_light most (arithmetic ops.Sub kind (pos 0) (number_of (top s.values))) p ops.Sub kind
      (value.Int (pos 0)) (top s.values) replace_value (weight (ToMinus p kind ∷ k) + most * 0) k s
      (λ os v. (omega arith, h.1))
  step_light some choices (ToCompute p o kind ∷ k) s h =
      computed_light most (arithmetic o kind (number_of (top (below s.values))) (number_of (top s.values))) p o kind
      (top (below s.values)) (top s.values) replace_two
      (weight (ToCompute p o kind ∷ k) + most * 0) k s (λ os v. (omega arith, h.1))
  step_light some choices (ToFit p kind ∷ k) s h = fit_light most (fits kind (number_of (top s.values))) p kind
      (top s.values) _ k s (omega arith) h.1
  step_light some choices (ToCompare p c ∷ k) s h = (omega arith, h.1)
  step_light some choices (ToNot ∷ k) s h = (omega arith, h.1)
  step_light some choices (ToRight on b ∷ k) s h = right_light most (is_wanted on (is_true (top s.values))) on b _ k s
      (omega arith) h.1
  step_light some choices (ToTruth ∷ k) s h = (omega arith, h.1)
  step_light some choices (ToPick a b ∷ k) s h = pick_light most (is_true (top s.values)) a b _ k s (omega arith) h.1
  step_light some choices (ToStore kind place ∷ k) s h = store_light most place choices kind _ k s (omega arith) h.1
  step_light some choices (ToArgs p t args i ∷ k) s h =
      at_most most (next_arg choices p t args i (slice_get args i) k s) (omega arith)
      (arg_light most (slice_get args i) choices p t args i k s (is_next args i) h.1)
  step_light some choices (ToOutputs p steps ∷ k) s h =
      output_light most steps choices p _ k s (omega (arith, some)) h.1
  step_light some choices (ToExec a ∷ k) s h = execute_light a k s h.0 h.1
  step_light some choices (ToForget ∷ k) s h = (omega arith, h.1)
  step_light some choices (ToDeclare [] ∷ k) s h = (omega arith, h.1)
  step_light some choices (ToDeclare (r ∷ rs) ∷ k) s h = at_most most (declare_value r r.value rs k s) (omega arith)
      (declare_light r.value r rs k s h.1)
  step_light some choices (ToBind x ∷ k) s h = (omega arith, h.1)
  step_light some choices (ToChoose a b ∷ k) s h = choose_light (is_true (top s.values)) a b _ k s (omega arith) h.0.0
      h.0.1 h.1
  step_light some choices (ToRest block i ∷ k) s h =
      at_most most (next_stmt block i (slice_get block i) k s) (omega arith)
      (next_light (slice_get block i) block i k s (is_next block i) h.0 h.1)
  step_light some choices (ToTurn loop ∷ k) s h = turn_light (is_true (top s.values)) loop _ k s (omega arith) h.0 h.1
  step_light some choices (ToAgain loop ∷ k) s h =
      let r = started_light loop.increment (ToTest loop ∷ k) (h.0, h.1) in (omega (arith, r.0), r.1)
  step_light some choices (ToTest loop ∷ k) s h =
      let r = tested_light loop.test loop.increment loop.body k h.0 h.1 in (omega (arith, r.0, h.0), r.1)
  step_light some choices (ToSwitch p a ∷ k) s h = at_most most (switch p (top s.values) a k s) (omega arith)
      (switch_light a p (top s.values) k s h.0 h.1)
  step_light some choices (ToSwitchEnd ∷ k) s h = (omega arith, h.1)
  step_light some choices (ToReturn p ∷ k) s h = tt
  step_light some choices (ToEnd p v ∷ k) s h = end_light p v _ s
