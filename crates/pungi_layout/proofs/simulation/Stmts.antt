-- The code does the statements of a function.
use Rattle.std.proofs.Common.{◌≡◌, ℕ, suc, ◌+◌, ◌*◌, ◌≤◌, ◌⊎◌, List, [], ◌∷◌, length, drop, Option, Some, None, refl}
use Rattle.std.proofs.Common.{sym, ap, ◌∙◌, subst, arith, inl, inr, Bool, true, false, if◌then◌else◌}
use Rattle.std.specs.Prelude.{slice_get, slice_set}
use Rattle.pungi_base.specs.declared.pos.Pos.{Pos}
use Rattle.pungi_base.specs.declared.value.Value.{Value}
use Rattle.pungi_resolved.specs.Values as expr
use Rattle.pungi_resolved.specs.Actions as stmt
use Rattle.pungi_world.specs.declared.content.Content.{Content}
use Rattle.pungi_world.specs.declared.content.Content.TheVariants.{Unset, Holds}
use Rattle.pungi_world.specs.declared.world.World.{World}
use Rattle.pungi_meaning.specs.Values.{is_true}
use Rattle.pungi_meaning.specs.Todo.{Loop, Todo, ToEval, ToOutputs, ToExec, ToForget, ToDeclare, ToBind, ToChoose}
use Rattle.pungi_meaning.specs.Todo.{ToRest, ToTest, ToTurn, ToAgain, ToSwitch, ToSwitchEnd, ToReturn}
use Rattle.pungi_meaning.specs.Todo.{ToEnd, State, Returns, listed}
use Rattle.pungi_meaning.specs.Jumps.{a_loop, from_label, after_break, after_continue}
use Rattle.pungi_meaning.specs.Stmts.{block_cases, declare_value, else_part, test_loop_by, test_loop, turn}
use Rattle.pungi_meaning.specs.Stmts.{evaluate_first, return_value, next_stmt, execute}
use Rattle.pungi_meaning.specs.Run.{act}
use Rattle.pungi_meaning.specs.Work.{block_locals, unset_locals}
use Rattle.pungi_code.specs.declared.code.Line.{Line}
use Rattle.pungi_code.specs.declared.instr.Instr.TheVariants as instr
use Rattle.pungi_code.specs.Registers.{Regs, put, content_of}
use Rattle.pungi_code.specs.Frames.{Rest, leave}
use Rattle.pungi_code.specs.Run.{Around, exec_in}
use Rattle.pungi_code.proofs.Simulation.{ahead}
use Rattle.pungi_layout.specs.code.Parts.{gives}
use Rattle.pungi_layout.specs.code.Sizes.{expr_size, option_size, declare_size, test_size, stmt_size, stmts_size}
use Rattle.pungi_layout.specs.code.ExprCode.{to_var, var, at_label}
use Rattle.pungi_layout.specs.code.Scopes.{Env, in_block, in_loop}
use Rattle.pungi_layout.proofs.relation.Waiting.{Waiting, loop_body, loop_again, loop_end, end_of_loop, join_size}
use Rattle.pungi_layout.proofs.relation.Waiting.{hidden, w, pushed_if}
use Rattle.pungi_layout.proofs.relation.Relation.{Stands, Does, OptionAt, UnsetAt, BindAt, GiveAt, StmtAt, StmtsAt}
use Rattle.pungi_layout.proofs.relation.Relation.{LoopAt, ListAt, Inside, OtherAt, JoinAt}
use Rattle.pungi_layout.proofs.relation.Remaining.{ItemAt, IsAt, at_once, over}
use Rattle.pungi_layout.proofs.relation.Values.{Match, popped, assigned}
use Rattle.pungi_layout.proofs.relation.Steps.{st, Continues, IsDone, first, with_it, set_step, jump_step, branch_step}
use Rattle.pungi_layout.proofs.relation.Steps.{next_of, still, still_item, one, moved}
use Rattle.pungi_layout.proofs.simulation.Calls.{IsNext, is_next}
use Rattle.pungi_layout.proofs.simulation.Exprs.{eval_at, eval_then}
use Rattle.pungi_layout.proofs.relation.Jumps.{break_leads, continue_leads, goto_leads}

-- a `goto` and the turns of a loop go back; each step after a call that writes variables has instructions of its own
abbrev pub jumps : List Todo → ℕ
jumps (ToOutputs p steps ∷ k) = 1
jumps (ToExec (stmt.goto p l) ∷ k) = 1
jumps (ToTest loop ∷ k) = 1
jumps k = 0

module _ (around : Around) (code : List Line) (nl room : ℕ) where
  -- no value waits
  pub none_waits : (ks : List Waiting) (s : State) (m : Regs) → ks ≡ [] → Match code nl room ks s m
      → Match code nl room [] s m
  none_waits ks s m e ma = subst (λ l. Match code nl room l s m) e ma

  -- by one instruction, with no operation
  pub step_to : (k : List Todo) (s : State) (b pc : ℕ) (m : Regs) (to : ℕ) (n : Regs) (env : Env) → b ≤ 1
      → ((j : ℕ) → exec_in around code (suc j) pc m ≡ exec_in around code j to n) → IsAt code nl room env k to []
      → Match code nl room [] s n → Continues around code nl room [] k s b pc m
  step_to k s b pc m to n env le e h ma = one around code nl room [] k s b pc m to n env [] le e h ma

  unset_step : (pc x : ℕ) (m : Regs) → Does code nl room pc (instr.Unset (to_var x)) → (j : ℕ)
      → exec_in around code (suc j) pc m ≡ exec_in around code j (pc + 1) (put (to_var x) Unset m)
  unset_step pc x m d j = first around code nl room pc d.0 (instr.Unset (to_var x)) m d.1 j

  -- ---- locals that hold nothing any more

  pub unset_sim : (rs : List stmt.DeclaredLocal) (pc : ℕ) (ks : List Waiting) (s : State) (m : Regs)
      → UnsetAt code nl room rs pc → Match code nl room ks s m
      → (r : Regs) × ((j : ℕ) → exec_in around code (ahead (length rs) j) pc m
      ≡ exec_in around code j (pc + length rs) r)
      × Match code nl room ks (record s { locals = unset_locals rs s.locals }) r
  unset_sim [] pc ks s m h ma =
      let e : pc ≡ pc + 0 = omega arith in
      (m, λ j. ap (λ x. exec_in around code j x m) e, ma)
  unset_sim (a ∷ rs) pc ks s m h ma =
      let r = unset_sim rs (pc + 1) ks (record s { locals = slice_set s.locals a.number Unset })
      (put (to_var a.number) Unset m) h.2 (assigned code nl room ks s m a.number Unset h.0 ma) in
      let e : pc + 1 + length rs ≡ pc + suc (length rs) = omega arith in (
        r.0,
        λ j. unset_step pc a.number m h.1 (ahead (length rs) j) ∙ r.1 j
            ∙ ap (λ x. exec_in around code j x r.0) e,
        r.2,
      )

  -- ---- parts

  started_at : (o : Option expr.Value) (k : List Todo) (env : Env) (pc : ℕ) → OptionAt code nl room pc o
      → IsAt code nl room env k (pc + option_size o) [] → IsAt code nl room env (evaluate_first o k) pc []
  started_at None k env pc h is = let e : pc + 0 ≡ pc = omega arith in moved around code nl room env k _ _ [] e is
  started_at (Some v) k env pc h is =
      at_once code nl room env (ToEval v ∷ ToForget ∷ k) pc [] (
        h.0,
        h.1,
        h.2,
        at_once code nl room env (ToForget ∷ k) (pc + expr_size v) (pushed_if (gives v) h.0 []) is,
      )

  -- the body of a loop, and its next turn
  body_at : (loop : Loop) (k : List Todo) (env : Env) (head : ℕ) → LoopAt code nl room env head loop
      → IsAt code nl room env k (end_of_loop head loop) []
      → IsAt code nl room (in_loop env (loop_again head loop.test loop.body) (end_of_loop head loop))
      (ToExec loop.body ∷ ToAgain loop ∷ k) (loop_body head loop.test) []
  body_at loop k env head h is =
      let inner = in_loop env (loop_again head loop.test loop.body) (end_of_loop head loop) in
      at_once code nl room inner (ToExec loop.body ∷ ToAgain loop ∷ k) (loop_body head loop.test) [] (
        refl,
        h.1,
        at_once code nl room inner (ToAgain loop ∷ k) (loop_again head loop.test loop.body) []
            (env, head, refl, h, refl, refl, refl, λ l. refl, is),
      )

  -- a loop begins, or goes on, at its head
  tested_at : (test behind : Option expr.Value) (body : stmt.Action) (k : List Todo) (env : Env) (head : ℕ)
      → LoopAt code nl room env head (a_loop test behind body)
      → IsAt code nl room env k (loop_end head test body behind) []
      → (e : Env) × IsAt code nl room e (test_loop_by test (a_loop test behind body) k) head []
  tested_at None behind body k env head h is =
      let e : head + 0 ≡ head = omega arith in
      let inner = in_loop env (loop_again head None body) (loop_end head None body behind) in (
        inner,
        moved around code nl room inner (ToExec body ∷ ToAgain (a_loop None behind body) ∷ k) _ _ [] e
            (body_at (a_loop None behind body) k env head h is),
      )
  tested_at (Some c) behind body k env head h is = (
    env,
    eval_at around code nl room c (ToTurn (a_loop (Some c) behind body) ∷ k) env head h.0.0 [] h.0.1 h.0.2
        h.0.3
        (at_once code nl room env (ToTurn (a_loop (Some c) behind body) ∷ k) (head + expr_size c) (w h.0.0 ∷ [])
        (head, tt, refl, h.0.4, h, is)),
  )

  -- ---- remainders

  pub forget_sim : (k : List Todo) (s : State) (env : Env) (pc : ℕ) (ks : List Waiting) (m : Regs)
      → ItemAt code nl room env (ToForget ∷ k) pc ks → Match code nl room ks s m
      → IsDone around code nl room (act around.choices (ToForget ∷ k) s) 0 pc m
  forget_sim k s env pc ks m h ma = still around code nl room k (record s { values = [] }) pc m env [] h
      (popped code nl room ks s m [] [] ma tt)

  declare_by : (o : Option expr.Value) (r : stmt.DeclaredLocal) (rs : List stmt.DeclaredLocal) (k : List Todo)
      (s : State) (env : Env) (pc : ℕ) (m : Regs) → BindAt code nl room r.number pc o
      → IsAt code nl room env (ToDeclare rs ∷ k) (pc + option_size o + 1) [] → Match code nl room [] s m
      → IsDone around code nl room (declare_value r o rs k s) 0 pc m
  declare_by None r rs k s env pc m h is ma =
      let e : pc + 0 + 1 ≡ pc + 1 = omega arith in
      step_to (ToDeclare rs ∷ k) (record s { locals = slice_set s.locals r.number Unset }) 0 pc m (pc + 1)
      (put (to_var r.number) Unset m) env (omega arith) (unset_step pc r.number m h.1)
      (moved around code nl room env (ToDeclare rs ∷ k) _ _ [] e is) (assigned code nl room [] s m r.number Unset
      h.0 ma)
  declare_by (Some v) r rs k s env pc m h is ma =
      still around code nl room (ToEval v ∷ ToBind r.number ∷ ToDeclare rs ∷ k) s pc m env []
      (eval_at around code nl room v (ToBind r.number ∷ ToDeclare rs ∷ k) env pc h.0 [] h.1 h.2 h.3
      (at_once code nl room env (ToBind r.number ∷ ToDeclare rs ∷ k) (pc + expr_size v) (w h.0 ∷ [])
      (tt, refl, h.4, h.5, is))) ma

  pub declare_sim : (rs : List stmt.DeclaredLocal) (k : List Todo) (s : State) (env : Env) (pc : ℕ)
      (ks : List Waiting) (m : Regs) → ItemAt code nl room env (ToDeclare rs ∷ k) pc ks → Match code nl room ks s m
      → IsDone around code nl room (act around.choices (ToDeclare rs ∷ k) s) 0 pc m
  declare_sim [] k s env pc ks m h ma =
      let e : pc + 0 ≡ pc = omega arith in
      still around code nl room k s pc m env [] (moved around code nl room env k _ _ [] e h.2)
      (none_waits ks s m h.0 ma)
  declare_sim (r ∷ rs) k s env pc ks m h ma =
      let e : pc + (option_size r.value + 1 + declare_size rs)
      ≡ pc + option_size r.value + 1 + declare_size rs = omega arith in
      declare_by r.value r rs k s env pc m h.1.0
      (at_once code nl room env (ToDeclare rs ∷ k) (pc + option_size r.value + 1) []
      (refl, h.1.1, moved around code nl room env k _ _ [] e h.2))
      (none_waits ks s m h.0 ma)

  pub bind_sim : (n : ℕ) (k : List Todo) (x : World) (u : List Pos) (l : List Content) (vs : List Value) (env : Env)
      (pc : ℕ) (ks : List Waiting) (m : Regs) → ItemAt code nl room env (ToBind n ∷ k) pc ks
      → Match code nl room ks (st x u l vs) m → IsDone around code nl room (act around.choices (ToBind n ∷ k)
      (st x u l vs))
      0 pc m
  bind_sim n k x u l vs env pc [] m h ma = absurd h.0
  bind_sim n k x u l vs env pc (hidden q z ∷ ks) m h ma = absurd h.0
  bind_sim n k x u l [] env pc (w a ∷ ks) m h ma = absurd ma.stack
  bind_sim n k x u l (v ∷ vs) env pc (w a ∷ ks) m h ma =
      step_to k (st x u (slice_set l n (Holds v)) vs) 0 pc m (pc + 1) (put (to_var n) (Holds v) m) env (omega arith)
      (set_step around code nl room pc n (var a) m v h.3 ma.stack.0) h.4
      (none_waits ks (st x u (slice_set l n (Holds v)) vs) (put (to_var n) (Holds v) m) h.1
      (assigned code nl room ks (st x u l vs) m n (Holds v) h.2 (popped code nl room (w a ∷ ks) (st x u l (v ∷ vs)) m
      vs ks ma ma.stack.2)))

  -- ---- choices

  joined_at : (b : Option stmt.Action) (env : Env) (pc end : ℕ) → JoinAt code nl room b pc end
      → OtherAt code nl room env b (pc + join_size b) end
      → (pc ≡ end) ⊎ Does code nl room pc (instr.Jump (at_label end))
  joined_at None env pc end h o = let e : pc ≡ pc + 0 = omega arith in inl (e ∙ o)
  joined_at (Some b) env pc end h o = inr h

  other_at : (b : Option stmt.Action) (k : List Todo) (env : Env) (pc end : ℕ) → OtherAt code nl room env b pc end
      → IsAt code nl room env k end [] → IsAt code nl room env (else_part b k) pc []
  other_at None k env pc end o is = moved around code nl room env k end pc [] (sym o) is
  other_at (Some b) k env pc end o is =
      at_once code nl room env (ToExec b ∷ k) pc [] (
        refl,
        o.0,
        moved around code nl room env k end (pc + stmt_size b) [] (sym o.1) is,
      )

  choose_by : (c : Bool) (a : stmt.Action) (b : Option stmt.Action) (k : List Todo) (s : State) (env : Env)
      (pc end : ℕ) (m : Regs) → ((j : ℕ) → exec_in around code (suc j) pc m
      ≡ exec_in around code j (if c then pc + 1 else pc + 1 + stmt_size a + join_size b) m)
      → StmtAt code nl room env (pc + 1) a → JoinAt code nl room b (pc + 1 + stmt_size a) end
      → OtherAt code nl room env b (pc + 1 + stmt_size a + join_size b) end → IsAt code nl room env k end []
      → Match code nl room [] s m → Continues around code nl room [] (if c then ToExec a ∷ k else
      else_part b k) s 0 pc m
  choose_by true a b k s env pc end m e ha j o is ma =
      step_to (ToExec a ∷ k) s 0 pc m (pc + 1) m env (omega arith) e
      (at_once code nl room env (ToExec a ∷ k) (pc + 1) [] (
        refl,
        ha,
        over code nl room env k (pc + 1 + stmt_size a) end [] (joined_at b env (pc + 1 + stmt_size a) end j o) is,
      )) ma
  choose_by false a b k s env pc end m e ha j o is ma =
      step_to (else_part b k) s 0 pc m (pc + 1 + stmt_size a + join_size b) m env (omega arith) e
      (other_at b k env (pc + 1 + stmt_size a + join_size b) end o is) ma

  pub choose_sim : (a : stmt.Action) (b : Option stmt.Action) (k : List Todo) (x : World) (u : List Pos)
      (l : List Content) (vs : List Value) (env : Env) (pc : ℕ) (ks : List Waiting) (m : Regs)
      → ItemAt code nl room env (ToChoose a b ∷ k) pc ks → Match code nl room ks (st x u l vs) m
      → IsDone around code nl room (act around.choices (ToChoose a b ∷ k) (st x u l vs)) 0 pc m
  choose_sim a b k x u l vs env pc [] m h ma = absurd h.1
  choose_sim a b k x u l vs env pc (hidden q z ∷ ks) m h ma = absurd h.1
  choose_sim a b k x u l [] env pc (w q ∷ ks) m h ma = absurd ma.stack
  choose_sim a b k x u l (v ∷ vs) env pc (w q ∷ ks) m h ma =
      choose_by (is_true v) a b k (st x u l vs) env pc h.0 m
      (branch_step around code nl room pc q (pc + 1) (pc + 1 + stmt_size a + join_size b) m v h.3 ma.stack.0)
      h.4 h.5 h.6 h.7
      (none_waits ks (st x u l vs) m h.2 (popped code nl room (w q ∷ ks) (st x u l (v ∷ vs)) m vs ks ma ma.stack.2))

  -- ---- blocks

  next_by : (o : Option stmt.Action) (block : List stmt.Action) (i : ℕ) (list : List stmt.Action) (k : List Todo)
      (s : State) (env outer : Env) (pc end : ℕ) (m : Regs) → IsNext block i o list
      → ListAt code nl room env pc list end → Inside code nl room env outer block end
      → IsAt code nl room outer k end [] → Match code nl room [] s m
      → IsDone around code nl room (next_stmt block i o k s) 0 pc m
  next_by None block i list k s env outer pc end m ne h inside is ma =
      let e = subst (λ x. ListAt code nl room env pc x end) ne h in
      still around code nl room k s pc m outer [] (moved around code nl room outer k end pc [] (sym e) is) ma
  next_by (Some a) block i list k s env outer pc end m ne h inside is ma =
      let g = subst (λ x. ListAt code nl room env pc x end) ne h in
      let e : suc i ≡ i + 1 = omega arith in
      still_item around code nl room (ToExec a ∷ ToRest block (i + 1) ∷ k) s pc m env [] (
        refl,
        g.0,
        subst (λ n. IsAt code nl room env (ToRest block n ∷ k) (pc + stmt_size a) []) e
            (at_once code nl room env (ToRest block (suc i) ∷ k) (pc + stmt_size a) []
            (outer, end, refl, g.1, inside, is)),
      ) ma

  pub rest_sim : (block : List stmt.Action) (i : ℕ) (k : List Todo) (s : State) (env : Env) (pc : ℕ)
      (ks : List Waiting) (m : Regs) → ItemAt code nl room env (ToRest block i ∷ k) pc ks → Match code nl room ks s m
      → IsDone around code nl room (act around.choices (ToRest block i ∷ k) s) 0 pc m
  rest_sim block i k s env pc ks m h ma =
      next_by (slice_get block i) block i (drop i block) k s env h.0 pc h.1 m (is_next block i) h.3 h.4 h.5
      (none_waits ks s m h.2 ma)

  pub list_at : (ss : stmt.Actions) (env : Env) (pc : ℕ) → StmtsAt code nl room env pc ss
      → ListAt code nl room env pc (listed ss) (pc + stmts_size ss)
  list_at stmt.no_actions env pc h = omega arith
  list_at (stmt.action_and a ss) env pc h =
      let e : pc + stmt_size a + stmts_size ss ≡ pc + (stmt_size a + stmts_size ss) = omega arith in (
        h.0,
        subst (λ x. ListAt code nl room env (pc + stmt_size a) (listed ss) x) e
            (list_at ss env (pc + stmt_size a) h.1),
      )

  -- ---- loops

  turn_by : (c : Bool) (loop : Loop) (k : List Todo) (s : State) (env : Env) (pc head : ℕ) (m : Regs)
      → ((j : ℕ) → exec_in around code (suc j) pc m ≡ exec_in around code j (if c then loop_body head loop.test else
      end_of_loop head loop) m) → LoopAt code nl room env head loop
      → IsAt code nl room env k (end_of_loop head loop) [] → Match code nl room [] s m
      → Continues around code nl room [] (turn c loop k) s 0 pc m
  turn_by true loop k s env pc head m e h is ma =
      step_to (ToExec loop.body ∷ ToAgain loop ∷ k) s 0 pc m (loop_body head loop.test) m
      (in_loop env (loop_again head loop.test loop.body) (end_of_loop head loop)) (omega arith) e
      (body_at loop k env head h is) ma
  turn_by false loop k s env pc head m e h is ma = step_to k s 0 pc m (end_of_loop head loop) m env (omega arith) e
      is ma

  pub turn_sim : (loop : Loop) (k : List Todo) (x : World) (u : List Pos) (l : List Content) (vs : List Value)
      (env : Env) (pc : ℕ) (ks : List Waiting) (m : Regs) → ItemAt code nl room env (ToTurn loop ∷ k) pc ks
      → Match code nl room ks (st x u l vs) m → IsDone around code nl room (act around.choices (ToTurn loop ∷ k)
      (st x u l vs)) 0 pc m
  turn_sim loop k x u l vs env pc [] m h ma = absurd h.1
  turn_sim loop k x u l vs env pc (hidden q z ∷ ks) m h ma = absurd h.1
  turn_sim loop k x u l [] env pc (w q ∷ ks) m h ma = absurd ma.stack
  turn_sim loop k x u l (v ∷ vs) env pc (w q ∷ ks) m h ma =
      turn_by (is_true v) loop k (st x u l vs) env pc h.0 m
      (branch_step around code nl room pc q (loop_body h.0 loop.test) (end_of_loop h.0 loop) m v h.3
      ma.stack.0) h.4 h.5
      (none_waits ks (st x u l vs) m h.2 (popped code nl room (w q ∷ ks) (st x u l (v ∷ vs)) m vs ks ma ma.stack.2))

  pub again_sim : (loop : Loop) (k : List Todo) (s : State) (env : Env) (pc : ℕ) (ks : List Waiting) (m : Regs)
      → ItemAt code nl room env (ToAgain loop ∷ k) pc ks → Match code nl room ks s m
      → IsDone around code nl room (act around.choices (ToAgain loop ∷ k) s) 0 pc m
  again_sim loop k s env pc ks m h ma =
      let next = ToTest loop ∷ k in
      let again = loop_again h.1 loop.test loop.body in
      still around code nl room (evaluate_first loop.increment next) s pc m h.0 []
      (moved around code nl room h.0 (evaluate_first loop.increment next) again pc [] (sym h.4)
      (started_at loop.increment next h.0 again h.3.2
      (at_once code nl room h.0 next (again + option_size loop.increment) [] (h.1, refl, h.3.3, h.3, h.8))))
      (none_waits ks s m h.2 ma)

  pub test_sim : (loop : Loop) (k : List Todo) (s : State) (env : Env) (pc : ℕ) (ks : List Waiting) (m : Regs)
      → ItemAt code nl room env (ToTest loop ∷ k) pc ks → Match code nl room ks s m
      → IsDone around code nl room (act around.choices (ToTest loop ∷ k) s) 1 pc m
  test_sim loop k s env pc ks m h ma =
      let r = tested_at loop.test loop.increment loop.body k env h.0 h.3 h.4 in
      step_to (test_loop loop k) s 1 pc m h.0 m r.0 (omega arith) (jump_step around code nl room pc h.0 m h.2) r.1
      (none_waits ks s m h.1 ma)

  pub switch_end_sim : (k : List Todo) (s : State) (env : Env) (pc : ℕ) (ks : List Waiting) (m : Regs)
      → ItemAt code nl room env (ToSwitchEnd ∷ k) pc ks → Match code nl room ks s m
      → IsDone around code nl room (act around.choices (ToSwitchEnd ∷ k) s) 0 pc m
  switch_end_sim k s env pc ks m h ma = still around code nl room k s pc m h.0 [] h.5 (none_waits ks s m h.1 ma)

  -- ---- returns

  returns_so : (go : Rest) (x : World) (u : List Pos) (v : Option Value) (p : Pos) (m : Regs) → m.world ≡ x
      → m.used ≡ u → leave go around.frames m.world v p m.used ≡ leave go around.frames x v p u
  returns_so go x u v p m ew eu = ap (λ y. leave go around.frames y v p m.used) ew
      ∙ ap (λ us. leave go around.frames x v p us) eu

  -- a return without a value
  leaves_empty : (p : Pos) (s : State) (pc : ℕ) (ks : List Waiting) (m : Regs)
      → Stands code nl room pc p (instr.Return None) → Match code nl room ks s m
      → IsDone around code nl room (Returns s.world None p s.used) 0 pc m
  leaves_empty p s pc ks m h ma = λ j.
      first around code nl room pc p (instr.Return None) m h j
      ∙ returns_so (next_of around j) s.world s.used None p m ma.world ma.used

  pub return_sim : (p : Pos) (k : List Todo) (x : World) (u : List Pos) (l : List Content) (vs : List Value)
      (env : Env) (pc : ℕ) (ks : List Waiting) (m : Regs) → ItemAt code nl room env (ToReturn p ∷ k) pc ks
      → Match code nl room ks (st x u l vs) m → IsDone around code nl room (act around.choices (ToReturn p ∷ k)
      (st x u l vs)) 0 pc m
  return_sim p k x u l vs env pc [] m h ma = absurd h.0
  return_sim p k x u l vs env pc (hidden q z ∷ ks) m h ma = absurd h.0
  return_sim p k x u l [] env pc (w q ∷ ks) m h ma = absurd ma.stack
  return_sim p k x u l (v ∷ vs) env pc (w q ∷ ks) m h ma = λ j.
      first around code nl room pc p (instr.Return (Some (var q))) m h.1 j
      ∙ with_it around code nl room (content_of (var q) m.vars) v p
      (λ y. leave (next_of around j) around.frames m.world (Some y) p m.used) ma.stack.0
      ∙ returns_so (next_of around j) x u (Some v) p m ma.world ma.used

  pub end_sim : (p : Pos) (v : Bool) (k : List Todo) (s : State) (env : Env) (pc : ℕ) (ks : List Waiting) (m : Regs)
      → ItemAt code nl room env (ToEnd p v ∷ k) pc ks → Match code nl room ks s m
      → IsDone around code nl room (act around.choices (ToEnd p v ∷ k) s) 0 pc m
  end_sim p true k s env pc ks m h ma = leaves_empty p s pc ks m h.4 ma
  end_sim p false k s env pc ks m h ma = (1, first around code nl room pc p instr.Fall m h.4 0)

  return_stmt_sim : (o : Option expr.Value) (p : Pos) (k : List Todo) (s : State) (env : Env) (pc : ℕ) (m : Regs)
      → GiveAt code nl room p pc o → IsAt code nl room env k (pc + (option_size o + 1)) [] → Match code nl room [] s m
      → IsDone around code nl room (return_value p o k s) 0 pc m
  return_stmt_sim None p k s env pc m h is ma = leaves_empty p s pc [] m h ma
  return_stmt_sim (Some v) p k s env pc m h is ma =
      let e : pc + (expr_size v + 1) ≡ pc + expr_size v + 1 = omega arith in
      still around code nl room (ToEval v ∷ ToReturn p ∷ k) s pc m env []
      (eval_at around code nl room v (ToReturn p ∷ k) env pc h.0 [] h.1 h.2 h.3
      (at_once code nl room env (ToReturn p ∷ k) (pc + expr_size v) (w h.0 ∷ [])
      (tt, h.4, moved around code nl room env k _ _ [] e is))) ma

  -- ---- statements

  pub execute_sim : (a : stmt.Action) (k : List Todo) (s : State) (env : Env) (pc : ℕ) (ks : List Waiting)
      (m : Regs) → ItemAt code nl room env (ToExec a ∷ k) pc ks → Match code nl room ks s m
      → IsDone around code nl room (execute a k s) (jumps (ToExec a ∷ k)) pc m
  execute_sim (stmt.block p ss q) k s env pc ks m h ma =
      let own = block_locals (listed ss) in
      let n = length own in
      let r = unset_sim own pc [] s m h.1.0 (none_waits ks s m h.0 ma) in
      let e : pc + (n + stmts_size ss) ≡ pc + n + stmts_size ss = omega arith in
      let inner = in_block env (pc + n) (listed ss) in
      let list = list_at ss inner (pc + n) h.1.1 in
      record {
        count = n;
        least = omega arith;
        place = pc + n;
        regs = r.0;
        by = r.1;
        stands = (
          inner,
          [],
          at_once code nl room inner (ToRest (listed ss) 0 ∷ k) (pc + n) [] (
            env,
            pc + n + stmts_size ss,
            refl,
            list,
            record { first = pc + n; list = list; breaks = refl; continues = refl; labels = λ l. refl },
            moved around code nl room env k _ _ [] e h.2,
          ),
          r.2,
        );
      }
  execute_sim (stmt.declare p rs) k s env pc ks m h ma =
      still_item around code nl room (ToDeclare rs ∷ k) s pc m env [] (refl, h.1, h.2) (none_waits ks s m h.0 ma)
  execute_sim (stmt.do_expr p v) k s env pc ks m h ma =
      still around code nl room (evaluate_first v k) s pc m env [] (started_at v k env pc h.1 h.2)
      (none_waits ks s m h.0 ma)
  execute_sim (stmt.if_only p c a) k s env pc ks m h ma =
      let end = pc + expr_size c + 1 + stmt_size a in
      let e : pc + (expr_size c + 1 + stmt_size a) ≡ end = omega arith in
      let z : end ≡ end + 0 = omega arith in
      let b = subst (λ x. Does code nl room (pc + expr_size c) (instr.Branch (var h.1.0.0)
      (at_label (pc + expr_size c + 1)) (at_label x))) z h.1.0.4 in
      still around code nl room (ToEval c ∷ ToChoose a None ∷ k) s pc m env []
      (eval_then around code nl room c (ToChoose a None ∷ k) env pc h.1.0.0 [] h.1.0.1 h.1.0.2 h.1.0.3
      (end, tt, refl, b, h.1.1, tt, sym z, moved around code nl room env k _ _ [] e h.2))
      (none_waits ks s m h.0 ma)
  execute_sim (stmt.if_else p c a b) k s env pc ks m h ma =
      let end = pc + expr_size c + 1 + stmt_size a + 1 + stmt_size b in
      let e : pc + (expr_size c + 1 + stmt_size a + 1 + stmt_size b) ≡ end = omega arith in
      still around code nl room (ToEval c ∷ ToChoose a (Some b) ∷ k) s pc m env []
      (eval_then around code nl room c (ToChoose a (Some b) ∷ k) env pc h.1.0.0 [] h.1.0.1 h.1.0.2 h.1.0.3
      (end, tt, refl, h.1.0.4, h.1.1, h.1.2, (h.1.3, refl), moved around code nl room env k _ _ [] e h.2))
      (none_waits ks s m h.0 ma)
  execute_sim (stmt.while p c a) k s env pc ks m h ma =
      let e : pc + (expr_size c + 1 + stmt_size a + 1) ≡ pc + (expr_size c + 1) + stmt_size a + 0 + 1 = omega arith in
      let loop : LoopAt code nl room env pc (a_loop (Some c) None a) = (h.1.0, h.1.1, tt, h.1.2) in
      still around code nl room (ToEval c ∷ ToTurn (a_loop (Some c) None a) ∷ k) s pc m env []
      (eval_then around code nl room c (ToTurn (a_loop (Some c) None a) ∷ k) env pc h.1.0.0 [] h.1.0.1 h.1.0.2
      h.1.0.3 (pc, tt, refl, h.1.0.4, loop, moved around code nl room env k _ _ [] e h.2))
      (none_waits ks s m h.0 ma)
  execute_sim (stmt.do_while p a c) k s env pc ks m h ma =
      let e : pc + (1 + expr_size c + 1 + stmt_size a + 1)
      ≡ pc + 1 + (expr_size c + 1) + stmt_size a + 0 + 1 = omega arith in
      let loop : LoopAt code nl room env (pc + 1) (a_loop (Some c) None a) = (h.1.1, h.1.2, tt, h.1.3) in
      step_to (ToExec a ∷ ToAgain (a_loop (Some c) None a) ∷ k) s 0 pc m (loop_body (pc + 1) (Some c)) m
      (in_loop env (loop_again (pc + 1) (Some c) a) (loop_end (pc + 1) (Some c) a None)) (omega arith)
      (jump_step around code nl room pc (loop_body (pc + 1) (Some c)) m h.1.0)
      (body_at (a_loop (Some c) None a) k env (pc + 1) loop (moved around code nl room env k _ _ [] e h.2))
      (none_waits ks s m h.0 ma)
  execute_sim (stmt.for p rs u c b a) k s env pc ks m h ma =
      let r = unset_sim rs pc [] s m h.1.0 (none_waits ks s m h.0 ma) in
      let head = pc + length rs + declare_size rs + option_size u in
      let e : pc + (length rs + declare_size rs + option_size u + test_size c + stmt_size a + option_size b + 1)
      ≡ head + test_size c + stmt_size a + option_size b + 1 = omega arith in
      let loop : LoopAt code nl room env head (a_loop c b a) = (h.1.3, h.1.4, h.1.5, h.1.6) in
      let next = test_loop (a_loop c b a) k in
      let t = tested_at c b a k env head loop (moved around code nl room env k _ _ [] e h.2) in
      record {
        count = length rs;
        least = omega arith;
        place = pc + length rs;
        regs = r.0;
        by = r.1;
        stands = (
          t.0,
          [],
          at_once code nl room t.0 (ToDeclare rs ∷ evaluate_first u next) (pc + length rs) [] (
            refl,
            h.1.1,
            started_at u next t.0 (pc + length rs + declare_size rs) h.1.2 t.1,
          ),
          r.2,
        );
      }
  execute_sim (stmt.switch p v (stmt.block q ss r)) k s env pc ks m h ma =
      let size = length (block_locals (listed ss)) + 2 * length (block_cases (listed ss)) + 1 + stmts_size ss in
      let e : pc + (expr_size v + size) ≡ pc + expr_size v + size = omega arith in
      still around code nl room (ToEval v ∷ ToSwitch p (stmt.block q ss r) ∷ k) s pc m env []
      (eval_then around code nl room v (ToSwitch p (stmt.block q ss r) ∷ k) env pc h.1.0 [] h.1.1 h.1.2 h.1.3
      (tt, refl, (h.1.4, h.1.5, h.1.6), moved around code nl room env k _ _ [] e h.2)) (none_waits ks s m h.0 ma)
  execute_sim (stmt.switch p v a) k s env pc ks m h ma =
      let e : pc + (expr_size v + (1 + stmt_size a)) ≡ pc + expr_size v + (1 + stmt_size a) = omega arith in
      still around code nl room (ToEval v ∷ ToSwitch p a ∷ k) s pc m env []
      (eval_then around code nl room v (ToSwitch p a ∷ k) env pc h.1.0 [] h.1.1 h.1.2 h.1.3
      (tt, refl, (h.1.4, h.1.5), moved around code nl room env k _ _ [] e h.2)) (none_waits ks s m h.0 ma)
  execute_sim (stmt.case p n a) k s env pc ks m h ma = still_item around code nl room (ToExec a ∷ k) s pc m env []
      (refl, h.1, h.2) (none_waits ks s m h.0 ma)
  execute_sim (stmt.default p a) k s env pc ks m h ma = still_item around code nl room (ToExec a ∷ k) s pc m env []
      (refl, h.1, h.2) (none_waits ks s m h.0 ma)
  execute_sim (stmt.label p l a) k s env pc ks m h ma = still_item around code nl room (ToExec a ∷ k) s pc m env []
      (refl, h.1, h.2) (none_waits ks s m h.0 ma)
  execute_sim (stmt.goto p l) k s env pc ks m h ma =
      let r = goto_leads code nl room l k env _ _ h.2 in
      step_to (from_label l k) s 1 pc m (env.labels l) m r.0 (omega arith) (jump_step around code nl room pc
      (env.labels l) m h.1) r.1 (none_waits ks s m h.0 ma)
  execute_sim (stmt.break p) k s env pc ks m h ma =
      let r = break_leads code nl room k env _ _ h.2 in
      step_to (after_break k) s 0 pc m env.breaks m r.0 (omega arith) (jump_step around code nl room pc env.breaks
      m h.1) r.1 (none_waits ks s m h.0 ma)
  execute_sim (stmt.continue p) k s env pc ks m h ma =
      let r = continue_leads code nl room k env _ _ h.2 in
      step_to (after_continue k) s 0 pc m env.continues m r.0 (omega arith) (jump_step around code nl room pc
      env.continues m h.1) r.1 (none_waits ks s m h.0 ma)
  execute_sim (stmt.return p kind v) k s env pc ks m h ma = return_stmt_sim v p k s env pc m h.1 h.2
      (none_waits ks s m h.0 ma)
