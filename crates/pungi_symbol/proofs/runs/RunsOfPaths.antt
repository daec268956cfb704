-- Back: values of the tokens that fit a state at the end of a path give a run to it, which is as short as the path.
use Rattle.std.proofs.Common.{[], Bool, List, Option, ap, arith, false, get_or, inl, inr, length, length-append, refl}
use Rattle.std.proofs.Common.{subst, suc, sym, true, ℕ, ℤ, ◌++◌, ◌+◌, ◌<◌, ◌∙◌, ◌∷◌, ◌≡◌, ◌≤◌}
use Rattle.std.proofs.Math.ListN.{get_or-append}
use Rattle.std.proofs.lemmas.List.{get_or-append-add, length-replicate}
use Rattle.std.specs.Prelude.{slice_get}
use Rattle.pungi_base.specs.declared.choice.Choice.{Choice}
use Rattle.pungi_base.specs.declared.entry.Entry.{Entry}
use Rattle.pungi_base.specs.declared.pos.Pos.{Pos}
use Rattle.pungi_code.specs.Registers.{Regs}
use Rattle.pungi_code.specs.Run.{start}
use Rattle.pungi_code.specs.declared.code.Code.{Code}
use Rattle.pungi_meaning.specs.Values.{arithmetic}
use Rattle.pungi_symbol.proofs.questions.Firsts.{below_or}
use Rattle.pungi_symbol.proofs.runs.AccountsGrow.{lengthened}
use Rattle.pungi_symbol.proofs.runs.ComputedNodes.{added, go_below, start_below}
use Rattle.pungi_symbol.proofs.runs.Loops.{one_counted, path_round, start_round}
use Rattle.pungi_symbol.proofs.runs.MadeObjects.{came_made}
use Rattle.pungi_symbol.proofs.runs.Paths.{asked_at, at_block, at_later, at_status, can_going, path_below, path_sound}
use Rattle.pungi_symbol.proofs.runs.Paths.{step_back}
use Rattle.pungi_symbol.proofs.runs.Supplied.{Later, Makes, Supplies, count_by, is_coming, later_back, makes}
use Rattle.pungi_symbol.proofs.runs.Supplied.{more_accounts, same_accounts}
use Rattle.pungi_symbol.proofs.steps.ChoicesBack.{AreAlike, alike_back}
use Rattle.pungi_symbol.proofs.steps.ChoicesForAnswers.{not_lacking}
use Rattle.pungi_symbol.proofs.steps.Numbers.{RealFor, result_number}
use Rattle.pungi_symbol.proofs.steps.RunInState.{Linked, Moved, blocks, effort, goes_on, halts, leaves, stays}
use Rattle.pungi_symbol.proofs.steps.StepBack.{came_in}
use Rattle.pungi_symbol.proofs.steps.StepForward.{AreObjectLines, Turned, counts, cuts, moves, turn_moves}
use Rattle.pungi_symbol.specs.answers.SymbolicState.{apply, can}
use Rattle.pungi_symbol.specs.declared.answers.decision.Decision.{Decision}
use Rattle.pungi_symbol.specs.declared.questions.question.Question.{Question}
use Rattle.pungi_symbol.specs.declared.questions.question.Question.TheVariants.{Answers, Base, Computes, Does}
use Rattle.pungi_symbol.specs.declared.questions.question.Question.TheVariants.{Null as AsksNull, Orders, Over}
use Rattle.pungi_symbol.specs.declared.questions.question.Question.TheVariants.{Overwrites, Range, Returns, Same}
use Rattle.pungi_symbol.specs.declared.questions.question.Question.TheVariants.{Stops, Touches, Turn, Unplain}
use Rattle.pungi_symbol.specs.declared.states.computation.Computation.{Computation}
use Rattle.pungi_symbol.specs.declared.states.known.Known.{Known}
use Rattle.pungi_symbol.specs.declared.states.mark.Mark.{Mark}
use Rattle.pungi_symbol.specs.declared.states.mark.Mark.TheVariants.{IsNull}
use Rattle.pungi_symbol.specs.declared.states.obstacle.Obstacle.{Obstacle}
use Rattle.pungi_symbol.specs.declared.states.state.State.{State}
use Rattle.pungi_symbol.specs.questions.NextQuestion.{ask}
use Rattle.pungi_symbol.specs.runs.Fits.{FitsState, IsSound}
use Rattle.pungi_symbol.specs.runs.Paths.{IsAt, IsShort, Path, argument_count, choice_of, no_computation, path_here}
use Rattle.pungi_symbol.specs.runs.Paths.{path_on, run_for, start_state, table_of}
use Rattle.pungi_symbol.specs.runs.RunInState.{Lies}
use Rattle.pungi_symbol.specs.states.Known.{count}
use Rattle.pungi_symbol.specs.states.Terms.{Table, at, computed_at, sum_value}
use Rattle.pungi_symbol.specs.states.Turns.{is_bounded, stepped}
use Rattle.pungi_world.specs.Choices.{value_of}
use Rattle.pungi_world.specs.World.{fresh_account}
use Rattle.pungi_symbol.specs.declared.states.obstacle.Obstacle.TheVariants as obstacle
use Rattle.pungi_symbol.specs.declared.states.known.Status.TheVariants as status

abbrev pub result_of : Table → Computation → Option ℤ
result_of table c = arithmetic c.op c.kind (sum_value table c.a) (sum_value table c.b)

-- the numbers of a table are those that the operators of these computations give
abbrev pub AreReal : Table → List Computation → Type 0
AreReal table cs = (j : ℕ) → j < length cs
    → computed_at table j ≡ result_number (result_of table (get_or cs j no_computation))

real_before : (table : Table) (cs more : List Computation) → AreReal table (cs ++ more) → AreReal table cs
real_before table cs more real j lt =
    let e = length-append cs more in
    real j (omega (arith, lt, e))
    ∙ ap (λ c. result_number (result_of table c)) (get_or-append cs more no_computation j lt)

real_for : (table : Table) (k : Known) (q : Question) → AreReal table (k.computed ++ added q) → RealFor table k q
real_for table k (Computes kind o a b) real =
    let c : Computation = record { kind = kind; op = o; a = a; b = b } in
    let e = length-append k.computed (c ∷ []) in
    let here : length k.computed + 0 ≡ length k.computed = omega arith in
    real (length k.computed) (omega (arith, e)) ∙ ap (λ x. result_number (result_of table x))
    (ap (λ z. get_or (k.computed ++ c ∷ []) z no_computation) (sym here)
    ∙ get_or-append-add k.computed (c ∷ []) 0 no_computation)
real_for table k (Does d) real = tt
real_for table k (Touches r) real = tt
real_for table k (Overwrites r) real = tt
real_for table k (AsksNull t) real = tt
real_for table k (Base t u i) real = tt
real_for table k (Answers x) real = tt
real_for table k (Same t u) real = tt
real_for table k (Orders x y) real = tt
real_for table k (Range kind x) real = tt
real_for table k Unplain real = tt
real_for table k Turn real = tt
real_for table k (Returns x) real = tt
real_for table k (Stops d) real = tt
real_for table k Over real = tt

module _ (code : Code) (statics f : ℕ) (form : AreObjectLines statics code.instrs) (entry : Entry)
    (choices : List Choice) (computed : List ℤ) (sound : IsSound (start_state statics f code))
    (linked : Linked (table_of statics entry choices computed) (statics + argument_count code) choices)
    (started : Lies code.instrs (table_of statics entry choices computed) (statics + argument_count code)
    (start code entry) (start_state statics f code)) where
  module _ (top : ℕ) (last : List Mark) (made : List ℕ)
      (supplies : Supplies (table_of statics entry choices computed) (statics + argument_count code) entry.objects
      choices top last made) where
    abbrev T' : Table
    T' = table_of statics entry choices computed

    abbrev B' : ℕ
    B' = statics + argument_count code

    abbrev Come : State → State → List ℕ → Type 0
    Come = Makes code statics entry choices computed linked top last made supplies

    abbrev Late : State → Type 0
    Late = Later code statics entry choices computed linked top last made supplies

    -- a code with loops is followed for at most as many instructions as are counted, and a return
    pub record Stands (n long : ℕ) (s : State) : Type 0 where
      pub m : Regs
      pub lies : Lies code.instrs T' B' m s
      pub is_at : IsAt code entry choices n T' m s.known.pc s.known.status
      pub accounts : length m.world.accounts ≡ entry.objects + length s.known.made
      pub in_time : n ≤ long
      pub short : 0 < length code.heads → n ≤ s.known.turns.steps + 1
      pub shorter : 0 < length code.heads → s.known.status ≡ status.Going → n ≤ s.known.turns.steps

    module _ (n long : ℕ) (s s' : State) (m : Regs) (g : IsAt code entry choices n T' m s.known.pc status.Going)
        (came : List ℕ) (k : Come s s' came) (l : Lies code.instrs T' B' m s)
        (accounts : length m.world.accounts ≡ entry.objects + length s.known.made) (le : n ≤ long)
        (counted : 0 < length code.heads → n ≤ s.known.turns.steps) where
      still : Lies code.instrs T' B' m s' → length m.world.accounts ≡ entry.objects + length s'.known.made
      still = same_accounts code statics entry choices computed linked top last made supplies s s' came k m l accounts

      stands_still : s'.known.pc ≡ s.known.pc → s'.known.status ≡ status.Going
          → s'.known.turns.steps ≡ s.known.turns.steps → Lies code.instrs T' B' m s' → Stands n (suc long) s'
      stands_still pc going steps l' = record {
        m = m;
        lies = l';
        is_at = at_status code statics entry choices computed n m s'.known.pc s'.known.status
            status.Going going (subst (λ z. IsAt code entry choices n T' m z status.Going) (sym pc) g);
        accounts = still l';
        in_time = omega (arith, le);
        short = λ there. let c = counted there in omega (arith, c, steps);
        shorter = λ there h. let c = counted there in omega (arith, c, steps);
      }

      stands_blocked : (o0 : Obstacle) (p0 : Pos) → s'.known.pc ≡ s.known.pc
          → s'.known.status ≡ status.Blocked o0 p0 → s'.known.turns.steps ≡ s.known.turns.steps
          → Lies code.instrs T' B' m s' → Stands n (suc long) s'
      stands_blocked o0 p0 pc e0 steps l' = record {
        m = m;
        lies = l';
        is_at = at_block code statics entry choices computed n m s.known.pc s'.known.pc
            s'.known.status o0 p0 pc e0 g;
        accounts = still l';
        in_time = omega (arith, le);
        short = λ there. let c = counted there in omega (arith, c, steps);
        shorter = λ there h. let c = counted there in omega (arith, c, steps);
      }

      after_turn : Turned code.instrs T' B' s m s' → (k : ℕ) × Stands k (suc long) s'
      after_turn (counts pc going steps less l') = (n, stands_still pc going steps l')
      after_turn (cuts p0 pc e0 steps l') = (n, stands_blocked obstacle.Loop p0 pc e0 steps l')

      after_move : (0 < length code.heads → (stepped s.known.turns).steps ≡ s.known.turns.steps + 1)
          → Moved choices code.instrs T' B' s.known.pc s.known.turns (effort s.known) m s'
          → (k : ℕ) × Stands k (suc long) s'
      after_move one (stays pc going steps less l') = (n, stands_still pc going steps l')
      after_move one (goes_on m' more e going turns l') =
          let counted_on : 0 < length code.heads → n + 1 ≤ s'.known.turns.steps = λ there.
          let c = counted there in
          let o = one there in
          let t = ap (λ u. u.steps) turns in
          omega (arith, c, o, t) in (
            n + 1,
            record {
              m = m';
              lies = l';
              is_at = at_status code statics entry choices computed (n + 1) m' s'.known.pc
                  s'.known.status status.Going going (at_later code statics entry choices computed n m m' s.known.pc
                  s'.known.pc status.Going g e);
              accounts = more_accounts code statics entry choices computed linked top last made supplies s s' came k m l
                  accounts m' l'
                  (lengthened choices m code.instrs s.known.pc s'.known.pc m' e);
              in_time = omega (arith, le);
              short = λ there. let c = counted_on there in omega (arith, c);
              shorter = λ there h. counted_on there;
            },
          )
      after_move one (leaves p0 x e0 steps e l') = (
        n + 1,
        record {
          m = m;
          lies = l';
          is_at = at_status code statics entry choices computed (n + 1) m s'.known.pc
              s'.known.status (status.Returned p0 x) e0 (at_later code statics entry choices computed n m m s.known.pc
              s'.known.pc (status.Returned p0 x) g e);
          accounts = still l';
          in_time = omega (arith, le);
          short = λ there. let c = counted there in omega (arith, c, steps);
          shorter = λ there h. absurd (let bad : status.Returned p0 x ≡ status.Going = sym e0 ∙ h in cc);
        },
      )
      after_move one (blocks o0 p0 pc e0 steps l') = (n, stands_blocked o0 p0 pc e0 steps l')
      after_move one (halts p0 e0 steps e l') = (
        n + 1,
        record {
          m = m;
          lies = l';
          is_at = at_status code statics entry choices computed (n + 1) m s'.known.pc
              s'.known.status (status.Stopped p0) e0 (at_later code statics entry choices computed n m m s.known.pc
              s'.known.pc (status.Stopped p0) g e);
          accounts = still l';
          in_time = omega (arith, le);
          short = λ there. let c = counted there in omega (arith, c, steps);
          shorter = λ there h. absurd (let bad : status.Stopped p0 ≡ status.Going = sym e0 ∙ h in cc);
        },
      )

    abbrev Start : State
    Start = start_state statics f code

    -- one more state on the path: a bound is met before the instruction, or not
    stands_on : (ds : List Decision) (s : State) (d : Decision) (p : Path code.instrs Start ds s)
        → (c : can s (ask code.instrs s.known) d ≡ true)
        → FitsState T' (apply (slice_get code.instrs s.known.pc) (ask code.instrs s.known) d s)
        → Come s (apply (slice_get code.instrs s.known.pc) (ask code.instrs s.known) d s)
        (came_made (ask code.instrs s.known) d (count s.known))
        → RealFor T' s.known (ask code.instrs s.known)
        → AreAlike last (apply (slice_get code.instrs s.known.pc) (ask code.instrs s.known) d s).known.marks
        → (before : (n : ℕ) × Stands n (length ds) s) → (b : Bool) → is_bounded s.known.turns s.known.pc ≡ b
        → (n : ℕ) × Stands n (suc (length ds))
        (apply (slice_get code.instrs s.known.pc) (ask code.instrs s.known) d s)
    stands_on ds s d p c fits k real alike before true met =
        let line = slice_get code.instrs s.known.pc in
        let q = ask code.instrs s.known in
        let r = path_sound code.instrs statics form Start sound refl ds s p in
        let b = step_back code.instrs statics form s r.0 r.1 T' d c fits in
        let going = can_going code.instrs s d c in
        let st = before.1 in
        let g : IsAt code entry choices before.0 T' st.m s.known.pc status.Going = subst
        (IsAt code entry choices before.0 T' st.m s.known.pc) going st.is_at in
        let mv = turn_moves choices code.instrs T' B' st.m s going r.0 st.lies met in
        after_turn before.0 (length ds) s (apply line q d s) st.m g (came_made q d (count s.known)) k
        st.lies st.accounts st.in_time
        (λ there. st.shorter there going)
        (subst (λ z. Turned code.instrs T' B' s st.m (apply line q z s)) b.1 mv.1)
    stands_on ds s d p c fits k real alike before false free =
        let line = slice_get code.instrs s.known.pc in
        let q = ask code.instrs s.known in
        let r = path_sound code.instrs statics form Start sound refl ds s p in
        let b = step_back code.instrs statics form s r.0 r.1 T' d c fits in
        let going = can_going code.instrs s d c in
        let many = count_by line q d s in
        let st = before.1 in
        let le = k.there in
        let g : IsAt code entry choices before.0 T' st.m s.known.pc status.Going = subst
        (IsAt code entry choices before.0 T' st.m s.known.pc) going st.is_at in
        let round = path_round code.heads code.instrs statics form Start sound refl (start_round statics f code) ds s
        p in
        elim (moves choices code.instrs T' B' st.m s going r.0 st.lies free linked real (subst
        (λ z. AreObjectLines z code.instrs) (sym r.1) form)) [
          | inl x ↦ absurd (not_lacking st.m.world choices (length st.m.used) q x.2 (λ one.
              let used = st.lies.used in
              let room : B' + length st.m.used < top = omega (arith, used, many, one, le) in
              let there = supplies.there (length st.m.used) room in
              let here : at T' (count s.known) ≡ value_of there.0 = ap (at T') (sym used)
              ∙ linked (length st.m.used) there.0 there.1 in
              let asked = asked_at code.instrs statics form s r.0 r.1 d c in
              let by : there.0 ≡ choice_of (get_or (apply line q d s).known.marks (count s.known) IsNull)
              (value_of there.0) = there.2
              ∙ ap (λ t. choice_of (get_or last t IsNull) (value_of there.0)) used
              ∙ alike (count s.known) (omega (arith, many, one)) (value_of there.0) in (
                there.0,
                there.1,
                came_in T' s r.0 line q d there.0 st.m.world asked c fits here
                    (is_coming code statics entry choices computed linked top last made supplies line q d s st.m
                    st.lies st.accounts fits k asked (value_of there.0) here) by,
              )))
          | inr mv ↦ after_move before.0 (length ds) s (apply line q d s) st.m g (came_made q d (count s.known)) k
              st.lies st.accounts st.in_time
              (λ there. st.shorter there going)
              (λ there. one_counted code.heads s.known.turns round.knows s.known.pc there free)
              (subst (λ z. Moved choices code.instrs T' B' s.known.pc s.known.turns (effort s.known) st.m
              (apply line q z s)) b.1 mv.1)
        ]

    pub stands : (ds : List Decision) (s : State) → Path code.instrs Start ds s → FitsState T' s
        → AreReal T' s.known.computed → count s.known ≤ top → Late s → AreAlike last s.known.marks
        → (n : ℕ) × Stands n (length ds) s
    stands ds s path_here fits real le later alike = (
      0,
      record {
        m = start code entry;
        lies = started;
        is_at = record
            { machine = refl; ends = λ fuel. ap (run_for code entry choices) (omega arith) };
        accounts = (let e = length-replicate entry.objects fresh_account in omega (arith, e));
        in_time = omega arith;
        short = λ there. omega arith;
        shorter = λ there h. omega arith;
      },
    )
    stands _ _ (path_on ds s d p c) fits real le later alike =
        let line = slice_get code.instrs s.known.pc in
        let q = ask code.instrs s.known in
        let r = path_sound code.instrs statics form Start sound refl ds s p in
        let b = step_back code.instrs statics form s r.0 r.1 T' d c fits in
        let many = count_by line q d s in
        let below = path_below code.instrs statics form Start sound refl (start_below statics f code) ds s p in
        let grown = (go_below line s.known q d (asked_at code.instrs statics form s r.0 r.1 d c) below.0).0 in
        let all : AreReal T' (s.known.computed ++ added q) = subst (AreReal T') grown real in
        let before = stands ds s p b.0 (real_before T' s.known.computed (added q) all) (omega (arith, many, le))
        (later_back code statics entry choices computed linked top last made supplies line q d s later)
        (alike_back last line q d s (asked_at code.instrs statics form s r.0 r.1 d c) c alike) in
        stands_on ds s d p c fits
        (makes code statics entry choices computed linked top last made supplies line q d s r.0 le later)
        (real_for T' s.known q all) alike before
        (is_bounded s.known.turns s.known.pc) refl

    -- the run is as short as the path
    pub is_short : (n long : ℕ) (ds : List Decision) (s : State) → Path code.instrs Start ds s → Stands n long s
        → IsShort code n
    is_short n long ds s p st = elim (below_or 0 (length code.heads)) [
      | inl there ↦
          let round = path_round code.heads code.instrs statics form Start sound refl (start_round statics f code) ds
          s p in
          let few = round.knows.few in
          let h = st.short there in
          inr (omega (arith, few, h))
      | inr none ↦ inl (omega (arith, none))
    ]
