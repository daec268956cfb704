-- Whole runs and paths: forward and back.
use Rattle.std.proofs.Common.{◌≡◌, ℕ, zero, suc, ◌+◌, ◌<◌, ◌≤◌, ℤ, pos, List, [], ◌∷◌, ◌++◌, length, get_or, Bool, true}
use Rattle.std.proofs.Common.{false, refl, sym, ap, length-append}
use Rattle.std.proofs.Common.{◌∙◌, subst, arith, inl, inr, Option, None, Some, cond}
use Rattle.std.specs.Prelude.{slice_get}
use Rattle.pungi_base.specs.declared.choice.Choice.{Choice}
use Rattle.pungi_base.specs.declared.pos.Pos.{Pos}
use Rattle.pungi_code.specs.declared.code.Line.{Line}
use Rattle.pungi_code.specs.declared.registers.After.TheVariants as after
use Rattle.pungi_code.specs.Registers.{Regs}
use Rattle.pungi_symbol.specs.declared.answers.decision.Decision.{Decision}
use Rattle.pungi_symbol.specs.declared.states.known.Status.TheVariants as status
use Rattle.pungi_symbol.specs.declared.states.obstacle.Obstacle.{Obstacle}
use Rattle.pungi_symbol.specs.declared.questions.question.Question.{Question}
use Rattle.pungi_symbol.specs.declared.questions.question.Question.TheVariants.{Does, Touches, Overwrites}
use Rattle.pungi_symbol.specs.declared.questions.question.Question.TheVariants.{Null as AsksNull, Base, Answers, Same}
use Rattle.pungi_symbol.specs.declared.questions.question.Question.TheVariants.{Orders, Range, Computes, Unplain, Turn}
use Rattle.pungi_symbol.specs.declared.questions.question.Question.TheVariants.{Returns}
use Rattle.pungi_symbol.specs.declared.questions.question.Question.TheVariants.{Stops, Over}
use Rattle.pungi_symbol.specs.declared.states.state.State.{State}
use Rattle.pungi_symbol.specs.declared.states.term.Term.{Term}
use Rattle.std.proofs.Math.ListN.{get_or-append}
use Rattle.std.proofs.lemmas.List.{get_or-append-add}
use Rattle.pungi_meaning.specs.Values.{arithmetic}
use Rattle.pungi_code.specs.declared.instr.Instr.{Instr}
use Rattle.pungi_symbol.specs.states.Terms.{Table, sum_value}
use Rattle.pungi_symbol.specs.runs.Fits.{FitsState, IsSound}
use Rattle.pungi_code.specs.WellFormed.{is_there, atoms_of}
use Rattle.pungi_symbol.specs.runs.RunInState.{answer, Lies}
use Rattle.std.specs.Prelude.{nat_lt}
use Rattle.std.specs.List.{list_all}
use Rattle.pungi_base.specs.declared.entry.Entry.{Entry}
use Rattle.pungi_meaning.specs.Run as run
use Rattle.pungi_code.specs.declared.code.Code.{Code}
use Rattle.pungi_code.specs.Run.{exec, start}
use Rattle.pungi_code.specs.Machine.{Reaches}
use Rattle.pungi_symbol.specs.declared.states.known.Status.{Status}
use Rattle.pungi_symbol.specs.questions.NextQuestion.{ask, asks_line, asks_turn, ask_while}
use Rattle.pungi_symbol.specs.answers.KnownAfter.{go, instr_of}
use Rattle.pungi_symbol.specs.answers.SymbolicState.{can, apply, apply_same, are_one, merge_classes, class_of}
use Rattle.pungi_symbol.specs.runs.Paths.{values_of, table_of, argument_count, known_at, start_state, Asked, asked_here}
use Rattle.pungi_symbol.specs.runs.Paths.{asked_on}
use Rattle.pungi_symbol.specs.runs.Paths.{Path, path_here, path_on, run_for, led_of, EndsFrom, IsAt, Meets}
use Rattle.pungi_symbol.specs.runs.Paths.{IsBlocked, returned_value}
use Rattle.pungi_symbol.specs.runs.OneInstruction.{Led, leads_at, led_on, machine_at}
use Rattle.pungi_symbol.proofs.steps.OneInstruction.{exec_step}
use Rattle.pungi_symbol.proofs.steps.RunInState.{stays, goes_on, leaves, blocks, halts, effort, Linked}
use Rattle.pungi_symbol.proofs.steps.StepForward.{AreObjectLines, going_ask, moves_on}
use Rattle.pungi_symbol.proofs.steps.Questions.{IsAsked, asked_line, asked_turn}
use Rattle.pungi_symbol.proofs.steps.SoundAfter.{apply_sound}
use Rattle.pungi_symbol.proofs.steps.StepBack.{apply_back}
use Rattle.pungi_symbol.proofs.steps.Numbers.{RealFor, result_number}
use Rattle.pungi_symbol.proofs.runs.ComputedNodes.{StateBelow, added, apply_below, go_below, start_below}
use Rattle.pungi_symbol.proofs.runs.SameNumbers.{sum_agrees, lies_agrees}

going_by : (s : State) (q : Question) (d : Decision) (z : Status) → can s (ask_while z q) d ≡ true → z ≡ status.Going
going_by s q d status.Going c = refl
going_by s q d (status.Returned p x) c = absurd (let bad : false ≡ true = c in cc)
going_by s q d (status.Stopped p) c = absurd (let bad : false ≡ true = c in cc)
going_by s q d (status.Blocked o p) c = absurd (let bad : false ≡ true = c in cc)

pub can_going : (code : List Line) (s : State) (d : Decision) → can s (ask code s.known) d ≡ true
    → s.known.status ≡ status.Going
can_going code s d c =
    going_by s (asks_turn s.known (asks_line s.known (slice_get code s.known.pc))) d s.known.status c

merged_statics : (b : Bool) (c d : ℕ) (s : State)
    → (cond b (merge_classes d c s) (merge_classes c d s)).statics ≡ s.statics
merged_statics true c d s = refl
merged_statics false c d s = refl

same_statics : (one b : Bool) (t u : ℕ) (s : State) → (apply_same one b t u s).statics ≡ s.statics
same_statics true true t u s = refl
same_statics false true t u s =
    merged_statics (nat_lt (class_of s.classes u) (class_of s.classes t)) (class_of s.classes t)
    (class_of s.classes u) s
same_statics true false t u s = refl
same_statics false false t u s = refl

pub apply_statics : (o : Option Line) (q : Question) (d : Decision) (s : State) → (apply o q d s).statics ≡ s.statics
apply_statics o (Does d') d s = refl
apply_statics o (Touches r) d s = refl
apply_statics o (Overwrites r) d s = refl
apply_statics o (AsksNull t) d s = refl
apply_statics o (Base t u j) d s = same_statics (are_one s.classes t u) _ t u s
apply_statics o (Answers a) d s = refl
apply_statics o (Same t u) d s = same_statics (are_one s.classes t u) _ t u s
apply_statics o (Orders a b) d s = refl
apply_statics o (Range kind a) d s = refl
apply_statics o (Computes kind p a b) d s = refl
apply_statics o Unplain d s = refl
apply_statics o Turn d s = refl
apply_statics o (Returns x) d s = refl
apply_statics o (Stops d') d s = refl
apply_statics o Over d s = refl

module _ (code : List Line) (n : ℕ) (form : AreObjectLines n code) where
  line_form : (pc : ℕ) (line : Line) → slice_get code pc ≡ Some line
      → list_all (is_there n) (atoms_of line.instr) ≡ true
  line_form pc line e = (form pc line e).1

  instr_form : (o : Option Line) → ((line : Line) → o ≡ Some line
      → list_all (is_there n) (atoms_of line.instr) ≡ true) → list_all (is_there n) (atoms_of (instr_of o)) ≡ true
  instr_form None h = refl
  instr_form (Some line) h = h line refl

  module _ (s : State) (w : IsSound s) (same : s.statics ≡ n) where
    there : list_all (is_there s.statics) (atoms_of (instr_of (slice_get code s.known.pc))) ≡ true
    there = subst (λ z. list_all (is_there z) (atoms_of (instr_of (slice_get code s.known.pc))) ≡ true) (sym same)
        (instr_form (slice_get code s.known.pc) (λ line e. line_form s.known.pc line e))

    pub asked_going : s.known.status ≡ status.Going
        → IsAsked (instr_of (slice_get code s.known.pc)) s.known (ask code s.known)
    asked_going going = subst (IsAsked (instr_of (slice_get code s.known.pc)) s.known)
        (sym (going_ask code s.known going))
        (asked_turn (instr_of (slice_get code s.known.pc)) s.known (asks_line s.known (slice_get code s.known.pc))
        (asked_line s w (slice_get code s.known.pc) (λ line e. subst (λ z. list_all (is_there z)
        (atoms_of line.instr) ≡ true) (sym same) (line_form s.known.pc line e))))

    pub asked_at : (d : Decision) → can s (ask code s.known) d ≡ true
        → IsAsked (instr_of (slice_get code s.known.pc)) s.known (ask code s.known)
    asked_at d c = asked_going (can_going code s d c)

    pub step_sound : (d : Decision) → can s (ask code s.known) d ≡ true
        → IsSound (apply (slice_get code s.known.pc) (ask code s.known) d s)
    step_sound d c = apply_sound s w (slice_get code s.known.pc) (ask code s.known) d there (asked_at d c) c

    pub step_back : (table : Table) (d : Decision) → can s (ask code s.known) d ≡ true
        → FitsState table (apply (slice_get code s.known.pc) (ask code s.known) d s)
        → FitsState table s × (answer table s.known (ask code s.known) ≡ d)
    step_back table d c f = apply_back table s w (slice_get code s.known.pc) (ask code s.known) d (asked_at d c) c f

  -- ---- paths

  module _ (first : State) (w : IsSound first) (same : first.statics ≡ n) where
    pub path_sound : (ds : List Decision) (s : State) → Path code first ds s → IsSound s × (s.statics ≡ n)
    path_sound ds s path_here = (w, same)
    path_sound _ _ (path_on ds s d p c) =
        let r = path_sound ds s p in
        (step_sound s r.0 r.1 d c, apply_statics (slice_get code s.known.pc) (ask code s.known) d s ∙ r.1)

    pub path_below : StateBelow first → (ds : List Decision) (s : State) → Path code first ds s → StateBelow s
    path_below b ds s path_here = b
    path_below b _ _ (path_on ds s d p c) =
        let r = path_sound ds s p in
        apply_below (slice_get code s.known.pc) (ask code s.known) d s (asked_at s r.0 r.1 d c) (path_below b ds s p)

    -- values of the tokens that fit the last state fit the first, and the path is the trace by them
    pub path_fits : (table : Table) (ds : List Decision) (s : State) → Path code first ds s → FitsState table s
        → FitsState table first × Asked code table first.known ds s.known
    path_fits table ds s path_here f = (f, asked_here)
    path_fits table _ _ (path_on ds s d p c) f =
        let r = path_sound ds s p in
        let b = step_back s r.0 r.1 table d c f in
        let before = path_fits table ds s p b.0 in (
          before.0,
          subst (λ z. Asked code table first.known (z
              ∷ ds) (go (slice_get code s.known.pc) s.known (ask code s.known) z)) b.1
              (asked_on ds s.known before.1 (can_going code s d c)),
        )

-- ---- runs

pub data Arrived (code : Code) (statics f : ℕ) (entry : Entry) (choices : List Choice) (n : ℕ) : Type 0 where
  wants_one : ((fuel : ℕ) → run_for code entry choices (n + fuel) ≡ run.NeedsChoice)
      → Arrived code statics f entry choices n
  meets_one : (ds : List Decision) (s : State) (r : Meets statics f code entry choices n ds s)
      → length r.computed ≡ length s.known.computed → Arrived code statics f entry choices n
  blocked_one : IsBlocked statics f code entry choices → Arrived code statics f entry choices n

module _ (code : Code) (statics : ℕ) (entry : Entry) (choices : List Choice) (computed : List ℤ) where
  abbrev pub T : Table
  T = table_of statics entry choices computed

  abbrev pub At : ℕ → Regs → ℕ → Status → Type 0
  At n m pc z = IsAt code entry choices n T m pc z

  abbrev pub Going : ℕ → Regs → ℕ → Type 0
  Going n m pc = At n m pc status.Going

  abbrev Machine : ℕ → Led
  Machine n = machine_at choices code.instrs n (start code entry)

  more : (n fuel : ℕ) → run_for code entry choices ((n + 1) + fuel) ≡ run_for code entry choices (n + suc fuel)
  more n fuel = ap (run_for code entry choices) (omega arith)

  -- one more instruction
  one_later : (n : ℕ) (led : Led) → Machine n ≡ led → Machine (n + 1) ≡ led_on choices code.instrs led.0 led.1
  one_later n led e =
      let same : n + 1 ≡ suc n = omega arith in
      ap Machine same ∙ ap (λ r. led_on choices code.instrs r.0 r.1) e

  ends_later : (n : ℕ) (m : Regs) (pc : ℕ) (led : Led) → Going n m pc → leads_at choices code.instrs pc m ≡ led
      → EndsFrom code entry choices (n + 1) led
  ends_later n m pc led g e fuel = more n fuel ∙ g.ends (suc fuel) ∙ exec_step choices code.instrs fuel pc m
      ∙ ap (λ r. (Reaches (exec choices code.instrs fuel) r.0 r.1).end) e

  pub at_later : (n : ℕ) (m m' : Regs) (pc pc' : ℕ) (z : Status) → Going n m pc
      → leads_at choices code.instrs pc m ≡ led_of T m' pc' z → At (n + 1) m' pc' z
  at_later n m m' pc pc' z g e = record {
    machine = one_later n (after.Goes pc, m) g.machine ∙ e;
    ends = ends_later n m pc (led_of T m' pc' z) g e;
  }

  pub at_status : (n : ℕ) (m : Regs) (pc : ℕ) (z z' : Status) → z ≡ z' → At n m pc z' → At n m pc z
  at_status n m pc z z' e h = subst (At n m pc) (sym e) h

  -- where a path isn't followed, the run stands still
  pub at_block : (n : ℕ) (m : Regs) (pc pc' : ℕ) (z : Status) (o0 : Obstacle) (p0 : Pos) → pc' ≡ pc
      → z ≡ status.Blocked o0 p0 → Going n m pc → At n m pc' z
  at_block n m pc pc' z o0 p0 same e g =
      let h : Going n m pc' = subst (Going n m) (sym same) g in
      at_status n m pc' z (status.Blocked o0 p0) e (record { machine = h.machine; ends = h.ends })

  stays_at : (n : ℕ) (m : Regs) (pc : ℕ) (p0 : Pos) (x : Option Term) → At n m pc (status.Returned p0 x)
      → At (n + 1) m pc (status.Returned p0 x)
  stays_at n m pc p0 x h = record {
    machine = one_later n (after.Leaves p0 (returned_value T x), m) h.machine;
    ends
        = λ fuel. more n fuel ∙ h.ends (suc fuel);
  }

  stays_stopped : (n : ℕ) (m : Regs) (pc : ℕ) (p0 : Pos) → At n m pc (status.Stopped p0)
      → At (n + 1) m pc (status.Stopped p0)
  stays_stopped n m pc p0 h = record {
    machine = one_later n (after.Stops p0, m) h.machine;
    ends = λ fuel. more n
        fuel ∙ h.ends (suc fuel);
  }

blocked_ended : (o0 : Obstacle) (p0 : Pos) → status.Blocked o0 p0 ≡ status.Going → ⊥
blocked_ended o0 p0 e = cc

-- a run that is over stays where it is
not_going : (s : State) (z : Status) → s.known.status ≡ z → (z ≡ status.Going → ⊥) → s.known.status ≡ status.Going → ⊥
not_going s z e ended h = ended (sym e ∙ h)

returned_ended : (p0 : Pos) (x : Option Term) → status.Returned p0 x ≡ status.Going → ⊥
returned_ended p0 x e = cc

stopped_ended : (p0 : Pos) → status.Stopped p0 ≡ status.Going → ⊥
stopped_ended p0 e = cc

module _ (code : Code) (statics f : ℕ) (form : AreObjectLines statics code.instrs) (entry : Entry)
    (choices : List Choice) (sound : IsSound (start_state statics f code))
    (linked : Linked (table_of statics entry choices []) (statics + argument_count code) choices)
    (started : Lies code.instrs (table_of statics entry choices []) (statics + argument_count code) (start code entry)
    (start_state statics f code)) where
  abbrev First : State
  First = start_state statics f code

  abbrev B : ℕ
  B = statics + argument_count code

  abbrev By : List ℤ → Table
  By cs = table_of statics entry choices cs

  abbrev AtBy : List ℤ → ℕ → Regs → ℕ → Status → Type 0
  AtBy cs n m pc z = IsAt code entry choices n (By cs) m pc z

  -- while a run goes on, it doesn't matter which numbers the computations have
  any_numbers : (cs ds : List ℤ) (n : ℕ) (m : Regs) (pc : ℕ) → AtBy cs n m pc status.Going
      → AtBy ds n m pc status.Going
  any_numbers cs ds n m pc g = record { machine = g.machine; ends = g.ends }

  -- the run's own result is noted where a question is about one
  record Ready (s : State) (m : Regs) (q : Question) : Type 0 where
    computed : List ℤ
    lies : Lies code.instrs (By computed) B m s
    real : RealFor (By computed) s.known q
    long : length computed ≡ length s.known.computed + length (added q)

  module _ (s : State) (m : Regs) (i : Instr) (cs : List ℤ) (long : length cs ≡ length s.known.computed)
      (below : StateBelow s) (l : Lies code.instrs (By cs) B m s) where
    abbrev Plain : Question → Type 0
    Plain q = length cs ≡ length s.known.computed + length (added q)

    plain : length cs ≡ length s.known.computed + 0
    plain = omega (arith, long)

    ready : (q : Question) → IsAsked i s.known q → Ready s m q
    ready (Computes kind o a b) asked =
        let both = asked below.0.vars in
        let v = result_number (arithmetic o kind (sum_value (By cs) a) (sum_value (By cs) b)) in
        let cs' = cs ++ v ∷ [] in
        let values = values_of statics entry choices in
        let c = length s.known.computed in
        let agree : (j : ℕ) → j < c → get_or cs j (pos 0) ≡ get_or cs' j (pos 0) = λ j lt.
        sym (get_or-append cs (v ∷ []) (pos 0) j (omega (arith, lt, long))) in
        let last : get_or cs' (length s.known.computed) (pos 0) ≡ v =
        ap (λ z. get_or cs' z (pos 0)) (let e : length s.known.computed ≡ length cs + 0 = omega (arith, long) in e)
        ∙ get_or-append-add cs (v ∷ []) 0 (pos 0) in
        record {
          computed = cs';
          lies = lies_agrees values cs cs' c agree code.instrs B m s below.0 below.1 l;
          real = last
              ∙ ap (λ z. result_number (arithmetic o kind z (sum_value (By cs) b)))
              (sum_agrees values cs cs' c agree a both.0)
              ∙ ap (λ z. result_number (arithmetic o kind (sum_value (By cs') a) z))
              (sum_agrees values cs cs' c agree b both.1);
          long = (let e = length-append cs (v ∷ []) in omega (arith, e, long));
        }
    ready (Does d) asked = record { computed = cs; lies = l; real = tt; long = plain }
    ready (Touches r) asked = record { computed = cs; lies = l; real = tt; long = plain }
    ready (Overwrites r) asked = record { computed = cs; lies = l; real = tt; long = plain }
    ready (AsksNull t) asked = record { computed = cs; lies = l; real = tt; long = plain }
    ready (Base t u j) asked = record { computed = cs; lies = l; real = tt; long = plain }
    ready (Answers x) asked = record { computed = cs; lies = l; real = tt; long = plain }
    ready (Same t u) asked = record { computed = cs; lies = l; real = tt; long = plain }
    ready (Orders x y) asked = record { computed = cs; lies = l; real = tt; long = plain }
    ready (Range kind x) asked = record { computed = cs; lies = l; real = tt; long = plain }
    ready Unplain asked = record { computed = cs; lies = l; real = tt; long = plain }
    ready Turn asked = record { computed = cs; lies = l; real = tt; long = plain }
    ready (Returns x) asked = record { computed = cs; lies = l; real = tt; long = plain }
    ready (Stops d) asked = record { computed = cs; lies = l; real = tt; long = plain }
    ready Over asked = record { computed = cs; lies = l; real = tt; long = plain }

  path_asked : (cs : List ℤ) (ds : List Decision) (s : State) → Path code.instrs First ds s → FitsState (By cs) s
      → Asked code.instrs (By cs) (known_at statics f code) ds s.known
  path_asked cs ds s p fits = (path_fits code.instrs statics form First sound refl (By cs) ds s p fits).1

  -- the questions of an instruction are asked until it is done
  settle : (e n : ℕ) (ds : List Decision) (s : State) (m : Regs) → effort s.known < e
      → Path code.instrs First ds s → (cs : List ℤ) → length cs ≡ length s.known.computed
      → Lies code.instrs (By cs) B m s
      → s.known.status ≡ status.Going → n ≤ length ds → AtBy cs n m s.known.pc status.Going
      → Arrived code statics f entry choices (n + 1)
  settle zero n ds s m less p cs long l going enough g = absurd (omega (arith, less))
  settle (suc e) n ds s m less p cs long l going enough g =
      let r = path_sound code.instrs statics form First sound refl ds s p in
      let line = slice_get code.instrs s.known.pc in
      let q = ask code.instrs s.known in
      let asked = asked_going code.instrs statics form s r.0 r.1 going in
      let below = path_below code.instrs statics form First sound refl (start_below statics f code) ds s p in
      let y = ready s m (instr_of line) cs long below l q asked in
      let t = By y.computed in
      let d = answer t s.known q in
      let s' = apply line q d s in
      let grown = (go_below line s.known q d asked below.0).0 in
      let long' : length y.computed ≡ length s'.known.computed =
      (let a = ap length grown in let b = length-append s.known.computed (added q) in let c = y.long in
      omega (arith, a, b, c)) in
      let longer : n + 1 ≤ length (d ∷ ds) = omega (arith, enough) in
      let here : AtBy y.computed n m s.known.pc status.Going = any_numbers cs y.computed n m s.known.pc g in
      elim (moves_on choices code.instrs t B m s going r.0 y.lies linked y.real (subst (λ z. AreObjectLines z
      code.instrs) (sym r.1) form)) [
        | inl w ↦ wants_one (ends_later code statics entry choices cs n m s.known.pc (after.Wants, w.0) g w.1)
        | inr mv ↦
            let p' : Path code.instrs First (d ∷ ds) s' = path_on ds s d p mv.0 in
            elim (mv.1) [
              | stays pc going' steps less' l' ↦ settle e n (d ∷ ds) s' m (omega (arith, less, less')) p' y.computed
                  long' l' going' (omega (arith, longer)) (subst (λ z. AtBy y.computed n m z status.Going) (sym pc)
                  here)
              | goes_on m' many e' going' turns l' ↦ meets_one (d ∷ ds) s' (record {
                computed = y.computed;
                path = p';
                asked = path_asked y.computed (d ∷ ds) s' p' l'.fits;
                m = m';
                lies = l';
                enough = λ h. longer;
                is_at = at_status code statics entry choices y.computed (n + 1) m' s'.known.pc s'.known.status
                    status.Going going' (at_later code statics entry choices y.computed n m m' s.known.pc s'.known.pc
                    status.Going here e');
              }) long'
              | leaves p0 x e0 steps e' l' ↦ meets_one (d ∷ ds) s' (record {
                computed = y.computed;
                path = p';
                asked = path_asked y.computed (d ∷ ds) s' p' l'.fits;
                m = m;
                lies = l';
                enough = λ h. longer;
                is_at = at_status code statics entry choices y.computed (n + 1) m s'.known.pc s'.known.status
                    (status.Returned p0 x) e0 (at_later code statics entry choices y.computed n m m s.known.pc
                    s'.known.pc (status.Returned p0 x) here e');
              }) long'
              | blocks o0 p0 pc e0 steps l' ↦ blocked_one (record {
                steps = n;
                decisions = d ∷ ds;
                s = s';
                obstacle = o0;
                place = p0;
                meets = record {
                  computed = y.computed;
                  path = p';
                  asked = path_asked y.computed (d ∷ ds) s' p' l'.fits;
                  m = m;
                  lies = l';
                  enough = λ h. absurd (blocked_ended o0 p0 (sym e0 ∙ h));
                  is_at = at_block code statics entry choices y.computed n m s.known.pc s'.known.pc s'.known.status
                      o0 p0 pc e0 here;
                };
                blocked = e0;
              })
              | halts p0 e0 steps e' l' ↦ meets_one (d ∷ ds) s' (record {
                computed = y.computed;
                path = p';
                asked = path_asked y.computed (d ∷ ds) s' p' l'.fits;
                m = m;
                lies = l';
                enough = λ h. longer;
                is_at = at_status code statics entry choices y.computed (n + 1) m s'.known.pc s'.known.status
                    (status.Stopped p0) e0 (at_later code statics entry choices y.computed n m m s.known.pc
                    s'.known.pc (status.Stopped p0) here e');
              }) long'
            ]
      ]

  one_more : (n : ℕ) (ds : List Decision) (s : State) (z : Status) → s.known.status ≡ z
      → (r : Meets statics f code entry choices n ds s) → length r.computed ≡ length s.known.computed
      → Arrived code statics f entry choices (n + 1)
  one_more n ds s status.Going e r long =
      settle (effort s.known + 1) n ds s r.m (omega arith) r.path r.computed long r.lies e
      (r.enough e) (subst (AtBy r.computed n r.m s.known.pc) e r.is_at)
  one_more n ds s (status.Returned p0 x) e r long =
      let h : AtBy r.computed n r.m s.known.pc (status.Returned p0 x) = subst (AtBy r.computed n r.m s.known.pc) e
      r.is_at in
      meets_one ds s (record {
        computed = r.computed;
        path = r.path;
        asked = r.asked;
        m = r.m;
        lies = r.lies;
        enough = λ g. absurd (not_going s (status.Returned p0 x) e (returned_ended p0 x) g);
        is_at = at_status code statics entry choices r.computed (n + 1) r.m s.known.pc s.known.status
            (status.Returned p0 x) e (stays_at code statics entry choices r.computed n r.m s.known.pc p0 x h);
      }) long
  one_more n ds s (status.Blocked o0 p0) e r long =
      blocked_one (record {
        steps = n;
        decisions = ds;
        s = s;
        obstacle = o0;
        place = p0;
        meets = r;
        blocked = e;
      })
  one_more n ds s (status.Stopped p0) e r long =
      let h : AtBy r.computed n r.m s.known.pc (status.Stopped p0) = subst (AtBy r.computed n r.m s.known.pc) e
      r.is_at in
      meets_one ds s (record {
        computed = r.computed;
        path = r.path;
        asked = r.asked;
        m = r.m;
        lies = r.lies;
        enough = λ g. absurd (not_going s (status.Stopped p0) e (stopped_ended p0) g);
        is_at = at_status code statics entry choices r.computed (n + 1) r.m s.known.pc s.known.status
            (status.Stopped p0) e (stays_stopped code statics entry choices r.computed n r.m s.known.pc p0 h);
      }) long

  -- each run is on a path with its trace
  pub arrives_at : (n : ℕ) → Arrived code statics f entry choices n
  arrives_at zero = meets_one [] First (record {
    computed = [];
    path = path_here;
    asked = asked_here;
    m = start code entry;
    lies = started;
    enough = λ h. omega arith;
    is_at = record
        { machine = refl; ends = λ fuel. ap (run_for code entry choices) (omega arith) };
  }) refl
  arrives_at (suc n) = elim (arrives_at n) [
    | wants_one h ↦ wants_one (λ fuel. ap (run_for code entry choices) (omega arith) ∙ h (suc fuel))
    | blocked_one r ↦ blocked_one r
    | meets_one ds s r long ↦ subst (Arrived code statics f entry choices) (omega arith)
        (one_more n ds s s.known.status refl r long)
  ]
