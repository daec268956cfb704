-- A run of a code among those of its file that returns is balanced: a call goes into the code of the function that is
-- called, whose run begins there, and a return goes back to the code that waits, as its own claim says.
--   Function                a function of the file that is reached, its code, and its program, whose sets are kept
--   claim_in fn origin      what is claimed in a run of it
--   names_in fn             the static objects that it names, or that a function names that it reaches
--   IsWaiting               a function waits for one that it called
--   Waits frames fn origin  these codes wait, each for the one before, and the first for this function
--   StepsCall               a function goes on where one that it called returned
--   Later                   a run of so much fuel that returns is balanced
use Rattle.std.proofs.Common.{◌≡◌, ℕ, zero, suc, ◌+◌, List, [], ◌∷◌, length, refl, sym, ap, subst, Option, Some, None}
use Rattle.std.proofs.Common.{Bool, true, false, pos}
use Rattle.std.specs.Prelude.{◌==◌, slice_get, take, if◌then◌else◌, option_map}
use Rattle.std.specs.List.{All, IsAmong}
use Rattle.pungi_base.specs.declared.choice.Choice.{Choice}
use Rattle.pungi_base.specs.declared.entry.Entry.{Entry}
use Rattle.pungi_base.specs.declared.pos.Pos.{Pos}
use Rattle.pungi_base.specs.declared.value.Value.{Value}
use Rattle.pungi_domain.specs.Annotations.{IsSafe}
use Rattle.pungi_domain.specs.Vectors.{Vector, Vectors}
use Rattle.pungi_domain.specs.declared.affine_program.AffineProgram.{AffineProgram}
use Rattle.pungi_world.specs.declared.content.Content.TheVariants.{Holds}
use Rattle.pungi_world.specs.declared.world.World.{World}
use Rattle.pungi_world.specs.Escapes.{IsBalanced}
use Rattle.pungi_meaning.specs.Run.{Returned, Stopped, nowhere, end_at_once, with_operations}
use Rattle.pungi_meaning.specs.Todo.{Entered}
use Rattle.pungi_code.specs.declared.atom.Atom.{Atom}
use Rattle.pungi_code.specs.declared.atom.Var.{Var}
use Rattle.pungi_code.specs.declared.code.Code.{Code}
use Rattle.pungi_code.specs.declared.code.Codes.{Codes}
use Rattle.pungi_code.specs.declared.code.Line.{Line}
use Rattle.pungi_code.specs.declared.instr.Instr.{Instr}
use Rattle.pungi_code.specs.declared.instr.Instr.TheVariants.{Call, Return}
use Rattle.pungi_code.specs.Frames.{CodeFrame, with_params, enter, leave}
use Rattle.pungi_code.specs.Registers.{Regs, put, content_of, all_values, with_values}
use Rattle.pungi_code.specs.Run.{calling, perform_in, fetch_in, among, execute, code_at}
use Rattle.pungi_code.specs.WellFormed.{AreWellFormed, kinds_of, returns_well}
use Rattle.pungi_shape.specs.declared.shape.Shape.{Shape}
use Rattle.pungi_shape.specs.Named.{functions_from, statics_of}
use Rattle.pungi_shape.specs.Families.{IsKeptBy, AreSafeSets}
use Rattle.pungi_shape.specs.Programs.{IsProgram}
use Rattle.pungi_shape.proofs.sound.Views.{Origin}
use Rattle.pungi_shape.proofs.sound.Flow.{Claim, Flow, IsCode, MeetsExits}
use Rattle.pungi_shape.proofs.sound.Stands.{Runs}
use Rattle.pungi_shape.proofs.sound.Leaving.{Left}
use Rattle.pungi_shape.proofs.sound.Calling.{entered, AreCalled, resumed_by}
use Rattle.pungi_shape.proofs.sound.ExitDuties.{leaves_balanced}
use Rattle.pungi_shape.proofs.sound.Programs.{Surroundings, IsLeftBy, leaves_of, claim_of, program_flow, program_exits}
use Rattle.pungi_shape.proofs.sound.Programs.{is_called}
use Rattle.pungi_shape.proofs.sound.Reaches.{from_call}
use Rattle.pungi_shape.proofs.sound.Returns.{IsResult, returns, left_by}
use Rattle.pungi_shape.proofs.sound.Statics.{at_number, code_is, statics_of_callee}
use Rattle.pungi_shape.proofs.sound.Simple.{value_read, instr_is}
use Rattle.pungi_shape.proofs.sound.Entries.{begins}
use Rattle.pungi_shape.proofs.sound.Passing.{call_begins}
use Rattle.pungi_shape.proofs.sound.AllSteps.{all_step}
use Rattle.pungi_shape.proofs.sound.Whole.{out_of_fuel, stopped, ended, balanced_so}
use Rattle.pungi_shape.proofs.sound.Members.{of_all}
use Rattle.pungi_shape.proofs.sound.Tests.{eqb_is}

-- a function goes on where one that it called returned
abbrev pub StepsCall : Type 1
StepsCall =
    (code : Code) (ks : List ℕ) (claim : Claim) → IsCode code ks claim → Flow code ks claim → (x : Option Var) (g : ℕ)
    (as' : List Atom) (pc : ℕ) (line : Line) (m n : Regs) (vs : List Value) (callee : Code) (names : List ℕ)
    (called : Claim) (result : Option Value) (r : Regs)
    → slice_get code.instrs pc ≡ Some line → line.instr ≡ Call x g as' → Runs code ks claim pc m
    → all_values as' m.vars ≡ Some vs → AreCalled claim m g vs callee names called → All (IsAmong ks) names
    → Left callee names called n result → resumed_by x result m n ≡ Some r → Runs code ks claim (pc + 1) r

pub record Function (codes : Codes) (f : ℕ) (at exits : ℕ → ℕ → Vectors) : Type 0 where
  pub number : ℕ
  pub code : Code
  pub is_code : code_at codes number ≡ Some code
  pub reached : IsAmong (functions_from codes f) number
  pub kept : IsKeptBy codes number at exits

-- ---- what is claimed

module _ (codes : Codes) (formed : AreWellFormed codes) (f : ℕ) (at exits : ℕ → ℕ → Vectors) where
  abbrev pub InFile : Code → Type 0
  InFile c = (h : ℕ) × (slice_get codes.codes h ≡ Some (Some c))

  abbrev around : Surroundings
  around = record { file = InFile; callees = kinds_of codes; others = λ h. leaves_of codes h (exits h) }

  told : (g : ℕ) (x : Shape) (u : Vector) → leaves_of codes g (exits g) x u → IsLeftBy codes exits g x u
  told g x u left = record { found = left.0; left = λ xs are. left.1 xs are u (λ i lt. refl) }

  abbrev pub names_in : Function codes f at exits → List ℕ
  names_in fn = statics_of codes fn.number

  abbrev pub claim_in : Function codes f at exits → Origin → Claim
  claim_in fn origin =
      claim_of codes fn.number fn.kept.is.places (at fn.number) (exits fn.number) around origin

  in_file : (fn : Function codes f at exits) → InFile fn.code
  in_file fn = (fn.number, at_number codes fn.number fn.code fn.is_code)

  pub flow_in : (fn : Function codes f at exits) (origin : Origin) → Flow fn.code (names_in fn) (claim_in fn origin)
  flow_in fn origin =
      program_flow codes fn.number fn.code fn.kept.program fn.is_code fn.kept.is exits (at fn.number) (exits fn.number)
      fn.kept.inductive fn.kept.drops around told origin

  pub exits_in : (fn : Function codes f at exits) (origin : Origin) → IsSafe fn.kept.program (at fn.number)
      → MeetsExits fn.code (claim_in fn origin)
  exits_in fn origin safe =
      program_exits codes fn.number fn.code fn.kept.program fn.is_code fn.kept.is exits (at fn.number)
      (exits fn.number) fn.kept.inductive safe around told origin

  pub code_in : (fn : Function codes f at exits) (origin : Origin) → IsCode fn.code (names_in fn) (claim_in fn origin)
  code_in fn origin =
      let here = at_number codes fn.number fn.code fn.is_code in
      code_is codes fn.number fn.code (claim_in fn origin) fn.is_code (formed.each fn.number fn.code here) (in_file fn)
      (λ c there. formed.kinds fn.number there.0 fn.code c here there.1)

  returns_in : (fn : Function codes f at exits) (pc : ℕ) (line : Line) (a : Option Atom)
      → slice_get fn.code.instrs pc ≡ Some line → line.instr ≡ Return a → returns_well fn.code (Return a) ≡ true
  returns_in fn pc line a there same =
      subst (λ i. returns_well fn.code i ≡ true) same
      (formed.returns fn.number fn.code pc line (at_number codes fn.number fn.code fn.is_code) there)

  -- ---- codes that wait

  pub record IsWaiting (fn : Function codes f at exits) (origin : Origin) (callee : Function codes f at exits)
      (under : Origin) (frame : CodeFrame) : Type 0 where
    pub pc : ℕ
    pub line : Line
    pub into : Option Var
    pub args : List Atom
    pub regs : Regs
    pub values : List Value
    pub there : slice_get fn.code.instrs pc ≡ Some line
    pub instr : line.instr ≡ Call into callee.number args
    pub runs : Runs fn.code (names_in fn) (claim_in fn origin) pc regs
    pub read : all_values args regs.vars ≡ Some values
    pub count : length values ≡ callee.code.params
    pub is_frame : frame ≡ calling line.pos fn.code.instrs pc into regs
    pub is_under : under ≡ entered regs values

  called_so : (fn callee : Function codes f at exits) (origin under : Origin) (frame : CodeFrame)
      → (wait : IsWaiting fn origin callee under frame)
      → AreCalled (claim_in fn origin) wait.regs callee.number wait.values callee.code (names_in callee)
      (claim_in callee under)
  called_so fn callee origin under frame wait = record {
    origin = wait.is_under;
    count = wait.count;
    kinds = ap (λ o. option_map (λ (c : Code). (take c.params c.vars, c.result)) o) callee.is_code;
    file = λ c there. there;
    leaves = λ x u left. left;
  }

  names_among : (fn callee : Function codes f at exits) (origin under : Origin) (frame : CodeFrame)
      → IsWaiting fn origin callee under frame → All (IsAmong (names_in fn)) (names_in callee)
  names_among fn callee origin under frame wait =
      statics_of_callee codes fn.number callee.number
      (is_called codes fn.number fn.code wait.pc callee.number wait.into wait.args fn.is_code
      (instr_is fn.code wait.pc wait.line (Call wait.into callee.number wait.args) wait.there wait.instr))

  pub data Waits (code : Code) (entry : Entry) : List CodeFrame → Function codes f at exits → Origin → Type 0 where
    alone : (fn : Function codes f at exits) (origin : Origin) → IsSafe fn.kept.program (at fn.number)
        → fn.code ≡ code → origin.entry ≡ entry → ((k : ℕ) → origin.debts k ≡ pos 0)
        → Waits code entry [] fn origin
    waits : (frame : CodeFrame) (frames : List CodeFrame) (fn : Function codes f at exits) (origin : Origin)
        (callee : Function codes f at exits) (under : Origin) → Waits code entry frames fn origin
        → IsWaiting fn origin callee under frame → Waits code entry (frame ∷ frames) callee under

  module _ (steps_call : StepsCall) (safe : AreSafeSets codes f at exits) (code : Code) (entry : Entry)
      (choices : List Choice) (w : World) (v : Option Value) (q : Pos) (used : List Pos) where
    abbrev Balanced : Type 0
    Balanced = IsBalanced code.terms entry w v

    abbrev Later : ℕ → Type 0
    Later fuel =
        (frames : List CodeFrame) (fn : Function codes f at exits) (origin : Origin) (pc : ℕ) (m : Regs)
        → Waits code entry frames fn origin → Runs fn.code (names_in fn) (claim_in fn origin) pc m
        → (execute codes.codes choices fuel frames fn.code.instrs pc m).end ≡ Returned w v q used → Balanced

    -- ---- a return

    -- the first function returns
    last_return : (fn : Function codes f at exits) (origin : Origin) → IsSafe fn.kept.program (at fn.number)
        → fn.code ≡ code → origin.entry ≡ entry → ((k : ℕ) → origin.debts k ≡ pos 0)
        → (a : Option Atom) (pc : ℕ) (line : Line) (m : Regs)
        → slice_get fn.code.instrs pc ≡ Some line → line.instr ≡ Return a
        → Runs fn.code (names_in fn) (claim_in fn origin) pc m → IsResult a m v → m.world ≡ w → Balanced
    last_return fn origin own is_code is_entry none a pc line m there same runs read world =
        let left = returns fn.code (names_in fn) (claim_in fn origin) (code_in fn origin) (flow_in fn origin) a pc line
        m v there same runs read in
        let balanced = leaves_balanced fn.code (names_in fn) (claim_in fn origin) m v
        (exits_in fn origin own) none left in
        balanced_so code.terms entry m.world w v world
        (subst (λ (c : Code). IsBalanced c.terms entry m.world v) is_code
        (subst (λ e. IsBalanced fn.code.terms e m.world v) is_entry balanced))

    -- a function that waits goes on
    goes_back : (fuel : ℕ) → Later fuel → (frame : CodeFrame) (frames : List CodeFrame)
        (fn callee : Function codes f at exits) (origin under : Origin) → Waits code entry frames fn origin
        → (wait : IsWaiting fn origin callee under frame) → (n : Regs) (result : Option Value) (p : Pos)
        → Left callee.code (names_in callee) (claim_in callee under) n result
        → (leave (execute codes.codes choices fuel) (frame ∷ frames) n.world result p n.used).end ≡ Returned w v q used
        → Balanced
    goes_back fuel later frame frames fn callee origin under waiting wait n result p left ends =
        by wait.into result wait.instr left
        (subst (λ b. (leave (execute codes.codes choices fuel) (b ∷ frames) n.world result p n.used).end
        ≡ Returned w v q used) wait.is_frame ends)
      where
        on : (x : Option Var) (u : Option Value) (r : Regs) → wait.line.instr ≡ Call x callee.number wait.args
            → Left callee.code (names_in callee) (claim_in callee under) n u → resumed_by x u wait.regs n ≡ Some r
            → (execute codes.codes choices fuel frames fn.code.instrs (wait.pc + 1) r).end ≡ Returned w v q used
            → Balanced
        on x u r is left resumed ends =
            later frames fn origin (wait.pc + 1) r waiting
            (steps_call fn.code (names_in fn) (claim_in fn origin) (code_in fn origin) (flow_in fn origin) x
            callee.number wait.args wait.pc wait.line wait.regs n wait.values callee.code (names_in callee)
            (claim_in callee under) u r wait.there is wait.runs wait.read (called_so fn callee origin under frame wait)
            (names_among fn callee origin under frame wait) left resumed)
            ends

        by : (x : Option Var) (u : Option Value) → wait.line.instr ≡ Call x callee.number wait.args
            → Left callee.code (names_in callee) (claim_in callee under) n u
            → (leave (execute codes.codes choices fuel)
            (calling wait.line.pos fn.code.instrs wait.pc x wait.regs ∷ frames) n.world u p n.used).end
            ≡ Returned w v q used → Balanced
        by None u is left ends = on None u (record n { vars = wait.regs.vars }) is left refl ends
        by (Some x) None is left ends = absurd (stopped wait.line.pos w v q used ends)
        by (Some x) (Some r) is left ends =
            on (Some x) (Some r) (put x (Holds r) (record n { vars = wait.regs.vars })) is left refl ends

    leaves_so : (fuel : ℕ) → Later fuel → (frames : List CodeFrame) (fn : Function codes f at exits) (origin : Origin)
        (a : Option Atom) (pc : ℕ) (line : Line) (m : Regs) (result : Option Value) (p : Pos)
        → Waits code entry frames fn origin → slice_get fn.code.instrs pc ≡ Some line → line.instr ≡ Return a
        → Runs fn.code (names_in fn) (claim_in fn origin) pc m → IsResult a m result
        → (leave (execute codes.codes choices fuel) frames m.world result p m.used).end ≡ Returned w v q used
        → Balanced
    leaves_so fuel later _ _ _ a pc line m result p (alone fn origin own is_code is_entry none) there same runs read
        ends =
        let both = ended m.world w result v p q m.used used ends in
        last_return fn origin own is_code is_entry none a pc line m there same runs
        (subst (IsResult a m) both.1 read) both.0
    leaves_so fuel later _ _ _ a pc line m result p (waits frame frames fn origin callee under below wait) there same
        runs read ends =
        goes_back fuel later frame frames fn callee origin under below wait m result p
        (left_by callee.code (names_in callee) (claim_in callee under) (code_in callee under) (flow_in callee under) a
        pc line m result there same runs read (returns_in callee pc line a there same)) ends

    -- ---- a call

    enters_so : (fuel : ℕ) → Later fuel → (frames : List CodeFrame) (fn : Function codes f at exits) (origin : Origin)
        (x : Option Var) (g : ℕ) (as' : List Atom) (pc : ℕ) (line : Line) (m : Regs) (vs : List Value)
        → Waits code entry frames fn origin → slice_get fn.code.instrs pc ≡ Some line → line.instr ≡ Call x g as'
        → Runs fn.code (names_in fn) (claim_in fn origin) pc m → all_values as' m.vars ≡ Some vs
        → (c : Code) → code_at codes g ≡ Some c → length vs ≡ c.params
        → (execute codes.codes choices fuel (calling line.pos fn.code.instrs pc x m ∷ frames) c.instrs 0
        (with_params c vs m)).end ≡ Returned w v q used
        → Balanced
    enters_so fuel later frames fn origin x g as' pc line m vs waiting there same runs values c is count ends =
        let called = is_called codes fn.number fn.code pc g x as' fn.is_code
        (instr_is fn.code pc line (Call x g as') there same) in
        let reached = from_call codes f fn.number g fn.reached called in
        let callee : Function codes f at exits = record {
          number = g;
          code = c;
          is_code = is;
          reached = reached;
          kept = of_all (λ h. IsKeptBy codes h at exits) (functions_from codes f) g safe.each reached;
        } in
        let under = entered m vs in
        let frame = calling line.pos fn.code.instrs pc x m in
        let wait : IsWaiting fn origin callee under frame = record {
          pc = pc;
          line = line;
          into = x;
          args = as';
          regs = m;
          values = vs;
          there = there;
          instr = same;
          runs = runs;
          read = values;
          count = count;
          is_frame = refl;
          is_under = refl;
        } in
        later (frame ∷ frames) callee under 0 (with_params c vs m)
        (waits frame frames fn origin callee under waiting wait)
        (begins c (names_in callee) (claim_in callee under) (flow_in callee under) (with_params c vs m)
        (call_begins fn.code (names_in fn) (claim_in fn origin) (code_in fn origin) x g as' pc line m vs c
        (names_in callee) (claim_in callee under) there same runs values (called_so fn callee origin under frame wait)
        (λ d back. back) (formed.each g c (at_number codes g c is)).kinds
        (names_among fn callee origin under frame wait)))
        ends

    calls_so : (fuel : ℕ) → Later fuel → (frames : List CodeFrame) (fn : Function codes f at exits) (origin : Origin)
        (x : Option Var) (g : ℕ) (as' : List Atom) (pc : ℕ) (line : Line) (m : Regs)
        → Waits code entry frames fn origin → slice_get fn.code.instrs pc ≡ Some line → line.instr ≡ Call x g as'
        → Runs fn.code (names_in fn) (claim_in fn origin) pc m
        → (with_values (all_values as' m.vars) line.pos (λ vs. enter (execute codes.codes choices fuel) frames
        (calling line.pos fn.code.instrs pc x m) g vs m (code_at codes g))).end ≡ Returned w v q used
        → Balanced
    calls_so fuel later frames fn origin x g as' pc line m waiting there same runs ends =
        by_values (all_values as' m.vars) refl ends
      where
        by_count : (vs : List Value) (c : Code) → all_values as' m.vars ≡ Some vs → code_at codes g ≡ Some c
            → (b : Bool) → (length vs == c.params) ≡ b
            → (if b then with_operations (Entered line.pos g vs ∷ []) (execute codes.codes choices fuel
            (calling line.pos fn.code.instrs pc x m ∷ frames) c.instrs 0 (with_params c vs m)) else end_at_once
            (Stopped line.pos)).end ≡ Returned w v q used → Balanced
        by_count vs c values is false counts ends = absurd (stopped line.pos w v q used ends)
        by_count vs c values is true counts ends =
            enters_so fuel later frames fn origin x g as' pc line m vs waiting there same runs values c is
            (eqb_is (length vs) c.params counts) ends

        by_code : (vs : List Value) → all_values as' m.vars ≡ Some vs → (o : Option Code) → code_at codes g ≡ o
            → (enter (execute codes.codes choices fuel) frames (calling line.pos fn.code.instrs pc x m) g vs m o).end
            ≡ Returned w v q used → Balanced
        by_code vs values None is ends = absurd (stopped line.pos w v q used ends)
        by_code vs values (Some c) is ends = by_count vs c values is (length vs == c.params) refl ends

        by_values : (o : Option (List Value)) → all_values as' m.vars ≡ o
            → (with_values o line.pos (λ vs. enter (execute codes.codes choices fuel) frames
            (calling line.pos fn.code.instrs pc x m) g vs m (code_at codes g))).end ≡ Returned w v q used → Balanced
        by_values None values ends = absurd (stopped line.pos w v q used ends)
        by_values (Some vs) values ends = by_code vs values (code_at codes g) refl ends

    -- ---- runs

    performed : (fuel : ℕ) → Later fuel → (frames : List CodeFrame) (fn : Function codes f at exits) (origin : Origin)
        (pc : ℕ) (line : Line) (m : Regs) → Waits code entry frames fn origin
        → slice_get fn.code.instrs pc ≡ Some line → Runs fn.code (names_in fn) (claim_in fn origin) pc m
        → (i : Instr) → line.instr ≡ i
        → (perform_in (among codes.codes choices frames) (execute codes.codes choices fuel) fn.code.instrs i line.pos pc
        m).end ≡ Returned w v q used
        → Balanced
    performed fuel later frames fn origin pc line m waiting there runs (Call x g as') same ends =
        calls_so fuel later frames fn origin x g as' pc line m waiting there same runs ends
    performed fuel later frames fn origin pc line m waiting there runs (Return None) same ends =
        leaves_so fuel later frames fn origin None pc line m None line.pos waiting there same runs refl ends
    performed fuel later frames fn origin pc line m waiting there runs (Return (Some a)) same ends =
        let read = value_read (content_of a m.vars) line.pos
        (λ u. leave (execute codes.codes choices fuel) frames m.world (Some u) line.pos m.used) w v q used ends in
        leaves_so fuel later frames fn origin (Some a) pc line m (Some read.0) line.pos waiting there same runs
        (read.0, (refl, read.1)) read.2
    performed fuel later frames fn origin pc line m waiting there runs i same ends =
        let on = all_step fn.code (names_in fn) (claim_in fn origin) (code_in fn origin) (flow_in fn origin) i refl
        choices line.pos (execute codes.codes choices fuel frames fn.code.instrs) pc line m w v q used there same runs
        ends in
        later frames fn origin on.pc on.regs waiting on.runs on.ends

    fetched : (fuel : ℕ) → Later fuel → (frames : List CodeFrame) (fn : Function codes f at exits) (origin : Origin)
        (pc : ℕ) (m : Regs) → Waits code entry frames fn origin
        → Runs fn.code (names_in fn) (claim_in fn origin) pc m → (o : Option Line) → slice_get fn.code.instrs pc ≡ o
        → (fetch_in (among codes.codes choices frames) (execute codes.codes choices fuel) fn.code.instrs o pc m).end
        ≡ Returned w v q used
        → Balanced
    fetched fuel later frames fn origin pc m waiting runs None there ends = absurd (stopped nowhere w v q used ends)
    fetched fuel later frames fn origin pc m waiting runs (Some line) there ends =
        performed fuel later frames fn origin pc line m waiting there runs line.instr refl ends

    -- a run that returns is balanced
    pub runs_on : (fuel : ℕ) → Later fuel
    runs_on zero frames fn origin pc m waiting runs ends = absurd (out_of_fuel w v q used ends)
    runs_on (suc fuel) frames fn origin pc m waiting runs ends =
        fetched fuel (runs_on fuel) frames fn origin pc m waiting runs (slice_get fn.code.instrs pc) refl ends
