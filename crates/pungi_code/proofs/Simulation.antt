-- Where each step of a function is done by instructions of its code, so is each run of a file's function, through the
-- functions that it calls, and both runs are alike.
use Rattle.std.proofs.Common.{◌≡◌, ℕ, zero, suc, ◌+◌, ◌*◌, ◌≤◌, ◌==◌, Bool, true, false, List, [], ◌∷◌, length}
use Rattle.std.proofs.Common.{Option, Some, None, refl, sym, ap, ◌∙◌, subst, arith, ⊎_elim, if◌then◌else◌}
use Rattle.std.specs.Prelude.{slice_get}
use Rattle.std.proofs.lemmas.Bool.{cases_lt, eqb-true}
use Rattle.std.proofs.Math.Nat.{mul-le-mul_left}
use Rattle.pungi_base.specs.declared.choice.Choice.{Choice}
use Rattle.pungi_base.specs.declared.pos.Pos.{Pos}
use Rattle.pungi_base.specs.declared.value.Value.{Value}
use Rattle.pungi_resolved.specs.Functions.{ResolvedFunction}
use Rattle.pungi_world.specs.declared.content.Content.{Content}
use Rattle.pungi_world.specs.declared.content.Content.TheVariants.{Holds}
use Rattle.pungi_world.specs.declared.world.World.{World}
use Rattle.pungi_meaning.specs.Frames.{Frame, waiting, numbered, takes}
use Rattle.pungi_meaning.specs.Frames as meant
use Rattle.pungi_meaning.specs.Todo.{Operation, Entered, Todo, State, Step, Goes, Calls, Returns, Stops, Wants}
use Rattle.pungi_meaning.specs.Run.{Run, End, Returned, Stopped, NeedsChoice, OutOfFuel, end_at_once, with_operations}
use Rattle.pungi_meaning.specs.Run.{act, run_from, body_of, with_value, after_return, run_after}
use Rattle.pungi_meaning.specs.Run.{entered}
use Rattle.pungi_code.specs.declared.atom.Atom.{Atom}
use Rattle.pungi_code.specs.declared.atom.Var.{Var}
use Rattle.pungi_code.specs.declared.code.Code.{Code}
use Rattle.pungi_code.specs.declared.code.Line.{Line}
use Rattle.pungi_code.specs.declared.instr.Instr.TheVariants.{Call}
use Rattle.pungi_code.specs.Frames.{CodeFrame, code_numbered, with_params, enter, resumed, resume, leave}
use Rattle.pungi_code.specs.Registers.{Regs, put, all_values, with_values}
use Rattle.pungi_code.specs.Run.{Around, among, calling, fetch_in, execute, exec_in}
use Rattle.pungi_code.specs.Alike.{IsOver, Alike}
use Rattle.pungi_code.proofs.Longer.{longer, one_end}

-- i more instructions than j
abbrev pub ahead : ℕ → ℕ → ℕ
ahead zero j = j
ahead (suc i) j = suc (ahead i j)

pub ahead_is : (i j : ℕ) → ahead i j ≡ i + j
ahead_is zero j = omega arith
ahead_is (suc i) j = omega (arith, ahead_is i j)

-- `Stands code k s pc m`: what remains, in this state, stands in the code at this place, with what is held there
module _ (Stands : List Line → List Todo → State → ℕ → Regs → Type 0) where
  -- the code goes on to where what remains stands, in at least b instructions
  pub record GoesOn (around : Around) (code : List Line) (ops : List Operation) (k : List Todo) (s : State) (b pc : ℕ)
      (m : Regs) : Type 0 where
    pub count : ℕ
    pub least : b ≤ count
    pub place : ℕ
    pub regs : Regs
    pub by : (j : ℕ) → exec_in around code (ahead count j) pc m
        ≡ with_operations ops (exec_in around code j place regs)
    pub stands : Stands code k s place regs

  -- whatever a call leaves, what remains then stands after it
  abbrev pub After : List Line → List Todo → List Content → List Value → ℕ → List Content → Bool → Option Var → Type 0
  After code k locals values place vars true (Some x) =
      (w : World) (used : List Pos) (v : Value)
      → Stands code k (record { world = w; used = used; locals = locals; values = v ∷ values }) place
      (put x (Holds v) (record { world = w; used = used; vars = vars }))
  After code k locals values place vars false None =
      (w : World) (used : List Pos)
      → Stands code k (record { world = w; used = used; locals = locals; values = values }) place
      (record { world = w; used = used; vars = vars })
  After code k locals values place vars b x = ⊥

  -- the code stands at a call with these arguments
  pub record IsCall (code : List Line) (p : Pos) (n : ℕ) (b : Bool) (args : List Value) (k : List Todo) (s : State)
      (pc : ℕ) (m : Regs) : Type 0 where
    pub into : Option Var
    pub atoms : List Atom
    pub line : slice_get code pc ≡ Some (record { pos = p; instr = Call into n atoms })
    pub values : all_values atoms m.vars ≡ Some args
    pub world : m.world ≡ s.world
    pub used : m.used ≡ s.used
    pub after : After code k s.locals s.values (pc + 1) m.vars b into

  -- the code does a step
  abbrev pub Leads : Around → List Line → Step → ℕ → ℕ → Regs → Type 0
  Leads around code (Goes ops k s) b pc m = GoesOn around code ops k s b pc m
  Leads around code (Calls p n has args k s) b pc m = (b ≡ 0) × IsCall code p n has args k s pc m
  Leads around code (Returns w v p used) b pc m =
      (j : ℕ) → exec_in around code (suc j) pc m
      ≡ leave (execute around.codes around.choices j) around.frames w v p used
  Leads around code (Stops p) b pc m = (i : ℕ) × (exec_in around code i pc m ≡ end_at_once (Stopped p))
  Leads around code Wants b pc m = (i : ℕ) × (exec_in around code i pc m ≡ end_at_once NeedsChoice)

  module _ (weight : List Todo → ℕ) (most : ℕ) where
    -- a step leaves less than this
    abbrev pub Lighter : ℕ → Step → Type 0
    Lighter n (Goes ops k s) = weight k + 1 ≤ n
    Lighter n (Calls p f b args k s) = weight k + 1 ≤ n
    Lighter n (Returns w v p used) = Unit {0}
    Lighter n (Stops p) = Unit {0}
    Lighter n Wants = Unit {0}

    -- after instructions that do nothing a step is done by at least b instructions, and a step that is done by none
    -- leaves less
    pub record Simulates (around : Around) (code : List Line) (st : Step) (n pc : ℕ) (m : Regs) : Type 0 where
      pub before : ℕ
      pub place : ℕ
      pub skip : (j : ℕ) → exec_in around code (ahead before j) pc m ≡ exec_in around code j place m
      pub jumps : ℕ
      pub leads : Leads around code st jumps place m
      pub lighter : Lighter (n + most * jumps) st

    abbrev pub weights : List Frame → ℕ
    weights [] = 0
    weights (c ∷ frames) = weight c.todos + weights frames

    -- the functions that wait stand in the codes that wait
    pub record IsWaiting (c : Frame) (b : CodeFrame) : Type 0 where
      pub call : c.call ≡ b.call
      pub after : After b.instrs c.todos c.locals c.values b.place b.vars c.has_value b.into

    abbrev pub AreWaiting : List Frame → List CodeFrame → Type 0
    AreWaiting [] [] = Unit {0}
    AreWaiting (c ∷ frames) (b ∷ below) = IsWaiting c b × AreWaiting frames below
    AreWaiting frames below = ⊥

    -- a function begins where its code begins
    pub record Begins (g : ResolvedFunction) (c : Code) : Type 0 where
      pub params : c.params ≡ length g.params
      pub small : weight (body_of g) ≤ most
      pub stands : (args : List Value) (s : State) (m : Regs) → length args ≡ length g.params → m.world ≡ s.world
          → m.used ≡ s.used
          → Stands c.instrs (body_of g) (meant.with_params g args s) 0 (with_params c args m)

    abbrev pub Begin : Option ResolvedFunction → Option Code → Type 0
    Begin None None = Unit {0}
    Begin (Some g) (Some c) = Begins g c
    Begin g c = ⊥

    -- what the code does where a run of n steps is so, and w more steps may pass without an instruction
    abbrev pub Follows : Around → List Line → Run → ℕ → ℕ → ℕ → Regs → Type 0
    Follows around code r n w pc m =
        (j : ℕ) × (r.end ≡ OutOfFuel → n ≤ most * j + w) × (exec_in around code j pc m ≡ r)

    more : (around : Around) (code : List Line) (ops : List Operation) (r : Run) (n w v b pc : ℕ) (m : Regs)
        (k : List Todo) (s : State) (g : GoesOn around code ops k s b pc m) → v + 1 ≤ w + most * b
        → Follows around code r n v g.place g.regs
        → Follows around code (with_operations ops r) (suc n) w pc m
    more around code ops r n w v b pc m k s g le f =
        let least : b ≤ g.count = g.least in
        let c : most * b ≤ most * g.count = mul-le-mul_left most least in
        let d : most * (g.count + f.0) ≡ most * g.count + most * f.0 = omega arith in
        let h : most * ahead g.count f.0 ≡ most * (g.count + f.0) = ap (λ x. most * x) (ahead_is g.count f.0) in (
          ahead g.count f.0,
          λ out. let l : n ≤ most * f.0 + v = f.1 out in omega (arith, le, l, c, d, h),
          g.by f.0
              ∙ ap (with_operations ops) f.2,
        )

    behind : (around : Around) (code : List Line) (r : Run) (n w before pc place : ℕ) (m : Regs)
        → ((j : ℕ) → exec_in around code (ahead before j) pc m ≡ exec_in around code j place m)
        → Follows around code r n w place m → Follows around code r n w pc m
    behind around code r n w before pc place m skip f =
        let h : most * ahead before f.0 ≡ most * (before + f.0) = ap (λ x. most * x) (ahead_is before f.0) in
        let d : most * (before + f.0) ≡ most * before + most * f.0 = omega arith in (
          ahead before f.0,
          λ out. let l : n ≤ most * f.0 + w = f.1 out in omega (arith, l, h, d),
          skip f.0 ∙ f.2,
        )

    -- `begin`: each function that is called begins where its code begins
    module _ (fs : List (Option ResolvedFunction)) (codes : List (Option Code)) (choices : List Choice)
        (Called : ℕ → Type 0) (begin : (n : ℕ) → Called n → Begin (numbered fs n) (code_numbered codes n))
        (some : 1 ≤ most) where
      -- a function is called that a code calls where it stands
      abbrev pub CallsAt : List Line → ℕ → Type 0
      CallsAt code pc =
          (p : Pos) (x : Option Var) (n : ℕ) (as' : List Atom)
          → slice_get code pc ≡ Some (record { pos = p; instr = Call x n as' }) → Called n

      -- what is to be shown of the rest of a run
      abbrev Next : ℕ → Type 0
      Next n = (frames : List Frame) (below : List CodeFrame) (code : List Line) (k : List Todo) (s : State) (pc : ℕ)
          (m : Regs) → AreWaiting frames below → Stands code k s pc m
          → Follows (among codes choices below) code (run_from fs choices n frames k s) n (weight k + weights frames) pc
          m

      -- ---- a call

      calls : (below : List CodeFrame) (code : List Line) (p : Pos) (f : ℕ) (b : Bool) (args : List Value)
          (k : List Todo) (s : State) (pc : ℕ) (m : Regs) (c : IsCall code p f b args k s pc m) (o : Option Code)
          → code_numbered codes f ≡ o → (j : ℕ)
          → exec_in (among codes choices below) code (suc j) pc m
          ≡ enter (execute codes choices j) below (calling p code pc c.into m) f args m o
      calls below code p f b args k s pc m c o e j =
          ap (λ l. fetch_in (among codes choices below) (execute codes choices j) code l pc m) c.line
          ∙ ap (λ v. with_values v p
          (λ vs. enter (execute codes choices j) below (calling p code pc c.into m) f vs m (code_numbered codes f)))
          c.values
          ∙ ap (λ x. enter (execute codes choices j) below (calling p code pc c.into m) f args m x) e

      -- what a function does that is entered, where d says that it takes so many arguments
      abbrev entered_so : ℕ → List Frame → Pos → ℕ → Bool → List Value → List Todo → State → ResolvedFunction → Bool
          → Run
      entered_so n frames p f b args k s g d =
          if d then with_operations (Entered p f args ∷ [])
          (run_from fs choices n (waiting p b k s ∷ frames) (body_of g) (meant.with_params g args s)) else
          end_at_once (Stopped p)

      -- and its code
      abbrev code_so : ℕ → List CodeFrame → CodeFrame → ℕ → List Value → Regs → Code → Bool → Run
      code_so j below b f args m o d =
          if d then with_operations (Entered b.call f args ∷ [])
          (execute codes choices j (b ∷ below) o.instrs 0 (with_params o args m)) else end_at_once (Stopped b.call)

      enters_code : (n : ℕ) → Next n → (frames : List Frame) (below : List CodeFrame) (code : List Line) (p : Pos)
          (f : ℕ) (b : Bool) (args : List Value) (k : List Todo) (s : State) (w pc : ℕ) (m : Regs)
          (c : IsCall code p f b args k s pc m) → AreWaiting frames below → weight k + 1 ≤ w
          → (g : ResolvedFunction) (o : Code) → Begins g o → code_numbered codes f ≡ Some o
          → (d : Bool) → (length args == length g.params) ≡ d
          → Follows (among codes choices below) code (entered (run_from fs choices n) frames p f b args k s (Some g))
          (suc n) (w + weights frames) pc m
      enters_code n next frames below code p f b args k s w pc m c wait le g o h e true is =
          let long : length args ≡ length g.params = eqb-true (length args) (length g.params) is in
          let same : (length args == o.params) ≡ true = ap (λ x. length args == x) h.params ∙ is in
          let frame = calling p code pc c.into m in
          let r = next (waiting p b k s ∷ frames) (frame ∷ below) o.instrs (body_of g)
          (meant.with_params g args s) 0 (with_params o args m)
          (record { call = refl; after = c.after }, wait) (h.stands args s m long c.world c.used) in
          let small : weight (body_of g) ≤ most = h.small in
          let d : most * suc r.0 ≡ most * r.0 + most = omega arith in (
            suc r.0,
            λ out. let l : n ≤ most * r.0 + (weight (body_of g) + (weight k + weights frames))
                = r.1 (sym (ap (λ x. (entered_so n frames p f b args k s g x).end) is) ∙ out) in
                omega (arith, l, small, le, d),
            calls below code p f b args k s pc m c (Some o) e r.0
                ∙ ap (code_so r.0 below frame f args m o) same
                ∙ ap (with_operations (Entered p f args ∷ [])) r.2
                ∙ sym (ap (entered_so n frames p f b args k s g) is),
          )
      enters_code n next frames below code p f b args k s w pc m c wait le g o h e false is =
          let same : (length args == o.params) ≡ false = ap (λ x. length args == x) h.params ∙ is in
          let frame = calling p code pc c.into m in (
            1,
            λ out. absurd (subst IsOver (sym (ap (λ x. (entered_so n frames p f b args k s g x).end) is) ∙ out) tt),
            calls below code p f b args k s pc m c (Some o) e 0
                ∙ ap (code_so 0 below frame f args m o) same
                ∙ sym (ap (entered_so n frames p f b args k s g) is),
          )

      enters : (n : ℕ) → Next n → (frames : List Frame) (below : List CodeFrame) (code : List Line) (p : Pos) (f : ℕ)
          (b : Bool) (args : List Value) (k : List Todo) (s : State) (w pc : ℕ) (m : Regs)
          (c : IsCall code p f b args k s pc m) → AreWaiting frames below → weight k + 1 ≤ w
          → (g : Option ResolvedFunction) (o : Option Code) → Begin g o → code_numbered codes f ≡ o
          → Follows (among codes choices below) code (entered (run_from fs choices n) frames p f b args k s g) (suc n)
          (w + weights frames) pc m
      enters n next frames below code p f b args k s w pc m c wait le (Some g) None h e = absurd h
      enters n next frames below code p f b args k s w pc m c wait le None (Some o) h e = absurd h
      enters n next frames below code p f b args k s w pc m c wait le None None h e = (
        1,
        λ out. absurd (subst IsOver out tt),
        calls below code p f b args k s pc m c None e 0,
      )
      enters n next frames below code p f b args k s w pc m c wait le (Some g) (Some o) h e =
          enters_code n next frames below code p f b args k s w pc m c wait le g o h e
          (length args == length g.params) refl

      -- ---- a return

      -- the newest code that waits goes on
      resumes : (n : ℕ) (frames : List Frame) (above below : List CodeFrame) (code instrs : List Line) (k : List Todo)
          (s : State) (w u pc place : ℕ) (m r : Regs)
          → ((j : ℕ) → exec_in (among codes choices above) code (suc j) pc m
          ≡ execute codes choices j below instrs place r)
          → Follows (among codes choices below) instrs (run_from fs choices n frames k s) n u place r
          → Follows (among codes choices above) code (run_from fs choices n frames k s) (suc n) (w + u) pc m
      resumes n frames above below code instrs k s w u pc place m r by f =
          let d : most * suc f.0 ≡ most * f.0 + most = omega arith in (
            suc f.0,
            λ out. let l : n ≤ most * f.0 + u = f.1 out in omega (arith, l, some, d),
            by f.0 ∙ f.2,
          )

      returns_to : (n : ℕ) → Next n → (frames : List Frame) (above below : List CodeFrame) (code : List Line)
          (c : Frame) (b : CodeFrame) (x : World) (v : Option Value) (used : List Pos) (w pc : ℕ) (m : Regs)
          → AreWaiting frames below → c.call ≡ b.call → (has : Bool) (into : Option Var)
          → After b.instrs c.todos c.locals c.values b.place b.vars has into
          → ((j : ℕ) → exec_in (among codes choices above) code (suc j) pc m
          ≡ resume (execute codes choices j) below b x used into v)
          → Follows (among codes choices above) code
          (if has then with_value (run_from fs choices n) frames c x used v else
          run_from fs choices n frames c.todos (meant.resumed c x used c.values)) (suc n)
          (w + (weight c.todos + weights frames)) pc m
      returns_to n next frames above below code c b x None used w pc m wait call true (Some y) after by =
          (1, λ out. absurd (subst IsOver out tt), by 0 ∙ ap (λ q. end_at_once (Stopped q)) (sym call))
      returns_to n next frames above below code c b x (Some z) used w pc m wait call true (Some y) after by =
          let s = meant.resumed c x used (z ∷ c.values) in
          let r = put y (Holds z) (resumed b x used) in
          resumes n frames above below code b.instrs c.todos s w (weight c.todos + weights frames) pc b.place m r by
          (next frames below b.instrs c.todos s b.place r wait (after x used z))
      returns_to n next frames above below code c b x v used w pc m wait call false None after by =
          let s = meant.resumed c x used c.values in
          let r = resumed b x used in
          resumes n frames above below code b.instrs c.todos s w (weight c.todos + weights frames) pc b.place m r by
          (next frames below b.instrs c.todos s b.place r wait (after x used))
      returns_to n next frames above below code c b x v used w pc m wait call true None after by = absurd after
      returns_to n next frames above below code c b x v used w pc m wait call false (Some y) after by = absurd after

      returns : (n : ℕ) → Next n → (frames : List Frame) (below : List CodeFrame) (code : List Line) (x : World)
          (v : Option Value) (p : Pos) (used : List Pos) (w pc : ℕ) (m : Regs) → AreWaiting frames below
          → ((j : ℕ) → exec_in (among codes choices below) code (suc j) pc m
          ≡ leave (execute codes choices j) below x v p used)
          → Follows (among codes choices below) code (after_return (run_from fs choices n) frames x v p used) (suc n)
          (w + weights frames) pc m
      returns n next [] [] code x v p used w pc m wait by = (1, λ out. absurd (subst IsOver out tt), by 0)
      returns n next [] (b ∷ below) code x v p used w pc m wait by = absurd wait
      returns n next (c ∷ frames) [] code x v p used w pc m wait by = absurd wait
      returns n next (c ∷ frames) (b ∷ below) code x v p used w pc m wait by =
          returns_to n next frames (b ∷ below) below code c b x v used w pc m wait.1 wait.0.call c.has_value b.into
          wait.0.after by

      -- ---- a step

      after_step : (n : ℕ) → Next n → (frames : List Frame) (below : List CodeFrame) (code : List Line) (st : Step)
          (w b pc : ℕ) (m : Regs) → CallsAt code pc → AreWaiting frames below
          → Leads (among codes choices below) code st b pc m → Lighter (w + most * b) st
          → Follows (among codes choices below) code (run_after fs (run_from fs choices n) frames st) (suc n)
          (w + weights frames) pc m
      after_step n next frames below code (Goes ops k s) w b pc m there wait g l =
          more (among codes choices below) code ops (run_from fs choices n frames k s) n (w + weights frames)
          (weight k + weights frames) b pc m k s g (omega (arith, l))
          (next frames below code k s g.place g.regs wait g.stands)
      after_step n next frames below code (Calls p f has args k s) w b pc m there wait g l =
          enters n next frames below code p f has args k s w pc m g.1 wait
          (let none : most * b ≡ most * 0 = ap (λ x. most * x) g.0 in
          let z : most * 0 ≡ 0 = omega arith in omega (arith, l, none, z))
          (numbered fs f) (code_numbered codes f) (begin f (there p g.1.into f g.1.atoms g.1.line)) refl
      after_step n next frames below code (Returns x v p used) w b pc m there wait g l =
          returns n next frames below code x v p used w pc m wait g
      after_step n next frames below code (Stops p) w b pc m there wait g l =
          (g.0, λ out. absurd (subst IsOver out tt), g.1)
      after_step n next frames below code Wants w b pc m there wait g l =
          (g.0, λ out. absurd (subst IsOver out tt), g.1)

      -- ---- ends of whole runs

      goes_by : (code : List Line) (r : Run) (n w pc : ℕ) (m : Regs) → w ≤ most → r.end ≡ OutOfFuel
          → Follows (among codes choices []) code r n w pc m
          → (j : ℕ) × (n ≤ most * (j + 1)) × (execute codes choices j [] code pc m ≡ r)
      goes_by code r n w pc m le h f =
          let d : most * (f.0 + 1) ≡ most * f.0 + most = omega arith in
          let l : n ≤ most * f.0 + w = f.1 h in
          (f.0, omega (arith, l, le, d), f.2)

      enough_steps : (i j w : ℕ) → w ≤ most → most * (i + 1) ≤ most * j + w → i ≤ j
      enough_steps i j w le h =
          ⊎_elim
          (λ lt.
          let c : most * (j + 1) ≤ most * i = mul-le-mul_left most (omega arith) in
          let d : most * (j + 1) ≡ most * j + most = omega arith in
          let e : most * (i + 1) ≡ most * i + most = omega arith in
          absurd (omega (arith, c, d, e, h, le, some)))
          (λ ge. ge)
          (cases_lt j i)

      only_by : (code : List Line) (d : End) (r : Run) (i w pc : ℕ) (m : Regs) (o : Run) → r.end ≡ d → w ≤ most
          → IsOver o.end → execute codes choices i [] code pc m ≡ o
          → Follows (among codes choices []) code r (most * (i + 1)) w pc m → r ≡ o
      only_by code OutOfFuel r i w pc m o is le end_at_once h f =
          let le' = enough_steps i f.0 w le (f.1 is) in
          let same = longer codes choices i f.0 le' [] code pc m o end_at_once h in
          absurd (subst IsOver (ap (λ (x : Run). x.end) (sym same ∙ f.2) ∙ is) end_at_once)
      only_by code (Returned x v p used) r i w pc m o is le end_at_once h f =
          one_end codes choices [] code f.0 i pc m r o (subst IsOver (sym is) tt) end_at_once f.2 h
      only_by code (Stopped p) r i w pc m o is le end_at_once h f =
          one_end codes choices [] code f.0 i pc m r o (subst IsOver (sym is) tt) end_at_once f.2 h
      only_by code NeedsChoice r i w pc m o is le end_at_once h f =
          one_end codes choices [] code f.0 i pc m r o (subst IsOver (sym is) tt) end_at_once f.2 h

      -- ---- whole runs

      module _ (calls_there : (code : List Line) (k : List Todo) (s : State) (pc : ℕ) (m : Regs)
          → Stands code k s pc m → (place : ℕ) → CallsAt code place)
          (simulates : (below : List CodeFrame) (code : List Line) (k : List Todo) (s : State) (pc : ℕ) (m : Regs)
          → Stands code k s pc m
          → Simulates (among codes choices below) code (act choices k s) (weight k) pc m) where
        pub follows : (n : ℕ) → Next n
        follows zero frames below code k s pc m wait h = (0, λ out. omega arith, refl)
        follows (suc n) frames below code k s pc m wait h =
            let i = simulates below code k s pc m h in
            behind (among codes choices below) code (run_after fs (run_from fs choices n) frames (act choices k s))
            (suc n) (weight k + weights frames) i.before pc i.place m i.skip
            (after_step n (follows n) frames below code (act choices k s) (weight k) i.jumps i.place m
            (calls_there code k s pc m h i.place) wait i.leads i.lighter)

        pub alike_by : (code : List Line) (k : List Todo) (s : State) (pc : ℕ) (m : Regs) → Stands code k s pc m
            → weight k ≤ most
            → Alike (λ n. run_from fs choices n [] k s) (λ n. execute codes choices n [] code pc m) most
        alike_by code k s pc m h small =
            let le : weight k + 0 ≤ most = omega (arith, small) in record {
              ends = λ n over. let f = follows n [] [] code k s pc m tt h in (f.0, f.2);
              goes_on = λ n out. goes_by code (run_from fs choices n [] k s) n (weight k + 0) pc m le out
                  (follows n [] [] code k s pc m tt h);
              ends_only = λ i over. only_by code (run_from fs choices (most * (i + 1)) [] k s).end
                  (run_from fs choices (most * (i + 1)) [] k s) i (weight k + 0) pc m
                  (execute codes choices i [] code pc m) refl le over refl
                  (follows (most * (i + 1)) [] [] code k s pc m tt h);
            }
