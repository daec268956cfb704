-- One step of a run and one step of a state: forward.
use Rattle.std.proofs.Common.{◌≡◌, ℕ, List, [], ◌∷◌, length, Bool, true, false, refl, sym, ap, subst, ◌⊎◌, inr, Option}
use Rattle.std.proofs.Common.{None, Some, ◌∙◌, ◌<◌, cond, arith}
use Rattle.std.specs.Prelude.{slice_get}
use Rattle.pungi_base.specs.declared.choice.Choice.{Choice}
use Rattle.pungi_base.specs.declared.pos.Pos.{Pos}
use Rattle.pungi_code.specs.declared.atom.Atom.{Atom}
use Rattle.pungi_code.specs.declared.code.Line.{Line}
use Rattle.pungi_code.specs.declared.instr.Instr.{Instr}
use Rattle.pungi_code.specs.declared.registers.After.TheVariants as after
use Rattle.pungi_code.specs.Registers.{Regs}
use Rattle.pungi_symbol.specs.declared.states.known.Known.{Known}
use Rattle.pungi_symbol.specs.declared.states.known.Status.TheVariants as status
use Rattle.pungi_symbol.specs.declared.questions.question.Question.{Question}
use Rattle.pungi_symbol.specs.declared.questions.question.Question.TheVariants.{Turn}
use Rattle.pungi_symbol.specs.declared.states.obstacle.Obstacle.TheVariants as obstacle
use Rattle.pungi_symbol.specs.declared.states.state.State.{State}
use Rattle.pungi_symbol.specs.declared.states.turns.ReachedHead.{ReachedHead}
use Rattle.pungi_symbol.specs.declared.states.turns.Turns.{Turns}
use Rattle.pungi_symbol.specs.states.Terms.{Table}
use Rattle.pungi_symbol.specs.runs.Fits.{IsSound}
use Rattle.pungi_code.specs.WellFormed.{is_there}
use Rattle.pungi_symbol.specs.runs.RunInState.{answer, Lies}
use Rattle.std.specs.Prelude.{◌&&◌, ◌||◌, nat_le, is_some}
use Rattle.std.specs.List.{list_all}
use Rattle.pungi_code.specs.declared.instr.Instr.TheVariants.{Set, Arith, Fit, Compare, Load, Store, Api, Call}
use Rattle.pungi_code.specs.declared.instr.Instr.TheVariants.{Unset as Forget, Jump, Branch, Return, Fall}
use Rattle.pungi_symbol.specs.questions.NextQuestion.{ask, asks_instr, asks_line, asks_turn, ask_while}
use Rattle.pungi_symbol.specs.states.Turns.{most_steps, head_there, is_bounded, is_bounded_by, blocked_by, blocked_at}
use Rattle.pungi_symbol.specs.states.Turns.{entered_by}
use Rattle.pungi_symbol.specs.declared.answers.decision.Decision.TheVariants.{Quiet}
use Rattle.pungi_symbol.specs.answers.KnownAfter.{turned}
use Rattle.pungi_symbol.specs.answers.SymbolicState.{can, apply}
use Rattle.pungi_code.specs.WellFormed.{atoms_of, atoms_in}
use Rattle.pungi_symbol.specs.runs.JudgedForm.{is_judged_instr}
use Rattle.pungi_symbol.specs.runs.OneInstruction.{leads_at, leads_line}
use Rattle.pungi_symbol.proofs.steps.Rows.{all_there}
use Rattle.pungi_symbol.proofs.steps.ChoicesForAnswers.{Lacks}
use Rattle.pungi_symbol.proofs.steps.RunInState.{Moved, stays, blocks, halts, effort, one_if, Result, Linked, IsLine}
use Rattle.pungi_symbol.proofs.steps.RunInState.{stops_result}
use Rattle.pungi_symbol.proofs.steps.Numbers.{RealFor}
use Rattle.pungi_symbol.proofs.steps.PlainInstructions.{set_result, arith_result, fit_result, forget_result}
use Rattle.pungi_symbol.proofs.steps.PlainInstructions.{jump_result, fall_result, branch_result, return_result}
use Rattle.pungi_symbol.proofs.steps.Comparisons.{compare_result}
use Rattle.pungi_symbol.proofs.steps.Loads.{load_result}
use Rattle.pungi_symbol.proofs.steps.Stores.{store_result}
use Rattle.pungi_symbol.proofs.steps.Calls.{call_result}

pub two_true : (a b : Bool) → (a && b) ≡ true → (a ≡ true) × (b ≡ true)
two_true true b e = (refl, e)
two_true false b e = absurd (let bad : false ≡ true = e in cc)

one_there : (n : ℕ) (a : Atom) → list_all (is_there n) (a ∷ []) ≡ true → is_there n a ≡ true
one_there n a e = (all_there n a [] e).0

-- an instruction of the judged form, whose static objects are there
abbrev pub IsJudgedThere : ℕ → Instr → Type 0
IsJudgedThere n i = (is_judged_instr i ≡ true) × (list_all (is_there n) (atoms_of i) ≡ true)

module _ (choices : List Choice) (code : List Line) (table : Table) (base : ℕ) (m : Regs) (s : State)
    (going : s.known.status ≡ status.Going) (w : IsSound s) (l : Lies code table base m s) (p : Pos) where
  instr_by : (i : Instr) → Linked table base choices → RealFor table s.known (asks_instr s.known i)
      → IsLine choices code table base m s going w l p i
      → is_judged_instr i ≡ true → list_all (is_there s.statics) (atoms_of i) ≡ true
      → Result choices code table base m s going w l p i (asks_instr s.known i)
  instr_by (Set x a) linked real is told h = set_result choices code table base m s going w l p x a is
      (one_there s.statics a h)
  instr_by (Arith x kind o a b) linked real is told h = let r = all_there s.statics a (b ∷ []) h in arith_result choices
      code table base m s going w l p x kind o a b real is r.0 (one_there s.statics b r.1)
  instr_by (Fit x kind a) linked real is told h = fit_result choices code table base m s going w l p x kind a is
      (one_there s.statics a h)
  instr_by (Compare x c a b) linked real is told h = let r = all_there s.statics a (b ∷ []) h in compare_result choices
      code table base m s going w l p x c a b is r.0 (one_there s.statics b r.1)
  instr_by (Load x place) linked real is told h = load_result choices code table base m s going w l p x place linked
      told h is
  instr_by (Store place a) linked real is told h = let r = all_there s.statics a (atoms_in place) h in store_result
      choices code table base m s going w l p place a linked told r.0 r.1 is
  instr_by (Api x shape as') linked real is told h = call_result choices code table base m s going w l p x shape
      as' linked told h is
  instr_by (Call x f as') linked real is told h = stops_result choices code table base m s going w l p (Call x f as')
      Quiet is refl
  instr_by (Forget x) linked real is told h = forget_result choices code table base m s going w l p x is
  instr_by (Jump to) linked real is told h = jump_result choices code table base m s going w l p to is
  instr_by (Branch a this other) linked real is told h = branch_result choices code table base m s going w l p a this
      other is (one_there s.statics a h)
  instr_by (Return o) linked real is told h = return_result choices code table base m s going w l p o is h
  instr_by Fall linked real is told h = fall_result choices code table base m s going w l p is

  pub instr_result : (i : Instr) → Linked table base choices → RealFor table s.known (asks_instr s.known i)
      → IsLine choices code table base m s going w l p i
      → IsJudgedThere s.statics i → Result choices code table base m s going w l p i (asks_instr s.known i)
  instr_result i linked real is e = instr_by i linked real is e.0 e.1

-- each line of a code has the judged form
abbrev pub AreObjectLines : ℕ → List Line → Type 0
AreObjectLines n code = (pc : ℕ) (line : Line) → slice_get code pc ≡ Some line → IsJudgedThere n line.instr

pub going_ask : (code : List Line) (k : Known) → k.status ≡ status.Going
    → ask code k ≡ asks_turn k (asks_line k (slice_get code k.pc))
going_ask code k e = ap (λ z. ask_while z (asks_turn k (asks_line k (slice_get code k.pc)))) e

-- the next instruction asks, as no bound is met before it
pub line_ask : (code : List Line) (k : Known) → k.status ≡ status.Going → is_bounded k.turns k.pc ≡ false
    → ask code k ≡ asks_line k (slice_get code k.pc)
line_ask code k e b = going_ask code k e ∙ ap (λ z. cond z Turn (asks_line k (slice_get code k.pc))) b

-- a bound is met before the next instruction
pub turn_ask : (code : List Line) (k : Known) → k.status ≡ status.Going → is_bounded k.turns k.pc ≡ true
    → ask code k ≡ Turn
turn_ask code k e b = going_ask code k e ∙ ap (λ z. cond z Turn (asks_line k (slice_get code k.pc))) b

-- where a bound is met: a loop's head is counted, or the path isn't followed
pub data Turned (code : List Line) (table : Table) (base : ℕ) (s : State) (m : Regs) (s' : State) : Type 0 where
  counts : s'.known.pc ≡ s.known.pc → s'.known.status ≡ status.Going → s'.known.turns.steps ≡ s.known.turns.steps
      → effort s'.known < effort s.known → Lies code table base m s' → Turned code table base s m s'
  cuts : (p : Pos) → s'.known.pc ≡ s.known.pc → s'.known.status ≡ status.Blocked obstacle.Loop p
      → s'.known.turns.steps ≡ s.known.turns.steps → Lies code table base m s' → Turned code table base s m s'

pub turned_moved : (choices : List Choice) (code : List Line) (table : Table) (base : ℕ) (s : State) (m : Regs)
    (s' : State) → Turned code table base s m s'
    → Moved choices code table base s.known.pc s.known.turns (effort s.known) m s'
turned_moved choices code table base s m s' (counts pc going steps less l) = stays pc going steps less l
turned_moved choices code table base s m s' (cuts p pc e steps l) = blocks obstacle.Loop p pc e steps l

-- a head is only counted where the path has just reached it
arriving_by : (b a c : Bool) (x : Pos) (o : Option Pos) → (b || (a && c)) ≡ true → cond b (Some x) o ≡ None
    → a ≡ true
arriving_by true a c x o e f = absurd (let bad : Some x ≡ None = f in cc)
arriving_by false true c x o e f = refl
arriving_by false false c x o e f = absurd (let bad : false ≡ true = e in cc)

arriving_of : (heads : List ReachedHead) (t : Turns) (pc : ℕ) → is_bounded_by heads t pc ≡ true
    → blocked_at t pc ≡ None → t.arriving ≡ true
arriving_of [] t pc e f = absurd (let bad : false ≡ true = e in cc)
arriving_of (h ∷ hs) t pc e f = arriving_by (nat_le most_steps t.steps) t.arriving (is_some (head_there t pc)) t.last
    (blocked_by t (head_there t pc)) e f

entered_steps : (o : Option ℕ) (t : Turns) → (entered_by o t).steps ≡ t.steps
entered_steps None t = refl
entered_steps (Some i) t = refl

entered_arriving : (o : Option ℕ) (t : Turns) → (entered_by o t).arriving ≡ false
entered_arriving None t = refl
entered_arriving (Some i) t = refl

-- the step of a run from a moment that lies in a state
module _ (choices : List Choice) (code : List Line) (table : Table) (base : ℕ) (m : Regs) (s : State)
    (going : s.known.status ≡ status.Going) (w : IsSound s) (l : Lies code table base m s) where
  abbrev pub Stepped : Option Line → Question → Type 0
  Stepped line q = ((m' : Regs) × (leads_at choices code s.known.pc m ≡ (after.Wants, m'))
      × Lacks m.world choices (length m.used) q)
      ⊎ ((can s q (answer table s.known q) ≡ true)
      × Moved choices code table base s.known.pc s.known.turns (effort s.known) m
      (apply line q (answer table s.known q) s))

  line_by : (o : Option Line) → Linked table base choices → RealFor table s.known (asks_line s.known o)
      → slice_get code s.known.pc ≡ o
      → ((line : Line) → o ≡ Some line → IsJudgedThere s.statics line.instr)
      → Stepped o (asks_line s.known o)
  line_by None linked real e form = inr (
    refl,
    halts _ refl refl (ap (λ o. leads_line choices o s.known.pc m) e) (record {
      fits = record { notes = l.fits.notes; limits = l.fits.limits; new = l.fits.new };
      vars = l.vars;
      slots = l.slots;
      used = l.used;
      claims = l.claims;
      below = l.below;
      made = l.made;
      walked = l.walked;
    }),
  )
  line_by (Some line) linked real e form = instr_result choices code table base m s going w l line.pos line.instr
      linked real e (form line refl)

  pub moves : is_bounded s.known.turns s.known.pc ≡ false → Linked table base choices
      → RealFor table s.known (ask code s.known) → AreObjectLines s.statics code
      → Stepped (slice_get code s.known.pc) (ask code s.known)
  moves unmet linked real form =
      subst (Stepped (slice_get code s.known.pc)) (sym (line_ask code s.known going unmet))
      (line_by (slice_get code s.known.pc) linked
      (subst (RealFor table s.known) (line_ask code s.known going unmet) real) refl (λ line e. form s.known.pc line e))

  -- ---- a bound

  abbrev pub Turning : Option Line → Question → Type 0
  Turning line q = (can s q (answer table s.known q) ≡ true)
      × Turned code table base s m (apply line q (answer table s.known q) s)

  turn_lies : (turns : Turns) → Lies code table base m (record s { known = record s.known { turns = turns } })
  turn_lies turns = record {
    fits = record { notes = l.fits.notes; limits = l.fits.limits; new = l.fits.new };
    vars = l.vars;
    slots = l.slots;
    used = l.used;
    claims = l.claims;
    below = l.below;
    made = l.made;
    walked = l.walked;
  }

  less_effort : (turns : Turns) → s.known.turns.arriving ≡ true → turns.arriving ≡ false
      → effort (record s.known { turns = turns }) < effort s.known
  less_effort turns e f =
      let now : one_if turns.arriving ≡ 0 = ap one_if f in
      let before : one_if s.known.turns.arriving ≡ 1 = ap one_if e in
      omega (arith, now, before)

  turn_by : (o : Option Pos) → (o ≡ None → s.known.turns.arriving ≡ true)
      → Turned code table base s m (record s { known = turned o s.known })
  turn_by None first =
      let at = head_there s.known.turns s.known.pc in
      counts refl going (entered_steps at s.known.turns) (less_effort (entered_by at s.known.turns) (first refl)
      (entered_arriving at s.known.turns)) (turn_lies (entered_by at s.known.turns))
  turn_by (Some p) first = cuts p refl refl refl (record {
    fits = record { notes = l.fits.notes; limits = l.fits.limits; new = l.fits.new };
    vars = l.vars;
    slots = l.slots;
    used = l.used;
    claims = l.claims;
    below = l.below;
    made = l.made;
    walked = l.walked;
  })

  pub turn_moves : is_bounded s.known.turns s.known.pc ≡ true
      → Turning (slice_get code s.known.pc) (ask code s.known)
  turn_moves met = subst (Turning (slice_get code s.known.pc)) (sym (turn_ask code s.known going met)) (
    refl,
    turn_by (blocked_at s.known.turns s.known.pc) (arriving_of s.known.turns.heads s.known.turns s.known.pc met),
  )

  -- whether a bound is met or not
  moves_by : (b : Bool) → is_bounded s.known.turns s.known.pc ≡ b → Linked table base choices
      → RealFor table s.known (ask code s.known) → AreObjectLines s.statics code
      → Stepped (slice_get code s.known.pc) (ask code s.known)
  moves_by true e linked real form =
      let r = turn_moves e in
      inr (r.0, turned_moved choices code table base s m _ r.1)
  moves_by false e linked real form = moves e linked real form

  pub moves_on : Linked table base choices → RealFor table s.known (ask code s.known)
      → AreObjectLines s.statics code → Stepped (slice_get code s.known.pc) (ask code s.known)
  moves_on linked real form = moves_by (is_bounded s.known.turns s.known.pc) refl linked real form
