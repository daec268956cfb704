-- A run lies in a state after a step: the parts that each step shares.
use Rattle.std.proofs.Common.{◌≡◌, ℕ, zero, suc, ◌+◌, ◌-◌, ◌<◌, ◌≤◌, List, [], ◌∷◌, length, map, get_or, Bool, true}
use Rattle.std.proofs.Common.{false, refl, sym, ap, ◌∙◌, arith, ◌⊎◌, inr, Option, None, Some, cond}
use Rattle.std.specs.Prelude.{slice_set, slice_get, take}
use Rattle.std.proofs.Math.ListN.{length-set}
use Rattle.std.proofs.lemmas.List.{map-set}
use Rattle.pungi_base.specs.declared.choice.Choice.{Choice}
use Rattle.pungi_base.specs.declared.pos.Pos.{Pos}
use Rattle.pungi_base.specs.declared.value.Value.{Value}
use Rattle.pungi_base.specs.declared.value.Value.TheVariants as value
use Rattle.pungi_api.specs.declared.param.Param.{Param}
use Rattle.pungi_world.specs.declared.content.Content.{Content}
use Rattle.pungi_world.specs.declared.slot.Slot.{Slot}
use Rattle.pungi_world.specs.declared.slot.Slot.TheVariants as slot
use Rattle.pungi_world.specs.declared.slot.SlotState.{SlotState}
use Rattle.pungi_world.specs.Choices.{value_of}
use Rattle.pungi_code.specs.declared.atom.Atom.{Atom}
use Rattle.pungi_code.specs.declared.atom.Var.{Var}
use Rattle.pungi_code.specs.declared.code.Line.{Line}
use Rattle.pungi_code.specs.declared.instr.Instr.{Instr}
use Rattle.pungi_code.specs.declared.registers.After.TheVariants as after
use Rattle.pungi_code.specs.Registers.{Regs, put, content_of as atom_content}
use Rattle.pungi_symbol.specs.declared.answers.decision.Decision.{Decision}
use Rattle.pungi_symbol.specs.declared.answers.decision.Decision.TheVariants.{Quiet, Outcome, Order, Same as IsSame}
use Rattle.pungi_symbol.specs.declared.states.known.Known.{Known}
use Rattle.pungi_symbol.specs.declared.states.known.Status.TheVariants as status
use Rattle.pungi_symbol.specs.declared.states.mark.Mark.{Mark}
use Rattle.pungi_symbol.specs.declared.states.mark.Mark.TheVariants.{Pointer, TextPointer, IsNull, IsObject, IsText}
use Rattle.pungi_symbol.specs.declared.states.mark.Mark.TheVariants.{IsNumber, IsConverted, Integer}
use Rattle.pungi_symbol.specs.declared.questions.question.Question.{Question}
use Rattle.pungi_symbol.specs.declared.questions.question.Question.TheVariants.{Null as AsksNull, Returns, Stops}
use Rattle.pungi_symbol.specs.declared.states.spot.Progress.{Progress}
use Rattle.pungi_symbol.specs.declared.states.spot.Progress.TheVariants.{Looking, Found}
use Rattle.pungi_symbol.specs.declared.states.obstacle.Obstacle.{Obstacle}
use Rattle.pungi_symbol.specs.declared.states.state.State.{State}
use Rattle.pungi_symbol.specs.declared.states.term.Term.{Term}
use Rattle.pungi_symbol.specs.declared.states.turns.Turns.{Turns}
use Rattle.pungi_symbol.specs.states.Terms.{Table, at, content_of, is_mark, outcomes_of_mark, place_of, mark_at}
use Rattle.pungi_symbol.specs.states.Known.{count, mark_of, term_of}
use Rattle.pungi_symbol.specs.states.Turns.{stepped}
use Rattle.pungi_symbol.specs.answers.SymbolicState.{can, is_decision, is_order, is_outcome, apply}
use Rattle.pungi_symbol.specs.runs.Fits.{IsBelow, IsSound}
use Rattle.pungi_code.specs.WellFormed.{is_there}
use Rattle.pungi_symbol.specs.runs.RunInState.{is_made_slot, IsWalked, answer, Lies}
use Rattle.pungi_symbol.specs.runs.Paths.{returned_value}
use Rattle.pungi_symbol.specs.runs.OneInstruction.{leads, leads_at, leads_line}
use Rattle.pungi_symbol.proofs.steps.ChoicesForAnswers.{Lacks}
use Rattle.pungi_symbol.proofs.states.Contents.{is_open, has_answers, open_answers, atom_term}
use Rattle.pungi_symbol.proofs.answers.Fits.{mark_fits}
use Rattle.pungi_symbol.proofs.states.Terms.{atom_below}
use Rattle.std.specs.declared.cmp.Ordering.{Ordering}
use Rattle.std.specs.declared.cmp.Ordering.TheVariants.{Less, Equal, Greater}
use Rattle.std.proofs.lemmas.Bool.{eq-eqb}

-- each choice is the value of its token
abbrev pub Linked : Table → ℕ → List Choice → Type 0
Linked table base choices = (j : ℕ) (c : Choice) → slice_get choices j ≡ Some c → at table (base + j) ≡ value_of c

-- how many questions an instruction may still ask
abbrev pub one_if : Bool → ℕ
one_if true = 1
one_if false = 0

abbrev pub opens : List Mark → ℕ
opens [] = 0
opens (r ∷ ms) = one_if (is_open r) + opens ms

abbrev pub searching : Progress → ℕ → ℕ
searching (Looking c) n = (n + 1) - c
searching (Found i) n = 0

abbrev pub effort : Known → ℕ
effort k = opens k.marks + searching k.progress (length k.slots + length k.made) + one_if k.turns.arriving

closed : (b : Bool) → b ≡ false → one_if b ≡ 0
closed true e = absurd (let bad : true ≡ false = e in cc)
closed false e = refl

opened : (b : Bool) → b ≡ true → one_if b ≡ 1
opened true e = refl
opened false e = absurd (let bad : false ≡ true = e in cc)

opens_set : (ms : List Mark) (t : ℕ) (r : Mark) → is_open (get_or ms t IsNull) ≡ true → is_open r ≡ false
    → opens (slice_set ms t r) + 1 ≡ opens ms
opens_set [] t r o c = absurd (let bad : false ≡ true = o in cc)
opens_set (x ∷ ms) zero r o c = let a = opened (is_open x) o in let b = closed (is_open r) c in omega (arith, a, b)
opens_set (x ∷ ms) (suc t) r o c = let e = opens_set ms t r o c in omega (arith, e)

pub outcome_closed : (m : Mark) (k : ℕ) → is_open (mark_at (outcomes_of_mark m) k) ≡ false
outcome_closed Pointer zero = refl
outcome_closed Pointer (suc zero) = refl
outcome_closed Pointer (suc (suc k)) = refl
outcome_closed TextPointer zero = refl
outcome_closed TextPointer (suc zero) = refl
outcome_closed TextPointer (suc (suc k)) = refl
outcome_closed IsNull k = refl
outcome_closed IsObject k = refl
outcome_closed IsText k = refl
outcome_closed (IsNumber n) k = refl
outcome_closed (IsConverted n) k = refl
outcome_closed (Integer r) zero = refl
outcome_closed (Integer r) (suc k) = refl

-- where a step of a run leads, and in which state it lies then
pub data Moved (choices : List Choice) (code : List Line) (table : Table) (base : ℕ) (pc : ℕ) (turns : Turns)
    (before : ℕ) (m : Regs) (s' : State) : Type 0 where
  stays : s'.known.pc ≡ pc → s'.known.status ≡ status.Going → s'.known.turns.steps ≡ turns.steps
      → effort s'.known < before → Lies code table base m s'
      → Moved choices code table base pc turns before m s'
  goes_on : (m' : Regs) → length m.world.accounts ≤ length m'.world.accounts
      → leads_at choices code pc m ≡ (after.Goes s'.known.pc, m') → s'.known.status ≡ status.Going
      → s'.known.turns ≡ stepped turns → Lies code table base m' s'
      → Moved choices code table base pc turns before m s'
  leaves : (p : Pos) (x : Option Term) → s'.known.status ≡ status.Returned p x → s'.known.turns.steps ≡ turns.steps
      → leads_at choices code pc m ≡ (after.Leaves p (returned_value table x), m) → Lies code table base m s'
      → Moved choices code table base pc turns before m s'
  blocks : (o : Obstacle) (p : Pos) → s'.known.pc ≡ pc → s'.known.status ≡ status.Blocked o p
      → s'.known.turns.steps ≡ turns.steps → Lies code table base m s'
      → Moved choices code table base pc turns before m s'
  halts : (p : Pos) → s'.known.status ≡ status.Stopped p → s'.known.turns.steps ≡ turns.steps
      → leads_at choices code pc m ≡ (after.Stops p, m) → Lies code table base m s'
      → Moved choices code table base pc turns before m s'

pub as_many : (m : Regs) → length m.world.accounts ≤ length m.world.accounts
as_many m = omega arith

pub none_made : (table : Table) (z : Slot) → is_made_slot table [] z ≡ false
none_made table (slot.Global n) = refl
none_made table (slot.Field o tag field) = refl

nothing_less : (n : ℕ) → 0 - n ≡ 0
nothing_less n = omega arith

pub walked_anew : (table : Table) (made : List ℕ) (slots : List SlotState) (o : Option (Slot × Param))
    → IsWalked table made slots (Looking 0) o
walked_anew table made slots None = tt
walked_anew table made slots (Some s) = (
  refl,
  ap (λ n. is_made_slot table (take n made) s.0) (nothing_less (length slots)) ∙ none_made table s.0,
)

same_order : (o : Ordering) → is_order o o ≡ true
same_order Less = refl
same_order Equal = refl
same_order Greater = refl

pub same_decision : (d : Decision) → is_decision d d ≡ true
same_decision Quiet = refl
same_decision (Outcome k) = eq-eqb k k refl
same_decision (Order o) = same_order o
same_decision (IsSame true) = refl
same_decision (IsSame false) = refl

-- the answer to whether a token is NULL, or that it is a number
pub null_outcome : (m : Mark) (v : Value) → has_answers m ≡ true → is_mark m v ≡ true
    → (is_outcome (length (outcomes_of_mark m)) (Outcome (place_of (outcomes_of_mark m) v)) ≡ true)
    × (is_mark (mark_at (outcomes_of_mark m) (place_of (outcomes_of_mark m) v)) v ≡ true)
null_outcome Pointer value.Null o h = (refl, refl)
null_outcome Pointer (value.Object k) o h = (refl, refl)
null_outcome Pointer (value.Int n) o h = absurd (let bad : false ≡ true = h in cc)
null_outcome Pointer value.Text o h = absurd (let bad : false ≡ true = h in cc)
null_outcome TextPointer value.Null o h = (refl, refl)
null_outcome TextPointer (value.Object k) o h = absurd (let bad : false ≡ true = h in cc)
null_outcome TextPointer (value.Int n) o h = absurd (let bad : false ≡ true = h in cc)
null_outcome TextPointer value.Text o h = (refl, refl)
null_outcome IsNull v o h = absurd (let bad : false ≡ true = o in cc)
null_outcome IsObject v o h = absurd (let bad : false ≡ true = o in cc)
null_outcome IsText v o h = absurd (let bad : false ≡ true = o in cc)
null_outcome (IsNumber n) v o h = absurd (let bad : false ≡ true = o in cc)
null_outcome (IsConverted n) v o h = absurd (let bad : false ≡ true = o in cc)
null_outcome (Integer r) v o h =
    let first : place_of (Integer r ∷ []) v ≡ 0 = ap (λ b. cond b 0 1) h in (
      ap (λ k. is_outcome 1 (Outcome k)) first,
      ap (λ k. is_mark (mark_at (Integer r ∷ []) k) v) first ∙ h,
    )

module _ (choices : List Choice) (code : List Line) (table : Table) (base : ℕ) (m : Regs) (s : State)
    (going : s.known.status ≡ status.Going) (w : IsSound s) (l : Lies code table base m s) (p : Pos) where
  abbrev pub Ln : Instr → Line
  Ln i = record { pos = p; instr = i }

  abbrev pub IsLine : Instr → Type 0
  IsLine i = slice_get code s.known.pc ≡ Some (Ln i)

  -- a choice is wanted, and the next one doesn't suit the question
  abbrev pub Wants : Question → Type 0
  Wants q = (m' : Regs) × (leads_at choices code s.known.pc m ≡ (after.Wants, m'))
      × Lacks m.world choices (length m.used) q

  abbrev pub Result : Instr → Question → Type 0
  Result i q = Wants q ⊎ ((can s q (answer table s.known q) ≡ true)
      × Moved choices code table base s.known.pc s.known.turns (effort s.known) m
      (apply (Some (Ln i)) q (answer table s.known q) s))

  pub marks : (t : ℕ) → t < count s.known → is_mark (mark_of s.known t) (at table t) ≡ true
  marks t lt = l.fits.notes.marks t lt

  pub atom_is : (a : Atom) → is_there s.statics a ≡ true → atom_content a m.vars ≡ content_of table (term_of s.known a)
  atom_is a h = atom_term table s.known s.statics m.vars l.fits.notes.statics l.vars a h

  pub below_is : (a : Atom) → is_there s.statics a ≡ true → IsBelow (count s.known) (term_of s.known a)
  below_is a h = atom_below s.known.marks s.known.vars s.known.slots w.terms s.known s.statics a refl w.notes.statics h

  pub led_is : (i : Instr) → IsLine i → leads_at choices code s.known.pc m ≡ leads choices i p s.known.pc m
  led_is i is = ap (λ line. leads_line choices line s.known.pc m) is

  -- a question about NULL
  pub null_result : (i : Instr) (t : ℕ) → t < count s.known → is_open (mark_of s.known t) ≡ true → Result i (AsksNull t)
  null_result i t lt opened' =
      let o = null_outcome (mark_of s.known t) (at table t) (open_answers (mark_of s.known t) opened') (marks t lt) in
      let new = mark_at (outcomes_of_mark (mark_of s.known t)) (place_of (outcomes_of_mark (mark_of s.known t))
      (at table t)) in
      let len : length (slice_set s.known.marks t new) ≡ length s.known.marks = length-set s.known.marks t new in
      inr (
        o.0,
        stays refl going refl (let e = opens_set s.known.marks t new opened' (outcome_closed (mark_of s.known t)
            (place_of (outcomes_of_mark (mark_of s.known t)) (at table t))) in omega (arith, e)) (record {
              fits = record {
                notes = mark_fits table s.statics s.known.marks s.classes s.others t new o.1 l.fits.notes;
                limits = l.fits.limits;
                new = l.fits.new;
              };
              vars = l.vars;
              slots = l.slots;
              used = l.used ∙ sym len;
              claims = l.claims;
              below = λ u h. l.below u (omega (arith, len, h));
              made = l.made;
              walked = l.walked;
            }),
      )

  -- the run stops
  pub stops_result : (i : Instr) (d : Decision) → IsLine i → leads choices i p s.known.pc m ≡ (after.Stops p, m)
      → Result i (Stops d)
  stops_result i d is e = inr (
    same_decision d,
    halts p refl refl (led_is i is ∙ e) (record {
      fits = record { notes = l.fits.notes; limits = l.fits.limits; new = l.fits.new };
      vars = l.vars;
      slots = l.slots;
      used = l.used;
      claims = l.claims;
      below = l.below;
      made = l.made;
      walked = l.walked;
    }),
  )

  -- the function returns
  pub returns_result : (i : Instr) (x : Option Term) → IsLine i
      → leads choices i p s.known.pc m ≡ (after.Leaves p (returned_value table x), m) → Result i (Returns x)
  returns_result i x is e = inr (
    refl,
    leaves p x refl refl (led_is i is ∙ e) (record {
      fits = record { notes = l.fits.notes; limits = l.fits.limits; new = l.fits.new };
      vars = l.vars;
      slots = l.slots;
      used = l.used;
      claims = l.claims;
      below = l.below;
      made = l.made;
      walked = l.walked;
    }),
  )

  -- the next instruction comes, and a variable holds something else
  pub put_lies : (x : Var) (c : Term) (v : Content) (pc : ℕ) → content_of table c ≡ v
      → Lies code table base (put x v m) (record s {
        known = record s.known {
          pc = pc;
          vars = slice_set s.known.vars
              x.0 c;
          progress = Looking 0;
          turns = stepped s.known.turns;
        };
      })
  put_lies x c v pc e = record {
    fits = record { notes = l.fits.notes; limits = l.fits.limits; new = l.fits.new };
    vars = ap (λ vs. slice_set vs x.0 v) l.vars ∙ ap (slice_set (map (content_of table) s.known.vars) x.0) (sym e)
        ∙ sym (map-set (content_of table) s.known.vars x.0 c);
    slots = l.slots;
    used = l.used;
    claims = l.claims;
    below = l.below;
    made = l.made;
    walked = walked_anew table _ m.world.slots _;
  }

  pub jump_lies : (pc : ℕ) → Lies code table base m (record s {
    known = record s.known
        { pc = pc; progress = Looking 0; turns = stepped s.known.turns };
  })
  jump_lies pc = record {
    fits = record { notes = l.fits.notes; limits = l.fits.limits; new = l.fits.new };
    vars = l.vars;
    slots = l.slots;
    used = l.used;
    claims = l.claims;
    below = l.below;
    made = l.made;
    walked = walked_anew table _ m.world.slots _;
  }
