-- One instruction of a run among the codes of a file, by what it is.
use Rattle.std.proofs.Common.{◌≡◌, ℕ, zero, suc, ◌+◌, true, List, [], Option, Some, None, refl, sym, ap}
use Rattle.std.proofs.Common.{◌∙◌, subst}
use Rattle.std.specs.Prelude.{slice_get}
use Rattle.pungi_base.specs.declared.choice.Choice.{Choice}
use Rattle.pungi_base.specs.declared.pos.Pos.{Pos}
use Rattle.pungi_base.specs.declared.value.Value.{Value}
use Rattle.pungi_world.specs.declared.content.Content.TheVariants as content
use Rattle.pungi_world.specs.declared.world.World.{World}
use Rattle.pungi_meaning.specs.Run.{Run, Returned, Stopped, nowhere}
use Rattle.pungi_code.specs.declared.atom.Atom.{Atom}
use Rattle.pungi_code.specs.declared.atom.Var.{Var}
use Rattle.pungi_code.specs.declared.code.Code.{Code}
use Rattle.pungi_code.specs.declared.code.Line.{Line}
use Rattle.pungi_code.specs.declared.instr.Instr.{Instr}
use Rattle.pungi_code.specs.declared.instr.Instr.TheVariants.{Set, Call, Unset, Jump, Return}
use Rattle.pungi_code.specs.declared.instr.Label.{Label}
use Rattle.pungi_code.specs.Frames.{CodeFrame}
use Rattle.pungi_code.specs.Perform.{perform}
use Rattle.pungi_code.specs.Registers.{Regs, put, content_of, with_value}
use Rattle.pungi_code.specs.Run.{among, perform_in, fetch_in, fetch, exec, execute}
use Rattle.pungi_inline.specs.Laws.{Returns}
use Rattle.pungi_inline.specs.Moved.{line}
use Rattle.pungi_inline.proofs.OneInstruction.{Outcome, Goes, Stops, Wants, leads, end_after, is_ordinary, perform_is}
use Rattle.pungi_inline.proofs.Running.{IsReturned}
use Rattle.pungi_inline.proofs.Steps.{config, run, OneStep, EndsWith}

module _ (cs : List (Option Code)) (choices : List Choice) where
  -- ---- any instruction

  -- no instruction is there
  pub none_run : (fs : List CodeFrame) (ls : List Line) (pc : ℕ) (m : Regs) → slice_get ls pc ≡ None
      → EndsWith cs choices (config fs ls pc m) (Stopped nowhere)
  none_run fs ls pc m at n =
      ap (λ o. (fetch_in (among cs choices fs) (execute cs choices n) ls o pc m).end) at

  -- a run is its instruction and the rest
  pub fetch_run : (n : ℕ) (fs : List CodeFrame) (ls : List Line) (pc : ℕ) (m : Regs) (p : Pos) (i : Instr)
      → slice_get ls pc ≡ Some (line p i)
      → run cs choices (suc n) (config fs ls pc m)
      ≡ perform_in (among cs choices fs) (execute cs choices n) ls i p pc m
  fetch_run n fs ls pc m p i at =
      ap (λ o. fetch_in (among cs choices fs) (execute cs choices n) ls o pc m) at

  -- ---- one that neither calls a function of the file nor returns

  -- an instruction does among the codes of a file what it does alone
  ordinary_in : (n : ℕ) (fs : List CodeFrame) (ls : List Line) (i : Instr) (p : Pos) (pc : ℕ) (m : Regs)
      → is_ordinary i ≡ true
      → (perform_in (among cs choices fs) (execute cs choices n) ls i p pc m).end
      ≡ end_after (execute cs choices n fs ls) (leads choices i p pc m)
  ordinary_in n fs ls (Call x f as') p pc m e = absurd (cc)
  ordinary_in n fs ls (Return None) p pc m e = absurd (cc)
  ordinary_in n fs ls (Return (Some a)) p pc m e = absurd (cc)
  ordinary_in n fs ls i p pc m e = perform_is (execute cs choices n fs ls) choices i p pc m e

  -- and so a run goes on, or ends, where it leads
  pub leads_run : (n : ℕ) (fs : List CodeFrame) (ls : List Line) (pc : ℕ) (m : Regs) (p : Pos) (i : Instr)
      → slice_get ls pc ≡ Some (line p i) → is_ordinary i ≡ true
      → (run cs choices (suc n) (config fs ls pc m)).end
      ≡ end_after (execute cs choices n fs ls) (leads choices i p pc m)
  leads_run n fs ls pc m p i at e =
      ap (λ (r : Run). r.end) (fetch_run n fs ls pc m p i at) ∙ ordinary_in n fs ls i p pc m e

  -- ---- those that a copy adds

  -- a variable is set to what holds a value
  pub set_step : (fs : List CodeFrame) (ls : List Line) (pc : ℕ) (m : Regs) (p : Pos) (x : Var) (a : Atom) (v : Value)
      → slice_get ls pc ≡ Some (line p (Set x a)) → content_of a m.vars ≡ content.Holds v
      → OneStep cs choices (config fs ls pc m) (config fs ls (pc + 1) (put x (content.Holds v) m))
  set_step fs ls pc m p x a v at e n =
      ap (λ (r : Run). r.end) (fetch_run n fs ls pc m p (Set x a) at)
      ∙ ap (λ c. (with_value c p (λ u. execute cs choices n fs ls (pc + 1) (put x (content.Holds u) m))).end) e

  -- a variable is set to what holds nothing
  pub set_stops : (fs : List CodeFrame) (ls : List Line) (pc : ℕ) (m : Regs) (p : Pos) (x : Var) (a : Atom)
      → slice_get ls pc ≡ Some (line p (Set x a)) → content_of a m.vars ≡ content.Unset
      → EndsWith cs choices (config fs ls pc m) (Stopped p)
  set_stops fs ls pc m p x a at e n =
      ap (λ (r : Run). r.end) (fetch_run n fs ls pc m p (Set x a) at)
      ∙ ap (λ c. (with_value c p (λ u. execute cs choices n fs ls (pc + 1) (put x (content.Holds u) m))).end) e

  -- a variable is unset
  pub unset_step : (fs : List CodeFrame) (ls : List Line) (pc : ℕ) (m : Regs) (p : Pos) (x : Var)
      → slice_get ls pc ≡ Some (line p (Unset x))
      → OneStep cs choices (config fs ls pc m) (config fs ls (pc + 1) (put x content.Unset m))
  unset_step fs ls pc m p x at n = ap (λ (r : Run). r.end) (fetch_run n fs ls pc m p (Unset x) at)

  -- a jump
  pub jump_step : (fs : List CodeFrame) (ls : List Line) (pc : ℕ) (m : Regs) (p : Pos) (l : Label)
      → slice_get ls pc ≡ Some (line p (Jump l))
      → OneStep cs choices (config fs ls pc m) (config fs ls l.0 m)
  jump_step fs ls pc m p l at n = ap (λ (r : Run). r.end) (fetch_run n fs ls pc m p (Jump l) at)

  -- ---- a code alone, where a call stops

  module _ (w : World) (v : Option Value) (p : Pos) (used : List Pos) where
    -- where the rest of a run returns alone, it returns among the codes of the file
    leads_alone : (n : ℕ) (ls : List Line) (o : Outcome)
        → ((pc : ℕ) (m : Regs) → Returns (exec choices ls n pc m) w v p used
        → Returns (execute cs choices n [] ls pc m) w v p used)
        → end_after (exec choices ls n) o ≡ Returned w v p used
        → end_after (execute cs choices n [] ls) o ≡ Returned w v p used
    leads_alone n ls (Goes pc m) next r = next pc m r
    leads_alone n ls (Stops q) next r = r
    leads_alone n ls Wants next r = r

    -- so does an instruction and the rest
    performs_alone : (n : ℕ) (ls : List Line) (i : Instr) (q : Pos) (pc : ℕ) (m : Regs)
        → ((to : ℕ) (k : Regs) → Returns (exec choices ls n to k) w v p used
        → Returns (execute cs choices n [] ls to k) w v p used)
        → Returns (perform choices i q (exec choices ls n) pc m) w v p used
        → Returns (perform_in (among cs choices []) (execute cs choices n) ls i q pc m) w v p used
    performs_alone n ls (Call x f as') q pc m next r = absurd (subst IsReturned (sym r) tt)
    performs_alone n ls (Return None) q pc m next r = r
    performs_alone n ls (Return (Some a)) q pc m next r = r
    performs_alone n ls i q pc m next r =
        perform_is (execute cs choices n [] ls) choices i q pc m refl
        ∙ leads_alone n ls (leads choices i q pc m) next
        (sym (perform_is (exec choices ls n) choices i q pc m refl) ∙ r)

    -- so does the instruction at a place, and the rest
    fetches_alone : (n : ℕ) (ls : List Line) (o : Option Line) (pc : ℕ) (m : Regs)
        → ((to : ℕ) (k : Regs) → Returns (exec choices ls n to k) w v p used
        → Returns (execute cs choices n [] ls to k) w v p used)
        → Returns (fetch choices o (exec choices ls n) pc m) w v p used
        → Returns (fetch_in (among cs choices []) (execute cs choices n) ls o pc m) w v p used
    fetches_alone n ls None pc m next r = r
    fetches_alone n ls (Some l) pc m next r = performs_alone n ls l.instr l.pos pc m next r

    -- a run of a code alone that returns is one among the codes of the file
    pub runs_among : (n : ℕ) (ls : List Line) (pc : ℕ) (m : Regs) → Returns (exec choices ls n pc m) w v p used
        → Returns (execute cs choices n [] ls pc m) w v p used
    runs_among zero ls pc m r = r
    runs_among (suc n) ls pc m r = fetches_alone n ls (slice_get ls pc) pc m (runs_among n ls) r
