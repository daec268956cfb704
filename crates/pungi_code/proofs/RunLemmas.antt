-- A run of a code among the codes of a file is one instruction and the rest of the run.
use Rattle.std.proofs.Common.{◌≡◌, ℕ, suc, List, Option, Some, None, refl, sym, ap, ◌∙◌}
use Rattle.std.specs.Prelude.{slice_get}
use Rattle.pungi_base.specs.declared.choice.Choice.{Choice}
use Rattle.pungi_meaning.specs.Run.{Stopped, nowhere}
use Rattle.pungi_code.specs.declared.code.Code.{Code}
use Rattle.pungi_code.specs.declared.code.Line.{Line}
use Rattle.pungi_code.specs.declared.frames.CallStack.{CallStack}
use Rattle.pungi_code.specs.declared.registers.Registers.{Registers}
use Rattle.pungi_code.specs.declared.registers.After.{After}
use Rattle.pungi_code.specs.declared.registers.After.TheVariants as after
use Rattle.pungi_code.specs.Frames.{CodeFrame}
use Rattle.pungi_code.specs.Registers.{Regs}
use Rattle.pungi_code.specs.Run.{among, perform_in, fetch_in, execute}
use Rattle.pungi_code.specs.Machine.{regs_of, frames_of, next_place, end_at, Reaches, DoesIn}

module _ (codes : List (Option Code)) (choices : List Choice) where
  run_more : (n m pc : ℕ) (frames : List CodeFrame) (code : List Line) (r : Regs) (o : Option Line) → n ≡ suc m
      → slice_get code pc ≡ o
      → (execute codes choices n frames code pc r).end
      ≡ (fetch_in (among codes choices frames) (execute codes choices m) code o pc r).end
  run_more n m pc frames code r o e at =
      ap (λ i. (execute codes choices i frames code pc r).end) e
      ∙ ap (λ l. (fetch_in (among codes choices frames) (execute codes choices m) code l pc r).end) at

  -- an instruction among the codes of the file led so
  abbrev pub Led : ℕ → List CodeFrame → List Line → Regs → Line → After → CallStack → Registers → Type 0
  Led pc frames code r line a stack q =
      DoesIn (λ go. perform_in (among codes choices frames) go code line.instr line.pos pc r) a stack q

  does_more : (n m pc : ℕ) (frames : List CodeFrame) (code : List Line) (r : Regs) (stack : CallStack)
      (q : Registers) (line : Line) (a : After) → n ≡ suc m → slice_get code pc ≡ Some line
      → Led pc frames code r line a stack q
      → (Reaches (execute codes choices m (frames_of stack.waiting.items) stack.instrs.now) a (regs_of q)).end
      ≡ (execute codes choices n frames code pc r).end
  does_more n m pc frames code r stack q line a e at does =
      sym (does (execute codes choices m)) ∙ sym (run_more n m pc frames code r (Some line) e at)

  goes_to : (m : ℕ) (stack : CallStack) (q : Registers) (a : After) (to : ℕ) → next_place a ≡ Some to
      → (execute codes choices m (frames_of stack.waiting.items) stack.instrs.now to (regs_of q)).end
      ≡ (Reaches (execute codes choices m (frames_of stack.waiting.items) stack.instrs.now) a (regs_of q)).end
  goes_to m stack q (after.Goes pc) to e =
      let f : to ≡ pc = cc in
      ap (λ x. (execute codes choices m (frames_of stack.waiting.items) stack.instrs.now x (regs_of q)).end) f
  goes_to m stack q (after.Leaves p v) to e = absurd (cc)
  goes_to m stack q (after.Stops p) to e = absurd (cc)
  goes_to m stack q after.Wants to e = absurd (cc)

  ends_so : (m : ℕ) (stack : CallStack) (q : Registers) (a : After) → next_place a ≡ None
      → end_at a q
      ≡ (Reaches (execute codes choices m (frames_of stack.waiting.items) stack.instrs.now) a (regs_of q)).end
  ends_so m stack q (after.Goes pc) e = absurd (cc)
  ends_so m stack q (after.Leaves p v) e = refl
  ends_so m stack q (after.Stops p) e = refl
  ends_so m stack q after.Wants e = refl

  -- a run goes on after an instruction
  pub run_on : (n m pc to : ℕ) (frames : List CodeFrame) (code : List Line) (r : Regs) (stack : CallStack)
      (q : Registers) (line : Line) (a : After) → n ≡ suc m → slice_get code pc ≡ Some line
      → Led pc frames code r line a stack q → next_place a ≡ Some to
      → (execute codes choices m (frames_of stack.waiting.items) stack.instrs.now to (regs_of q)).end
      ≡ (execute codes choices n frames code pc r).end
  run_on n m pc to frames code r stack q line a e at does is =
      goes_to m stack q a to is ∙ does_more n m pc frames code r stack q line a e at does

  -- a run ends at an instruction
  pub run_ends : (n m pc : ℕ) (frames : List CodeFrame) (code : List Line) (r : Regs) (stack : CallStack)
      (q : Registers) (line : Line) (a : After) → n ≡ suc m → slice_get code pc ≡ Some line
      → Led pc frames code r line a stack q → next_place a ≡ None
      → end_at a q ≡ (execute codes choices n frames code pc r).end
  run_ends n m pc frames code r stack q line a e at does is =
      ends_so m stack q a is ∙ does_more n m pc frames code r stack q line a e at does

  -- a run ends where no instruction is
  pub run_past : (n m pc : ℕ) (frames : List CodeFrame) (code : List Line) (r : Regs) → n ≡ suc m
      → slice_get code pc ≡ None → Stopped nowhere ≡ (execute codes choices n frames code pc r).end
  run_past n m pc frames code r e at = sym (run_more n m pc frames code r None e at)
