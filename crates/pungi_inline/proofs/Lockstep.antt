-- Each instruction of a run leads the run of the code with copies to a related place, wherever the two are related.
use Rattle.std.proofs.Common.{◌≡◌, ◌≤◌, ℕ, suc, List, [], ◌∷◌, ◌++◌, Option, Some, None, refl}
use Rattle.std.specs.Prelude.{slice_get}
use Rattle.pungi_base.specs.declared.choice.Choice.{Choice}
use Rattle.pungi_base.specs.declared.pos.Pos.{Pos}
use Rattle.pungi_base.specs.declared.value.Value.{Value}
use Rattle.pungi_world.specs.declared.content.Content.{Content}
use Rattle.pungi_world.specs.declared.content.Content.TheVariants as content
use Rattle.pungi_world.specs.declared.world.World.{World}
use Rattle.pungi_meaning.specs.Run.{Stopped, NeedsChoice, nowhere}
use Rattle.pungi_code.specs.declared.atom.Atom.{Atom}
use Rattle.pungi_code.specs.declared.atom.Var.{Var}
use Rattle.pungi_code.specs.declared.code.Code.{Code}
use Rattle.pungi_code.specs.declared.code.Line.{Line}
use Rattle.pungi_code.specs.declared.instr.Instr.{Instr}
use Rattle.pungi_code.specs.declared.instr.Instr.TheVariants.{Call, Return}
use Rattle.pungi_code.specs.Frames.{CodeFrame, code_numbered, resumed}
use Rattle.pungi_code.specs.Limits.{most_variables}
use Rattle.pungi_code.specs.Registers.{Regs, put, content_of, all_values}
use Rattle.pungi_code.specs.Run.{calling, execute}
use Rattle.pungi_code.specs.WellFormed.{CallKinds, IsWellFormedAmong}
use Rattle.pungi_inline.specs.Moved.{line}
use Rattle.pungi_inline.proofs.AtBase.{base_step}
use Rattle.pungi_inline.proofs.AtCopy.{copy_step}
use Rattle.pungi_inline.proofs.CalledCodes.{called}
use Rattle.pungi_inline.proofs.Calling.{both_call}
use Rattle.pungi_inline.proofs.Leaving.{IsReturn, of_none, of_value, leave_run, return_unset, Resumes, both_leave}
use Rattle.pungi_inline.proofs.OneInstruction.{Outcome, Goes, Stops, Wants, leads, end_after}
use Rattle.pungi_inline.proofs.Performing.{none_run, leads_run}
use Rattle.pungi_inline.proofs.Placed.{HaveParams}
use Rattle.pungi_inline.proofs.Related.{target, all_vars, Level, at_base, in_copy, Waits, Related, level, above}
use Rattle.pungi_inline.proofs.Related.{Outcomes, neither, both_go}
use Rattle.pungi_inline.proofs.Running.{never_by}
use Rattle.pungi_inline.proofs.Steps.{Config, config, run, OneStep, here, more}

module _ (cs : List (Option Code)) (choices : List Choice) (c : Code) where
  -- ---- in a code that was called, where both runs hold the same

  module _ (us fs : List CodeFrame) (f b : CodeFrame) (waits : Waits cs c fs f b) where
    -- both runs do the same step
    same_step : (s t : Config) (ls : List Line) (pc : ℕ) (m : Regs)
        → OneStep cs choices s (config (us ++ f ∷ fs) ls pc m) → OneStep cs choices t (config (us ++ b ∷ []) ls pc m)
        → Outcomes cs c choices s t
    same_step s t ls pc m one two =
        let t' = config (us ++ b ∷ []) ls pc m in
        both_go (config (us ++ f ∷ fs) ls pc m) t' 0 one (more 0 t t' t' two (here t')) (above us fs f b ls pc m waits)

    -- both runs go back to one code, or both stop where a result is wanted and none came
    same_resume : (s t : Config) (g : CodeFrame) (w : World) (used : List Pos) (x : Option Var) (v : Option Value)
        → Resumes cs choices s (us ++ f ∷ fs) g w used x v → Resumes cs choices t (us ++ b ∷ []) g w used x v
        → Outcomes cs c choices s t
    same_resume s t g w used None v one two = same_step s t g.instrs g.place (resumed g w used) one two
    same_resume s t g w used (Some x) None one two =
        neither (never_by cs choices s (Stopped g.call) one (λ r. r))
        (never_by cs choices t (Stopped g.call) two (λ r. r))
    same_resume s t g w used (Some x) (Some v) one two =
        same_step s t g.instrs g.place (put x (content.Holds v) (resumed g w used)) one two

    -- both runs go on to one place, or both stop
    same_outcome : (ls : List Line) (pc : ℕ) (m : Regs) (o : Outcome)
        → ((n : ℕ) → (run cs choices (suc n) (config (us ++ f ∷ fs) ls pc m)).end
        ≡ end_after (execute cs choices n (us ++ f ∷ fs) ls) o)
        → ((n : ℕ) → (run cs choices (suc n) (config (us ++ b ∷ []) ls pc m)).end
        ≡ end_after (execute cs choices n (us ++ b ∷ []) ls) o)
        → Outcomes cs c choices (config (us ++ f ∷ fs) ls pc m) (config (us ++ b ∷ []) ls pc m)
    same_outcome ls pc m (Goes to k) one two =
        same_step (config (us ++ f ∷ fs) ls pc m) (config (us ++ b ∷ []) ls pc m) ls to k one two
    same_outcome ls pc m (Stops p) one two =
        neither (never_by cs choices (config (us ++ f ∷ fs) ls pc m) (Stopped p) one (λ r. r))
        (never_by cs choices (config (us ++ b ∷ []) ls pc m) (Stopped p) two (λ r. r))
    same_outcome ls pc m Wants one two =
        neither (never_by cs choices (config (us ++ f ∷ fs) ls pc m) NeedsChoice one (λ r. r))
        (never_by cs choices (config (us ++ b ∷ []) ls pc m) NeedsChoice two (λ r. r))

  -- both runs return
  same_return : (us fs : List CodeFrame) (f b : CodeFrame) → Waits cs c fs f b → (ls : List Line) (pc : ℕ) (m : Regs)
      (p : Pos) (v : Option Value) → IsReturn ls pc m p v
      → Outcomes cs c choices (config (us ++ f ∷ fs) ls pc m) (config (us ++ b ∷ []) ls pc m)
  same_return [] fs f b waits ls pc m p v r =
      both_leave cs choices c fs f b (config (f ∷ fs) ls pc m) (config (b ∷ []) ls pc m) m.world v p m.used waits
      (leave_run cs choices (f ∷ fs) ls pc m p v r) (leave_run cs choices (b ∷ []) ls pc m p v r)
  same_return (g ∷ us) fs f b waits ls pc m p v r =
      same_resume us fs f b waits (config (g ∷ (us ++ f ∷ fs)) ls pc m) (config (g ∷ (us ++ b ∷ [])) ls pc m) g m.world
      m.used g.into v (leave_run cs choices (g ∷ (us ++ f ∷ fs)) ls pc m p v r)
      (leave_run cs choices (g ∷ (us ++ b ∷ [])) ls pc m p v r)

  module _ (us fs : List CodeFrame) (f b : CodeFrame) (waits : Waits cs c fs f b) (ls : List Line) (pc : ℕ) (m : Regs)
    where
      abbrev Both : Type 0
      Both = Outcomes cs c choices (config (us ++ f ∷ fs) ls pc m) (config (us ++ b ∷ []) ls pc m)

      -- both runs return a value, or both stop where it is unset
      same_value : (p : Pos) (a : Atom) (d : Content) → slice_get ls pc ≡ Some (line p (Return (Some a)))
          → content_of a m.vars ≡ d → Both
      same_value p a content.Unset at e =
          neither
          (never_by cs choices (config (us ++ f ∷ fs) ls pc m) (Stopped p)
          (return_unset cs choices (us ++ f ∷ fs) ls pc m p a at e) (λ r. r))
          (never_by cs choices (config (us ++ b ∷ []) ls pc m) (Stopped p)
          (return_unset cs choices (us ++ b ∷ []) ls pc m p a at e) (λ r. r))
      same_value p a (content.Holds v) at e = same_return us fs f b waits ls pc m p (Some v) (of_value a v at e)

      -- any instruction
      same_instr : (p : Pos) (i : Instr) → slice_get ls pc ≡ Some (line p i) → Both
      same_instr p (Call x n as') at =
          both_call cs choices c (us ++ f ∷ fs) (us ++ b ∷ []) ls ls pc pc m m p x x n refl refl (all_values as' m.vars)
          (record { atoms = as'; line = at; values = refl }) (record { atoms = as'; line = at; values = refl })
          (λ g r. above (calling p ls pc x m ∷ us) fs f b g.instrs 0 r waits)
      same_instr p (Return None) at = same_return us fs f b waits ls pc m p None (of_none at)
      same_instr p (Return (Some a)) at = same_value p a (content_of a m.vars) at refl
      same_instr p i at =
          same_outcome us fs f b waits ls pc m (leads choices i p pc m)
          (λ n. leads_run cs choices n (us ++ f ∷ fs) ls pc m p i at refl)
          (λ n. leads_run cs choices n (us ++ b ∷ []) ls pc m p i at refl)

      -- whatever is at a place
      same_line : (o : Option Line) → slice_get ls pc ≡ o → Both
      same_line None at =
          neither
          (never_by cs choices (config (us ++ f ∷ fs) ls pc m) (Stopped nowhere)
          (none_run cs choices (us ++ f ∷ fs) ls pc m at) (λ r. r))
          (never_by cs choices (config (us ++ b ∷ []) ls pc m) (Stopped nowhere)
          (none_run cs choices (us ++ b ∷ []) ls pc m at) (λ r. r))
      same_line (Some l) at = same_instr l.pos l.instr at

  -- ---- anywhere

  module _ (params : HaveParams cs) (small : all_vars cs c ≤ most_variables) (callees : ℕ → CallKinds)
      (formed : IsWellFormedAmong callees c)
      (others : (f : ℕ) (g : Code) → code_numbered cs f ≡ Some g → IsWellFormedAmong callees g) where
    -- the code itself, or a called code that was copied
    level_step : (fs : List CodeFrame) (ls : List Line) (pc : ℕ) (m : Regs) (q : ℕ) (k : Regs)
        → Level cs c fs ls pc m q k → Outcomes cs c choices (config fs ls pc m) (config [] (target cs c) q k)
    level_step fs ls pc m q k (at_base at m' k' h) = base_step cs choices c params small callees formed at m' k' h
    level_step fs ls pc m q k (in_copy at l s j m' a k' h) =
        let r = called cs l.instr s h.site in
        copy_step cs choices c params small callees formed at l s j m' a k' h (others r.number s.code r.code)

    -- each instruction leads to related places, or both runs end alike
    pub lockstep : (s t : Config) → Related cs c s t → Outcomes cs c choices s t
    lockstep s t (level fs ls pc m q k h) = level_step fs ls pc m q k h
    lockstep s t (above us fs f b ls pc m waits) = same_line us fs f b waits ls pc m (slice_get ls pc) refl
