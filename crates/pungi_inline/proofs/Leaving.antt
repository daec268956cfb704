-- A return among the codes of a file, and how a call that waits in two runs goes on.
--   IsReturn ls pc m p v     there is a return with this value, if any
use Rattle.std.proofs.Common.{◌≡◌, ℕ, suc, List, [], ◌∷◌, Option, Some, None, ap, ◌∙◌}
use Rattle.std.specs.Prelude.{slice_get}
use Rattle.pungi_base.specs.declared.choice.Choice.{Choice}
use Rattle.pungi_base.specs.declared.pos.Pos.{Pos}
use Rattle.pungi_base.specs.declared.value.Value.{Value}
use Rattle.pungi_world.specs.declared.content.Content.TheVariants as content
use Rattle.pungi_world.specs.declared.world.World.{World}
use Rattle.pungi_meaning.specs.Run.{Run, Stopped}
use Rattle.pungi_code.specs.declared.atom.Atom.{Atom}
use Rattle.pungi_code.specs.declared.atom.Var.{Var}
use Rattle.pungi_code.specs.declared.code.Code.{Code}
use Rattle.pungi_code.specs.declared.code.Line.{Line}
use Rattle.pungi_code.specs.declared.instr.Instr.TheVariants.{Return}
use Rattle.pungi_code.specs.Frames.{CodeFrame, resume, resumed, leave}
use Rattle.pungi_code.specs.Registers.{Regs, put, content_of, with_value}
use Rattle.pungi_code.specs.Run.{execute}
use Rattle.pungi_inline.specs.Moved.{line}
use Rattle.pungi_inline.proofs.Performing.{fetch_run}
use Rattle.pungi_inline.proofs.Related.{target, ResumesAlike, Waits, Related, level, Outcomes, neither, both_go}
use Rattle.pungi_inline.proofs.Running.{never_by}
use Rattle.pungi_inline.proofs.Steps.{Config, config, run, OneStep, here, more, EndsWith}

pub data IsReturn (ls : List Line) (pc : ℕ) (m : Regs) (p : Pos) : Option Value → Type 0 where
  of_none : slice_get ls pc ≡ Some (line p (Return None)) → IsReturn ls pc m p None
  of_value : (a : Atom) (v : Value) → slice_get ls pc ≡ Some (line p (Return (Some a)))
      → content_of a m.vars ≡ content.Holds v → IsReturn ls pc m p (Some v)

module _ (cs : List (Option Code)) (choices : List Choice) where
  module _ (fs : List CodeFrame) (ls : List Line) (pc : ℕ) (m : Regs) (p : Pos) where
    -- a run with a return leaves the code
    pub leave_run : (v : Option Value) → IsReturn ls pc m p v → (n : ℕ)
        → (run cs choices (suc n) (config fs ls pc m)).end
        ≡ (leave (execute cs choices n) fs m.world v p m.used).end
    leave_run v (of_none at) n =
        ap (λ (r : Run). r.end) (fetch_run cs choices n fs ls pc m p (Return None) at)
    leave_run v (of_value a u at e) n =
        ap (λ (r : Run). r.end) (fetch_run cs choices n fs ls pc m p (Return (Some a)) at)
        ∙ ap (λ c. (with_value c p (λ x. leave (execute cs choices n) fs m.world (Some x) p m.used)).end) e

    -- a return of what holds nothing stops
    pub return_unset : (a : Atom) → slice_get ls pc ≡ Some (line p (Return (Some a)))
        → content_of a m.vars ≡ content.Unset → EndsWith cs choices (config fs ls pc m) (Stopped p)
    return_unset a at e n =
        ap (λ (r : Run). r.end) (fetch_run cs choices n fs ls pc m p (Return (Some a)) at)
        ∙ ap (λ c. (with_value c p (λ x. leave (execute cs choices n) fs m.world (Some x) p m.used)).end) e

  -- what a call that waits makes of a return
  abbrev pub Resumes : Config → List CodeFrame → CodeFrame → World → List Pos → Option Var → Option Value → Type 0
  Resumes s fs b w used x v =
      (n : ℕ) → (run cs choices (suc n) s).end ≡ (resume (execute cs choices n) fs b w used x v).end

  module _ (c : Code) (s t : Config) (fs : List CodeFrame) (f b : CodeFrame) (w : World) (used : List Pos)
      (instrs : b.instrs ≡ target cs c) where
    -- both runs go on where the call waited
    goes_on_so : (m k : Regs) → OneStep cs choices s (config fs f.instrs f.place m)
        → OneStep cs choices t (config [] b.instrs b.place k)
        → Related cs c (config fs f.instrs f.place m) (config [] (target cs c) b.place k)
        → Outcomes cs c choices s t
    goes_on_so m k one two related =
        let t' = config [] (target cs c) b.place k in
        let goes : OneStep cs choices t t' =
        λ n. two n ∙ ap (λ ls. (execute cs choices n [] ls b.place k).end) instrs in
        both_go (config fs f.instrs f.place m) t' 0 one (more 0 t t' t' goes (here t')) related

    -- both runs go on, or both stop, where a result is wanted and none came
    resumes_so : (x y : Option Var) (v : Option Value) → ResumesAlike cs c fs f x b y
        → Resumes s fs f w used x v → Resumes t [] b w used y v → Outcomes cs c choices s t
    resumes_so None None v alike one two =
        goes_on_so (resumed f w used) (resumed b w used) one two
        (level fs f.instrs f.place (resumed f w used) b.place (resumed b w used) (alike w used))
    resumes_so (Some x) (Some y) None alike one two =
        neither (never_by cs choices s (Stopped f.call) one (λ r. r))
        (never_by cs choices t (Stopped b.call) two (λ r. r))
    resumes_so (Some x) (Some y) (Some v) alike one two =
        let m = put x (content.Holds v) (resumed f w used) in
        let k = put y (content.Holds v) (resumed b w used) in
        goes_on_so m k one two (level fs f.instrs f.place m b.place k (alike w used v))
    resumes_so None (Some y) v alike one two = absurd alike
    resumes_so (Some x) None v alike one two = absurd alike

  -- a return in a code that was called, where both runs hold the same
  pub both_leave : (c : Code) (fs : List CodeFrame) (f b : CodeFrame) (s t : Config) (w : World) (v : Option Value)
      (p : Pos) (used : List Pos) → Waits cs c fs f b
      → ((n : ℕ) → (run cs choices (suc n) s).end ≡ (leave (execute cs choices n) (f ∷ fs) w v p used).end)
      → ((n : ℕ) → (run cs choices (suc n) t).end ≡ (leave (execute cs choices n) (b ∷ []) w v p used).end)
      → Outcomes cs c choices s t
  both_leave c fs f b s t w v p used waits one two =
      resumes_so c s t fs f b w used waits.instrs f.into b.into v waits.resumes one two
