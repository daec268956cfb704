-- A run of a code and a run of the code with copies, instruction by instruction.
--   target                    the instructions of the code with copies
--   window_at cs c pc         the window of the copy in the place of a line
--   all_vars cs c             how many variables the code with copies has
--   AtBase pc m k             the code itself runs at this place, and no call of it waits
--   InCopy pc l s j m a k     the code of a call runs at this place, called by the code itself, which holds these
--   Level                     either of these, with the codes that wait, instructions and places of both runs
--   ResumesAlike              whatever a call returns that waits in both runs, they go on at one level
--   Related s t               the two runs are at one level, or in one code that was called at such
--   Outcomes s t              both runs end alike, neither returns, or they go on to related places
use Rattle.std.proofs.Common.{◌≡◌, ℕ, suc, ◌+◌, ◌<◌, List, [], ◌∷◌, ◌++◌, length, take, Option, Some, None}
use Rattle.std.specs.Prelude.{slice_get}
use Rattle.pungi_base.specs.declared.choice.Choice.{Choice}
use Rattle.pungi_base.specs.declared.pos.Pos.{Pos}
use Rattle.pungi_base.specs.declared.value.Value.{Value}
use Rattle.pungi_world.specs.declared.content.Content.{Content}
use Rattle.pungi_world.specs.declared.content.Content.TheVariants as content
use Rattle.pungi_world.specs.declared.world.World.{World}
use Rattle.pungi_meaning.specs.Run.{Returned}
use Rattle.pungi_meaning.specs.Work.{content_at}
use Rattle.pungi_code.specs.declared.atom.Var.{Var}
use Rattle.pungi_code.specs.declared.code.Code.{Code}
use Rattle.pungi_code.specs.declared.code.Line.{Line}
use Rattle.pungi_code.specs.Frames.{CodeFrame, resumed}
use Rattle.pungi_code.specs.Registers.{Regs, put}
use Rattle.pungi_code.specs.Run.{calling}
use Rattle.pungi_inline.specs.Copies.{body_label}
use Rattle.pungi_inline.specs.Inlined.{all_lines, label_in}
use Rattle.pungi_inline.specs.Sites.{Site, site_at, total, window_sizes}
use Rattle.pungi_inline.proofs.Steps.{Config, config, OneStep, Steps, EndsWith, NeverReturns}
use Rattle.pungi_inline.proofs.Windows.{Holds, SameRegs}

abbrev pub target : List (Option Code) → Code → List Line
target cs c = all_lines cs (label_in cs c.instrs) (length c.vars) 0 c.instrs

abbrev pub window_at : List (Option Code) → Code → ℕ → ℕ
window_at cs c pc = length c.vars + total (take pc (window_sizes cs c.instrs))

abbrev pub all_vars : List (Option Code) → Code → ℕ
all_vars cs c = length c.vars + total (window_sizes cs c.instrs)

module _ (cs : List (Option Code)) (c : Code) where
  pub record AtBase (pc : ℕ) (m k : Regs) : Type 0 where
    pub inside : pc < length c.instrs
    pub same : SameRegs 0 m k
    pub vars : length m.vars ≡ length c.vars
    pub room : length k.vars ≡ all_vars cs c

  pub record InCopy (pc : ℕ) (l : Line) (s : Site) (j : ℕ) (m : Regs) (a : List Content) (k : Regs) : Type 0 where
    pub line : slice_get c.instrs pc ≡ Some l
    pub site : site_at cs l ≡ Some s
    pub inside : j < length s.code.instrs
    pub same : SameRegs (window_at cs c pc) m k
    pub vars : length m.vars ≡ length s.code.vars
    pub before : Holds 0 a k.vars
    pub caller : length a ≡ length c.vars
    pub unset : content_at k.vars (window_at cs c pc + length s.code.vars) ≡ content.Unset
    pub room : length k.vars ≡ all_vars cs c

  pub data Level : List CodeFrame → List Line → ℕ → Regs → ℕ → Regs → Type 0 where
    at_base : (pc : ℕ) (m k : Regs) → AtBase pc m k → Level [] c.instrs pc m (label_in cs c.instrs pc) k
    in_copy : (pc : ℕ) (l : Line) (s : Site) (j : ℕ) (m a k : Regs) → InCopy pc l s j m a.vars k
        → Level (calling l.pos c.instrs pc s.into a ∷ []) s.code.instrs j m
        (body_label (label_in cs c.instrs pc) s.code j) k

  -- a call waits, in the frame f above others in the one run, and alone in the frame b in the other
  abbrev pub ResumesAlike : List CodeFrame → CodeFrame → Option Var → CodeFrame → Option Var → Type 0
  ResumesAlike fs f None b None =
      (w : World) (used : List Pos) → Level fs f.instrs f.place (resumed f w used) b.place (resumed b w used)
  ResumesAlike fs f (Some x) b (Some y) =
      (w : World) (used : List Pos) (v : Value)
      → Level fs f.instrs f.place (put x (content.Holds v) (resumed f w used)) b.place
      (put y (content.Holds v) (resumed b w used))
  ResumesAlike fs f None b (Some y) = ⊥
  ResumesAlike fs f (Some x) b None = ⊥

  pub record Waits (fs : List CodeFrame) (f b : CodeFrame) : Type 0 where
    pub instrs : b.instrs ≡ target cs c
    pub resumes : ResumesAlike fs f f.into b b.into

  pub data Related : Config → Config → Type 0 where
    level : (fs : List CodeFrame) (ls : List Line) (pc : ℕ) (m : Regs) (q : ℕ) (k : Regs) → Level fs ls pc m q k
        → Related (config fs ls pc m) (config [] (target cs c) q k)
    above : (us fs : List CodeFrame) (f b : CodeFrame) (ls : List Line) (pc : ℕ) (m : Regs) → Waits fs f b
        → Related (config (us ++ f ∷ fs) ls pc m) (config (us ++ b ∷ []) ls pc m)

  pub data Outcomes (choices : List Choice) (s t : Config) : Type 0 where
    both_return : (w : World) (v : Option Value) (p : Pos) (used : List Pos)
        → EndsWith cs choices s (Returned w v p used) → EndsWith cs choices t (Returned w v p used)
        → Outcomes choices s t
    neither : NeverReturns cs choices s → NeverReturns cs choices t → Outcomes choices s t
    both_go : (s' t' : Config) (k : ℕ) → OneStep cs choices s s' → Steps cs choices (suc k) t t' → Related s' t'
        → Outcomes choices s t
