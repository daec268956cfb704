-- Variables of a code in a window of the variables of another.
--   Holds w vs us              the variables from w on hold what these hold
--   SameRegs w m k             so it is with what is held in two runs, whose worlds and used choices are the same
--   SameOutside w n us vs      all variables but n from w on hold the same
use Rattle.std.proofs.Common.{◌≡◌, ◌⊎◌, ℕ, ◌+◌, ◌<◌, ◌≤◌, List, length}
use Rattle.pungi_world.specs.declared.content.Content.{Content}
use Rattle.pungi_meaning.specs.Work.{content_at}
use Rattle.pungi_code.specs.Registers.{Regs}

abbrev pub Holds : ℕ → List Content → List Content → Type 0
Holds w vs us = (x : ℕ) → x < length vs → content_at us (w + x) ≡ content_at vs x

pub record SameRegs (w : ℕ) (m k : Regs) : Type 0 where
  pub world : k.world ≡ m.world
  pub used : k.used ≡ m.used
  pub vars : Holds w m.vars k.vars
  pub room : w + length m.vars ≤ length k.vars

abbrev pub SameOutside : ℕ → ℕ → List Content → List Content → Type 0
SameOutside w n us vs = (x : ℕ) → (x < w) ⊎ (w + n ≤ x) → content_at vs x ≡ content_at us x
