-- What the idle code is to the code itself.
--   run_alone c entry choices n    a run of a code alone, where a call of a function of the file stops it
--   RunAlike c entry other      from an entry of the code and one of the idle code both run alike, and the same
--                               references are taken over
--   IsAlikeIdle n c             each entry of the idle code stands for one of the code; each entry of the code has one
--                               of the idle code; and they run alike
--   IsFormedIdle c              the idle code of a well-formed one is well-formed
use Rattle.std.specs.Prelude.{◌≡◌, ℕ, true, List}
use Rattle.pungi_base.specs.declared.choice.Choice.{Choice}
use Rattle.pungi_base.specs.declared.entry.Entry.{Entry}
use Rattle.pungi_world.specs.Escapes.{taken_at_entry}
use Rattle.pungi_meaning.specs.Run.{Run}
use Rattle.pungi_code.specs.declared.code.Code.{Code}
use Rattle.pungi_code.specs.Entries.{code_fits}
use Rattle.pungi_code.specs.Run.{exec, start}
use Rattle.pungi_code.specs.WellFormed.{IsWellFormed}
use Rattle.pungi_idle.specs.IdleCode.{idle}
use Rattle.pungi_idle.specs.RestoredRun.{restored}

abbrev pub run_alone : Code → Entry → List Choice → ℕ → Run
run_alone c entry choices n = exec choices c.instrs n 0 (start c entry)

pub record RunAlike (c : Code) (entry other : Entry) : Type 0 where
  pub runs : (choices : List Choice) (n : ℕ) → run_alone c entry choices n ≡ run_alone (idle c) other choices n
  pub taken : (object : ℕ) → taken_at_entry c.terms entry object ≡ taken_at_entry c.terms other object

pub record IsAlikeIdle (n : ℕ) (c : Code) : Type 0 where
  pub fits : (entry : Entry) → code_fits n (idle c) entry ≡ true → code_fits n c (restored n c entry) ≡ true
  pub runs : (entry : Entry) → code_fits n (idle c) entry ≡ true → RunAlike c (restored n c entry) entry
  pub all : (entry : Entry) → code_fits n c entry ≡ true
      → (other : Entry) × ((code_fits n (idle c) other ≡ true) × RunAlike c entry other)

abbrev pub IsFormedIdle : Code → Type 0
IsFormedIdle c = IsWellFormed c → IsWellFormed (idle c)
