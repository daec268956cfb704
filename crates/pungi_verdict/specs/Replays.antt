-- What is known where a function is judged, and where the run of a witness is done again by it.
--   alone_run code entry choices n  the run of a code from an entry, where a call of a function of the file stops it
--   ReturnsAlike fs n f code    a function and a code return alike: a run of the code alone that returns is one of the
--                               function, within so many steps; and where the code calls no function of the file, the
--                               other way round
--   IsGiven n f code            a function that has a meaning, and a code that is judged for it, under the same terms:
--                               the same entries fit both, its instructions are well-formed, and the static objects
--                               that they name are there, and those that aren't counted
--   IsTrueAlike n f code v      a verdict is true of a function in any file in which it and the code return alike
--   IsUneven code w             the run of a code alone by a witness returns after not too many instructions, and is
--                               not balanced
use Rattle.std.specs.Prelude.{◌≡◌, ℕ, ◌+◌, ◌*◌, ◌≤◌, true, List, length, Option}
use Rattle.pungi_base.specs.declared.choice.Choice.{Choice}
use Rattle.pungi_base.specs.declared.entry.Entry.{Entry}
use Rattle.pungi_base.specs.declared.pos.Pos.{Pos}
use Rattle.pungi_base.specs.declared.value.Value.{Value}
use Rattle.pungi_base.specs.declared.verdict.Verdict.{Verdict}
use Rattle.pungi_base.specs.declared.witness.Witness.{Witness}
use Rattle.pungi_api.specs.Terms.{immortal_count}
use Rattle.pungi_resolved.specs.Functions.{ResolvedFunction}
use Rattle.pungi_world.specs.declared.world.World.{World}
use Rattle.pungi_world.specs.Escapes.{IsBalanced}
use Rattle.pungi_meaning.specs.Entries.{entry_fits}
use Rattle.pungi_meaning.specs.Run.{Run, Returned, run_of}
use Rattle.pungi_code.specs.Alone.{CallsNone}
use Rattle.pungi_code.specs.Entries.{code_fits}
use Rattle.pungi_code.specs.Limits.{steps_an_instruction}
use Rattle.pungi_code.specs.Run.{exec, start}
use Rattle.pungi_code.specs.declared.code.Code.{Code}
use Rattle.pungi_code.specs.WellFormed.{CallKinds, IsWellFormedAmong, has_statics}
use Rattle.pungi_symbol.specs.runs.Paths.{IsShort}
use Rattle.pungi_verdict.specs.Sound.{HasMeaning, IsTrueOf}

abbrev pub alone_run : Code → Entry → List Choice → ℕ → Run
alone_run code entry choices n = exec choices code.instrs n 0 (start code entry)

pub record ReturnsAlike (fs : List (Option ResolvedFunction)) (n : ℕ) (f : ResolvedFunction) (code : Code) : Type 0
  where
    pub only : (entry : Entry) (choices : List Choice) → entry_fits f.params n entry ≡ true
        → (m : ℕ) (w : World) (v : Option Value) (p : Pos) (used : List Pos)
        → (alone_run code entry choices m).end ≡ Returned w v p used
        → (run_of fs f entry choices (steps_an_instruction * (m + 1))).end ≡ Returned w v p used
    pub all : CallsNone code.instrs → (entry : Entry) (choices : List Choice) → entry_fits f.params n entry ≡ true
        → (m : ℕ) (w : World) (v : Option Value) (p : Pos) (used : List Pos)
        → (run_of fs f entry choices m).end ≡ Returned w v p used
        → (k : ℕ) × ((alone_run code entry choices k).end ≡ Returned w v p used)

pub record IsGiven (n : ℕ) (f : ResolvedFunction) (code : Code) : Type 0 where
  pub meant : HasMeaning n f
  pub terms : code.terms ≡ f.terms
  pub fits : (entry : Entry) → code_fits n code entry ≡ entry_fits f.params n entry
  pub callees : ℕ → CallKinds
  pub formed : IsWellFormedAmong callees code
  pub there : has_statics n code ≡ true
  pub immortals : immortal_count code.terms.profile ≤ n

abbrev pub IsTrueAlike : ℕ → ResolvedFunction → Code → Verdict → Type 0
IsTrueAlike n f code v = (fs : List (Option ResolvedFunction)) → ReturnsAlike fs n f code → IsTrueOf fs n f v

pub record IsUneven (code : Code) (w : Witness) : Type 0 where
  pub steps : ℕ
  pub world : World
  pub value : Option Value
  pub at : Pos
  pub used : List Pos
  pub run : (alone_run code w.input w.choices steps).end ≡ Returned world value at used
  pub short : IsShort code steps
  pub all_used : length used ≡ length w.choices
  pub off : IsBalanced code.terms w.input world value → ⊥
