-- The laws of kinds: for a file of well-formed codes, any entry that fits a function and any choices.
--   begin code entry            where a run of a code begins
--   ValuesHold codes            at each instruction of a run what each variable, slot, argument and result holds is of
--                               its kind
--   most_objects entry choices  how many objects may be there in a run
--   RunHolds codes result n r   each value that is computed with, converted, compared, loaded, stored or passed in a
--                               run is of its kind, an object among n, and what it returns is of the kind of the
--                               result
--   RunsHold codes              so it is in the runs of codes
--   TreesHold codes             so it is in the runs of checked functions
use Rattle.std.specs.Prelude.{◌≡◌, ℕ, ◌+◌, true, List, [], length, Option, Some}
use Rattle.std.specs.Prelude.{slice_get}
use Rattle.pungi_base.specs.declared.choice.Choice.{Choice}
use Rattle.pungi_base.specs.declared.entry.Entry.{Entry}
use Rattle.pungi_api.specs.declared.param.Param.{Param}
use Rattle.pungi_types.specs.Files.{Definition, definitions}
use Rattle.pungi_types.specs.Refused.{CheckedFile}
use Rattle.pungi_resolve.specs.Functions.{resolved}
use Rattle.pungi_resolve.specs.Resolutions.{resolutions}
use Rattle.pungi_meaning.specs.Entries.{entry_fits}
use Rattle.pungi_meaning.specs.Run.{Run, run_of}
use Rattle.pungi_code.specs.declared.code.Code.{Code}
use Rattle.pungi_code.specs.declared.code.Codes.{Codes}
use Rattle.pungi_code.specs.Entries.{code_fits}
use Rattle.pungi_code.specs.Run.{code_at, run_of_code, start}
use Rattle.pungi_lower.specs.Lowered.{AreLowered}
use Rattle.pungi_kinds.specs.Operations.{OperationsHold}
use Rattle.pungi_kinds.specs.Runs.{Point, KeepsKinds, end_holds}

abbrev pub begin : Code → Entry → Point
begin code entry = record { frames = []; instrs = code.instrs; place = 0; regs = start code entry }

abbrev pub ValuesHold : Codes → Type 0
ValuesHold codes =
    (f : ℕ) (code : Code) (entry : Entry) (choices : List Choice) (fuel : ℕ)
    → code_at codes f ≡ Some code → code_fits codes.statics code entry ≡ true
    → KeepsKinds codes code.result choices entry.objects fuel (begin code entry)

abbrev pub most_objects : Entry → List Choice → ℕ
most_objects entry choices = entry.objects + length choices

pub record RunHolds (codes : Codes) (result : Option Param) (n : ℕ) (r : Run) : Type 0 where
  pub ops : OperationsHold codes n r.ops
  pub end : end_holds result r.end ≡ true

abbrev pub RunsHold : Codes → Type 0
RunsHold codes =
    (f : ℕ) (code : Code) (entry : Entry) (choices : List Choice) (fuel : ℕ)
    → code_at codes f ≡ Some code → code_fits codes.statics code entry ≡ true
    → RunHolds codes code.result (most_objects entry choices)
    (run_of_code codes.codes (code_at codes f) entry choices fuel)

abbrev pub TreesHold : Codes → Type 0
TreesHold codes =
    (c : CheckedFile) (i : ℕ) (d : Definition) (code : Code) (entry : Entry) (choices : List Choice) (steps : ℕ)
    → AreLowered c codes.codes → slice_get (definitions c.file.items) i ≡ Some d
    → slice_get codes.codes i ≡ Some (Some code)
    → entry_fits (resolved c.file c.refused d).params codes.statics entry ≡ true
    → RunHolds codes code.result (most_objects entry choices)
    (run_of (resolutions c) (resolved c.file c.refused d) entry choices steps)
