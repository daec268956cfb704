-- The lines of a report.
--   IsJudgedByCopies c d line   a line is right for a function by its code with copies: its verdict is true, it is
--                               refused where a rule holds and only there, and comes for its cause
--   IsJudged c d line           a line is right for a function
--   IsFunctionName c name       a function of a file has this name
--   IsReason c w                this may be why a function is unknown: a function that is named is one of the file
--   IsReportable c v            a verdict can be reported: a fault has a place for each of its choices, and a reason
--                               names a function of the file, if any
use Rattle.std.specs.Prelude.{◌≡◌, ℕ, length, slice_get, Some}
use Rattle.pungi_base.specs.declared.names.Name.{Name}
use Rattle.pungi_base.specs.declared.verdict.Verdict.{Verdict}
use Rattle.pungi_base.specs.declared.verdict.Verdict.TheVariants as verdict
use Rattle.pungi_base.specs.declared.why.Why.{Why}
use Rattle.pungi_base.specs.declared.why.Why.TheVariants as why
use Rattle.pungi_types.specs.Files.{Definition, definitions}
use Rattle.pungi_types.specs.Functions.{refusal}
use Rattle.pungi_types.specs.Refused.{CheckedFile}
use Rattle.pungi_verdict.specs.Causes.{IsCaused, IsCausedByCopies}
use Rattle.pungi_verdict.specs.Refusals.{IsRefused}
use Rattle.pungi_verdict.specs.Sound.{IsSound}

pub record IsJudgedByCopies (c : CheckedFile) (d : Definition) (line : Name × Verdict) : Type 0 where
  pub sound : IsSound c d line
  pub refused : IsRefused c d line
  pub caused : IsCausedByCopies c d (refusal c.file c.refused d) line.1

pub record IsJudged (c : CheckedFile) (d : Definition) (line : Name × Verdict) : Type 0 where
  pub sound : IsSound c d line
  pub refused : IsRefused c d line
  pub caused : IsCaused c d line

abbrev pub IsFunctionName : CheckedFile → Name → Type 0
IsFunctionName c name =
    (g : ℕ) × ((d : Definition) × ((slice_get (definitions c.file.items) g ≡ Some d) × (d.name ≡ name)))

abbrev pub IsReason : CheckedFile → Why → Type 0
IsReason c why.Traces = Unit {0}
IsReason c why.Shapes = Unit {0}
IsReason c (why.Range at numbers) = Unit {0}
IsReason c (why.Number at) = Unit {0}
IsReason c (why.Loop at) = Unit {0}
IsReason c (why.Call at name) = IsFunctionName c name

abbrev pub IsReportable : CheckedFile → Verdict → Type 0
IsReportable c verdict.Clean = Unit {0}
IsReportable c (verdict.Faulty fault) = length fault.used ≡ length fault.witness.choices
IsReportable c (verdict.Unknown because) = IsReason c because
IsReportable c (verdict.Refused at rule) = Unit {0}
