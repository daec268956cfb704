-- Why a file is refused.
--   finding_at p n      the finding of this place and number
--   IsFaultOf file fault    the first fault in the text, and at one place the lower number: 1 a duplicate name, 2 the
--                           4,097th function
use Rattle.std.specs.Prelude.{◌≡◌, ℕ, Option, Some}
use Rattle.pungi_base.specs.declared.pos.Pos.{Pos}
use Rattle.pungi_types.specs.Files.{SourceFile}
use Rattle.pungi_types.specs.Findings.{least}
use Rattle.pungi_check.specs.Duplicates.{faults}
use Rattle.pungi_types.specs.declared.finding.Finding.{Finding}
use Rattle.pungi_check.specs.declared.fault.UnitFault.{UnitFault}
use Rattle.pungi_check.specs.declared.fault.UnitFault.TheVariants as why

abbrev pub finding_at : Pos → ℕ → Option Finding
finding_at p n = Some (record { pos = p; rule = record { 0 = n } })

abbrev pub IsFaultOf : SourceFile → UnitFault → Type 0
IsFaultOf file (why.DuplicateName p) = least (faults file) ≡ finding_at p 1
IsFaultOf file (why.TooManyFunctions p) = least (faults file) ≡ finding_at p 2
IsFaultOf file why.Memory = Unit {0}
