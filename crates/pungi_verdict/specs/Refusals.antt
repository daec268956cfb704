-- Which functions are refused, where, and by which rule.
--   IsRefusedAt found v         a function with this finding is refused at the finding, by its rule; one without isn't
--                               refused
--   IsRefused c d line          so is a function of a file
use Rattle.std.specs.Prelude.{◌≡◌, Option, Some, None}
use Rattle.pungi_base.specs.declared.names.Name.{Name}
use Rattle.pungi_base.specs.declared.verdict.Verdict.{Verdict}
use Rattle.pungi_base.specs.declared.verdict.Verdict.TheVariants as verdict
use Rattle.pungi_types.specs.declared.finding.Finding.{Finding}
use Rattle.pungi_types.specs.Files.{Definition}
use Rattle.pungi_types.specs.Functions.{refusal}
use Rattle.pungi_types.specs.Refused.{CheckedFile}

abbrev pub IsRefusedAt : Option Finding → Verdict → Type 0
IsRefusedAt (Some e) v = v ≡ verdict.Refused e.pos e.rule
IsRefusedAt None (verdict.Refused at rule) = ⊥
IsRefusedAt None verdict.Clean = Unit {0}
IsRefusedAt None (verdict.Faulty fault) = Unit {0}
IsRefusedAt None (verdict.Unknown because) = Unit {0}

abbrev pub IsRefused : CheckedFile → Definition → Name × Verdict → Type 0
IsRefused c d line = IsRefusedAt (refusal c.file c.refused d) line.1
