use Rattle.std.specs.List.{AllWithin}
use Rattle.pungi_report.specs.Fits.{FitsChoice}
use Rattle.pungi_report.proofs.fits.choices_fit.Given as goal

-- those so far fit
abbrev pub invariant-loop-choice : goal.invariant-loop-choice
invariant-loop-choice l = AllWithin FitsChoice l.choices 0 l.choice-index
