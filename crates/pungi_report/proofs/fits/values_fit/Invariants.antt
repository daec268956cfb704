use Rattle.std.specs.List.{AllWithin}
use Rattle.pungi_report.specs.Fits.{FitsValue}
use Rattle.pungi_report.proofs.fits.values_fit.Given as goal

-- those so far fit
abbrev pub invariant-loop-value : goal.invariant-loop-value
invariant-loop-value l = AllWithin FitsValue l.values 0 l.value-index
