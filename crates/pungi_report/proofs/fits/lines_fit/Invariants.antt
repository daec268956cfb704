use Rattle.std.specs.List.{AllWithin}
use Rattle.pungi_report.specs.Fits.{FitsLine}
use Rattle.pungi_report.proofs.fits.lines_fit.Given as goal

-- those so far fit
abbrev pub invariant-loop-line : goal.invariant-loop-line
invariant-loop-line l = AllWithin FitsLine l.lines 0 l.line-index
