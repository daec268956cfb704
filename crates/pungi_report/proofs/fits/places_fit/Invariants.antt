use Rattle.std.specs.List.{AllWithin}
use Rattle.pungi_report.specs.Fits.{FitsPlace}
use Rattle.pungi_report.proofs.fits.places_fit.Given as goal

-- those so far fit
abbrev pub invariant-loop-pos : goal.invariant-loop-pos
invariant-loop-pos l = AllWithin FitsPlace l.places 0 l.pos-index
