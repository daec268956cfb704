use Rattle.std.proofs.Common.{◌≤◌, All, take}
use Rattle.pungi_domain.proofs.well_formed.are_narrow.Given as goal

abbrev pub invariant-loop-width : goal.invariant-loop-width
invariant-loop-width l = All (λ w. w ≤ 256) (take l.width-index l.widths)
