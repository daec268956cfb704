use Rattle.std.proofs.Common.{◌≡◌}
use Rattle.pungi_shape.specs.Numbered.{number_by}
use Rattle.pungi_shape.specs.Shapes.{rename_tracked}
use Rattle.pungi_shape.proofs.ListLemmas.{mapped}
use Rattle.pungi_shape.proofs.arrivals.renumber_slots.Given as goal

abbrev pub invariant-loop-i : goal.invariant-loop-i
invariant-loop-i l = l.slots ≡ mapped (rename_tracked (number_by l.numbering)) l.i l.initial.slots
