use Rattle.std.proofs.Common.{◌≡◌}
use Rattle.pungi_shape.specs.Scenes.{redirect}
use Rattle.pungi_shape.specs.Shapes.{rename_tracked}
use Rattle.pungi_shape.proofs.ListLemmas.{mapped}
use Rattle.pungi_shape.proofs.merges.redirect_slots.Given as goal

abbrev pub invariant-loop-i : goal.invariant-loop-i
invariant-loop-i l = l.slots ≡ mapped (rename_tracked (redirect l.t l.u)) l.i l.initial.slots
