use Rattle.std.proofs.Common.{◌≡◌}
use Rattle.pungi_shape.specs.Scenes.{redirect}
use Rattle.pungi_shape.specs.Shapes.{rename_holding}
use Rattle.pungi_shape.proofs.ListLemmas.{mapped}
use Rattle.pungi_shape.proofs.merges.redirect_statics.Given as goal

abbrev pub invariant-loop-i : goal.invariant-loop-i
invariant-loop-i l = l.statics ≡ mapped (λ k. (k.0, rename_holding (redirect l.t l.u) k.1)) l.i l.initial.statics
