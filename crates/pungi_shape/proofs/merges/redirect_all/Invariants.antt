use Rattle.std.proofs.Common.{◌≡◌}
use Rattle.pungi_shape.specs.Scenes.{redirect}
use Rattle.pungi_shape.specs.Shapes.{rename_holding}
use Rattle.pungi_shape.proofs.ListLemmas.{mapped}
use Rattle.pungi_shape.proofs.merges.redirect_all.Given as goal

abbrev pub invariant-loop-i : goal.invariant-loop-i
invariant-loop-i l = l.holdings ≡ mapped (rename_holding (redirect l.t l.u)) l.i l.initial.holdings
