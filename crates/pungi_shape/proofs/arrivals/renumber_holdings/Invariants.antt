use Rattle.std.proofs.Common.{◌≡◌}
use Rattle.pungi_shape.specs.Numbered.{number_by}
use Rattle.pungi_shape.specs.Shapes.{rename_holding}
use Rattle.pungi_shape.proofs.ListLemmas.{mapped}
use Rattle.pungi_shape.proofs.arrivals.renumber_holdings.Given as goal

abbrev pub invariant-loop-i : goal.invariant-loop-i
invariant-loop-i l = l.holdings ≡ mapped (rename_holding (number_by l.numbering)) l.i l.initial.holdings
