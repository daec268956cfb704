use Rattle.std.proofs.Common.{◌≡◌, ◌+◌, ◌++◌, drop}
use Rattle.pungi_shape.specs.Scenes.{number_forms}
use Rattle.pungi_shape.specs.Shapes.{count_of_numbers}
use Rattle.pungi_shape.proofs.scenes.number_forms.Given as goal

abbrev pub invariant-loop-h : goal.invariant-loop-h
invariant-loop-h l = record {
  forms : l.out ++ number_forms l.width l.k (drop l.h-index l.holdings) ≡ number_forms l.width l.from l.holdings;
  count : l.k + count_of_numbers (drop l.h-index l.holdings) ≡ l.from + count_of_numbers l.holdings;
}
