use Rattle.std.proofs.Common.{◌≡◌, ◌≤◌, take}
use Rattle.pungi_shape.specs.Shapes.{count_of_numbers}
use Rattle.pungi_shape.proofs.shapes.count_of_numbers.Given as goal

abbrev pub invariant-loop-h : goal.invariant-loop-h
invariant-loop-h l = record {
  count : l.count ≡ count_of_numbers (take l.h-index l.holdings);
  few : l.count ≤ l.h-index;
}
