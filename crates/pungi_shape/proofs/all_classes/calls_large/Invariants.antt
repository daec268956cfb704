use Rattle.std.proofs.Common.{take}
use Rattle.std.specs.List.{flat_map}
use Rattle.pungi_shape.specs.Named.{callees_in}
use Rattle.pungi_shape.proofs.ClassLemmas.{CallsListed}
use Rattle.pungi_shape.proofs.all_classes.calls_large.Given as goal

abbrev pub invariant-loop-line : goal.invariant-loop-line
invariant-loop-line l = CallsListed l.classes (flat_map callees_in (take l.line-index l.lines))
