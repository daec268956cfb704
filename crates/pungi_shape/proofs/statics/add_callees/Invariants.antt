use Rattle.std.proofs.Common.{take}
use Rattle.std.specs.List.{flat_map}
use Rattle.pungi_shape.specs.Named.{callees_in}
use Rattle.pungi_shape.specs.Reaching.{IsAdded}
use Rattle.pungi_shape.proofs.statics.add_callees.Given as goal

abbrev pub invariant-loop-line : goal.invariant-loop-line
invariant-loop-line l =
    IsAdded (flat_map callees_in (take l.line-index l.lines)) l.fn.marks.items l.marks.items l.fn.list.items
    l.list.items
