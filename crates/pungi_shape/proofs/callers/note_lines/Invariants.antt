use Rattle.std.proofs.Common.{take}
use Rattle.std.specs.List.{flat_map}
use Rattle.pungi_shape.specs.Callers.{AreNoted}
use Rattle.pungi_shape.specs.Named.{callees_in}
use Rattle.pungi_shape.proofs.callers.note_lines.Given as goal

abbrev pub invariant-loop-line : goal.invariant-loop-line
invariant-loop-line l =
    AreNoted l.f (flat_map callees_in (take l.line-index l.lines)) l.fn.lists.items l.lists.items
