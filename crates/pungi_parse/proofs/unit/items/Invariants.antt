use Rattle.std.proofs.Common.{length, map}
use Rattle.pungi_parse.proofs.item.UnitLoop.{UnitTo}
use Rattle.pungi_tree.specs.Placed.{placed}
use Rattle.pungi_tree.specs.UnitView.{item_view}
use Rattle.pungi_parse.proofs.unit.items.Given as goal

abbrev pub invariant-each : goal.invariant-each
invariant-each l = UnitTo l.types (placed l.tokens) (map item_view l.found.items) (placed l.rest)

abbrev pub decreases-each : goal.decreases-each
decreases-each l = length l.rest
