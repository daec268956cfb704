use Rattle.std.proofs.Common.{◌∙◌, ap, sym}
use Rattle.pungi_shape.specs.Programs.{edge_cmp}
use Rattle.pungi_shape.proofs.OrderLemmas.{put-before, put-there}
use Rattle.pungi_shape.proofs.edge_order.find_edge.Goals as goal

pub returns-in-Less-clause-place : goal.returns-in-Less-clause-place
returns-in-Less-clause-place c =
    put-before c.args.edge.now c.args.list.now c.loop-i.i c.index-list-i.result c.loop-i-test.true c.loop-i.invariant
    (sym (c.in-Less.ensures ∙ ap (edge_cmp c.args.edge.now) c.index-list-i.is))

pub returns-in-Equal-clause-place : goal.returns-in-Equal-clause-place
returns-in-Equal-clause-place c =
    put-there c.args.edge.now c.args.list.now c.loop-i.i c.index-list-i.result c.loop-i-test.true c.loop-i.invariant
    (sym (c.in-Equal.ensures ∙ ap (edge_cmp c.args.edge.now) c.index-list-i.is))
