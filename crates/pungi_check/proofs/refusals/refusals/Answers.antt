use Rattle.pungi_names.specs.NamesView.{file_of}
use Rattle.pungi_types.specs.Files.{definitions, number_in}
use Rattle.pungi_check.specs.Graph.{node_of}
use Rattle.pungi_check.proofs.FindingAt.{node-of}
use Rattle.pungi_check.proofs.refusals.refusals.Goals as goal

pub settled-requires : goal.settled-requires
settled-requires c =
    let file = file_of c.args.names.now in
    node-of c.args.list.now (node_of file (number_in 0 (definitions file.items))) c.args.graph.now c.loop-i.i
    c.index-list-i.result c.index-graph-i.result c.requires c.loop-i-test.true
    c.index-list-i.is c.index-graph-i.is
