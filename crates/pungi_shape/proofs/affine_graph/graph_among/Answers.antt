use Rattle.pungi_shape.proofs.FileCodes.{code-among}
use Rattle.pungi_shape.proofs.FileStatics.{statics-few}
use Rattle.pungi_shape.proofs.GraphLemmas.{code_here}
use Rattle.pungi_shape.proofs.affine_graph.graph_among.Goals as goal

pub graph_by-requires-clause-code : goal.graph_by-requires-clause-code
graph_by-requires-clause-code c =
    code_here c.args.codes.now c.args.f c.as_slice.result.now c.index-as_slice-f.result c.in-Some.code
    c.as_slice.ensures c.requires.there c.index-as_slice-f.is c.in-Some.is

pub graph_by-requires-clause-well_formed : goal.graph_by-requires-clause-well_formed
graph_by-requires-clause-well_formed c =
    code-among c.args.codes.now c.args.f c.in-Some.code c.requires.well_formed (code_here c.args.codes.now c.args.f
    c.as_slice.result.now c.index-as_slice-f.result c.in-Some.code c.as_slice.ensures c.requires.there
    c.index-as_slice-f.is c.in-Some.is)

pub graph_by-requires-clause-few : goal.graph_by-requires-clause-few
graph_by-requires-clause-few c =
    statics-few c.args.codes.now c.args.f c.in-Some.code (code_here c.args.codes.now c.args.f c.as_slice.result.now
    c.index-as_slice-f.result c.in-Some.code c.as_slice.ensures c.requires.there c.index-as_slice-f.is c.in-Some.is)
    c.requires.well_formed
