use Rattle.std.proofs.Common.{◌⊎◌}
use Rattle.std.proofs.lemmas.Result.{IfOk-weaker}
use Rattle.pungi_domain.specs.declared.affine_program.AffineProgram.{AffineProgram}
use Rattle.pungi_shape.specs.Classes.{classes_of}
use Rattle.pungi_shape.specs.Programs.{HasManyPlaces, HasWidePlace, IsTooLarge}
use Rattle.pungi_shape.proofs.FewStatics.{statics-below}
use Rattle.pungi_shape.proofs.FileCodes.{code-alone}
use Rattle.pungi_shape.proofs.GraphLemmas.{code_here, large-alone, none-classes, none-exits, small-alone}
use Rattle.pungi_shape.proofs.NamedLemmas.{code-sound}
use Rattle.pungi_shape.proofs.affine_graph.graph.Goals as goal

pub graph_by-requires-clause-code : goal.graph_by-requires-clause-code
graph_by-requires-clause-code c =
    code_here c.args.codes.now c.args.f c.as_slice.result.now c.index-as_slice-f.result c.in-Some.code
    c.as_slice.ensures c.requires.there c.index-as_slice-f.is c.in-Some.is

pub graph_by-requires-clause-well_formed : goal.graph_by-requires-clause-well_formed
graph_by-requires-clause-well_formed c =
    code-alone c.in-Some.code (code-sound c.args.codes.now c.args.f c.in-Some.code c.requires.well_formed
    (code_here c.args.codes.now c.args.f c.as_slice.result.now c.index-as_slice-f.result c.in-Some.code
    c.as_slice.ensures c.requires.there c.index-as_slice-f.is c.in-Some.is))

pub graph_by-requires-clause-few : goal.graph_by-requires-clause-few
graph_by-requires-clause-few c =
    let is = code_here c.args.codes.now c.args.f c.as_slice.result.now c.index-as_slice-f.result c.in-Some.code
    c.as_slice.ensures c.requires.there c.index-as_slice-f.is c.in-Some.is in
    statics-below c.args.codes.now c.args.f c.in-Some.code is
    (code-sound c.args.codes.now c.args.f c.in-Some.code c.requires.well_formed is)

pub graph_by-requires-clause-classes : goal.graph_by-requires-clause-classes
graph_by-requires-clause-classes c = none-classes c.args.codes.now c.none-none.result c.none-none.ensures

pub graph_by-requires-clause-exits : goal.graph_by-requires-clause-exits
graph_by-requires-clause-exits c =
    none-exits c.args.codes.now c.args.f (classes_of c.none-none.result) c.requires.well_formed

pub returns-clause-small : goal.returns-clause-small
returns-clause-small c =
    let codes = c.args.codes.now in
    let f = c.args.f in
    IfOk-weaker c.graph_by.result (λ (p : AffineProgram). HasManyPlaces codes f ⊎ HasWidePlace codes f → ⊥)
    (λ (p : AffineProgram). IsTooLarge codes f → ⊥)
    (λ p small. small-alone codes f c.requires.well_formed small) c.graph_by.ensures.small

pub returns-clause-large : goal.returns-clause-large
returns-clause-large c = λ e. large-alone c.args.codes.now c.args.f (c.graph_by.ensures.large e)
