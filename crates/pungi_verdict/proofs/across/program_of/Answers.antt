use Rattle.std.proofs.Common.{◌∙◌, Err, ap, sym}
use Rattle.pungi_verdict.proofs.Reached.{itself-large, listed, callees-listed}
use Rattle.pungi_verdict.proofs.across.program_of.Goals as goal

pub graph_among-requires-clause-exits : goal.graph_among-requires-clause-exits
graph_among-requires-clause-exits c =
    let codes = c.args.codes.now in
    let cs = c.args.classes.now in
    callees-listed codes cs c.requires.classes c.args.f (sym c.has.ensures ∙ c.if-not-has.false)

pub returns-in-Ok : goal.returns-in-Ok
returns-in-Ok c =
    let codes = c.args.codes.now in
    let cs = c.args.classes.now in
    let of = c.in-Ok.ensures in (
      of.program,
      listed codes cs c.requires.classes c.args.f (sym c.has.ensures ∙ c.if-not-has.false),
      of.well_formed,
      of.calls,
    )

pub returns-in-Err-Shapes : goal.returns-in-Err-Shapes
returns-in-Err-Shapes c = λ code is.
    itself-large c.functions_are_reached.ensures c.args.codes.now c.args.f
    (c.graph_among.ensures.large (c.in-Err-Shapes.is ∙ ap Err c.in-Err-Shapes.field-0-is))
