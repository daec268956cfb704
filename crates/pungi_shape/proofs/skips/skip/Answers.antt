use Rattle.std.proofs.Common.{◌∙◌, arith}
use Rattle.pungi_shape.proofs.SkipLemmas.{skipped-fits}
use Rattle.pungi_shape.proofs.skips.skip.Goals as goal

pub returns-in-Ok-Some-clause-shape : goal.returns-in-Ok-Some-clause-shape
returns-in-Ok-Some-clause-shape c =
    (skipped-fits c.args.code.now c.args.p c.args.shape c.in-Ok-Some.field-0 c.in-Ok-Some.next
    c.requires.well_formed c.requires.shape
    c.in-Ok-Some.field-0-is c.in-Ok-Some.ensures).fits

pub returns-in-Ok-Some-clause-vars : goal.returns-in-Ok-Some-clause-vars
returns-in-Ok-Some-clause-vars c =
    (skipped-fits c.args.code.now c.args.p c.args.shape c.in-Ok-Some.field-0 c.in-Ok-Some.next
    c.requires.well_formed c.requires.shape
    c.in-Ok-Some.field-0-is c.in-Ok-Some.ensures).vars ∙ c.requires.vars

pub returns-in-Ok-Some-clause-narrow : goal.returns-in-Ok-Some-clause-narrow
returns-in-Ok-Some-clause-narrow c =
    let width = (skipped-fits c.args.code.now c.args.p c.args.shape c.in-Ok-Some.field-0 c.in-Ok-Some.next
    c.requires.well_formed c.requires.shape c.in-Ok-Some.field-0-is c.in-Ok-Some.ensures).width
    in
    omega (arith, width, c.requires.narrow)
