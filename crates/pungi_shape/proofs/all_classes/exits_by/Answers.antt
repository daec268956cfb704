use Rattle.std.proofs.Common.{subst, sym}
use Rattle.pungi_shape.specs.AllClasses.{AreExitsBy}
use Rattle.pungi_shape.specs.Classes.{AreClassesOf, classes_of}
use Rattle.pungi_shape.proofs.FileCodes.{code-among}
use Rattle.pungi_shape.proofs.FileStatics.{statics-few}
use Rattle.pungi_shape.proofs.WholeClasses.{whole-classes, whole-exits-by}
use Rattle.pungi_shape.proofs.all_classes.exits_by.Goals as goal

pub search-requires-clause-well_formed : goal.search-requires-clause-well_formed
search-requires-clause-well_formed c =
    code-among c.args.codes.now c.args.f c.args.code.now c.requires.well_formed c.requires.code

pub search-requires-clause-few : goal.search-requires-clause-few
search-requires-clause-few c =
    statics-few c.args.codes.now c.args.f c.args.code.now c.requires.code c.requires.well_formed

pub of-requires : goal.of-requires
of-requires c = code-among c.args.codes.now c.args.f c.args.code.now c.requires.well_formed c.requires.code

pub returns-clause-classes : goal.returns-clause-classes
returns-clause-classes c =
    let codes = c.args.codes.now in
    let code = c.args.code.now in
    subst (AreClassesOf codes c.args.f) (sym c.in_ok-exits_in_order.ensures)
    (whole-classes codes c.args.f code c.requires.code
    (code-among codes c.args.f code c.requires.well_formed c.requires.code) (classes_of c.args.classes.now)
    c.requires.classes c.in_ok-found.field-0.found c.in_ok-found.ensures.whole)

pub returns-clause-exits : goal.returns-clause-exits
returns-clause-exits c =
    let codes = c.args.codes.now in
    let code = c.args.code.now in
    let others = classes_of c.args.classes.now in
    subst (AreExitsBy codes others c.args.f) (sym c.in_ok-exits_in_order.ensures)
    (whole-exits-by codes c.args.f code c.requires.code
    (code-among codes c.args.f code c.requires.well_formed c.requires.code) others
    c.requires.classes c.in_ok-found.field-0.found c.in_ok-found.ensures.whole)
