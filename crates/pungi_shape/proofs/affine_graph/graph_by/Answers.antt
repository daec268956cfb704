use Rattle.std.proofs.Common.{◌≡◌, sym, subst, rules}
use Rattle.std.specs.List.{All}
use Rattle.pungi_domain.specs.Programs.{IsWellFormed}
use Rattle.pungi_domain.specs.declared.affine_program.AffineProgram.{AffineProgram}
use Rattle.pungi_shape.specs.Callables.{IsCallOf}
use Rattle.pungi_shape.specs.Classes.{classes_of}
use Rattle.pungi_shape.specs.Programs.{IsProgram, program_of}
use Rattle.pungi_shape.specs.Ranks.{exits_in, places_in}
use Rattle.pungi_shape.proofs.CallableLemmas.{program-calls}
use Rattle.pungi_shape.proofs.FoundByLemmas.{large-by}
use Rattle.pungi_shape.proofs.ProgramLemmas.{not-large, whole-exits, whole-fits, whole-listed, whole-numbers}
use Rattle.pungi_shape.proofs.ProgramLemmas.{whole-places, whole-program}
use Rattle.pungi_shape.proofs.affine_graph.graph_by.Goals as goal

pub program-requires-clause-places : goal.program-requires-clause-places
program-requires-clause-places c =
    whole-places c.args.codes.now c.args.f c.args.code.now (classes_of c.args.classes.now) c.in_ok-found.field-0.found
    c.in_ok-found.ensures.whole

pub program-requires-clause-exits : goal.program-requires-clause-exits
program-requires-clause-exits c =
    whole-exits c.args.codes.now c.args.f c.args.code.now (classes_of c.args.classes.now) c.in_ok-found.field-0.found
    c.in_ok-found.ensures.whole

pub program-requires-clause-numbers : goal.program-requires-clause-numbers
program-requires-clause-numbers c =
    whole-numbers c.args.codes.now c.args.f c.args.code.now (classes_of c.args.classes.now) c.in_ok-found.field-0.found
    c.in_ok-found.ensures.whole

pub program-requires-clause-lists : goal.program-requires-clause-lists
program-requires-clause-lists c = (
  classes_of c.args.classes.now,
  whole-listed c.args.codes.now c.args.f c.args.code.now c.requires.code c.requires.well_formed
      (classes_of c.args.classes.now) c.requires.classes c.in_ok-found.field-0.found c.in_ok-found.ensures.whole
      c.in_ok-found.field-0.edges.items c.in_ok-found.ensures.edges,
)

pub returns-clause-program : goal.returns-clause-program
returns-clause-program c =
    let codes = c.args.codes.now in
    let f = c.args.f in
    let code = c.args.code.now in
    let others = classes_of c.args.classes.now in
    let s = c.in_ok-found.field-0.found in
    let p : AffineProgram = program_of code others (places_in s) (exits_in s) in
    let is : c.in_ok-program.field-0 ≡ p = c.in_ok-program.ensures others (whole-listed codes f code c.requires.code
    c.requires.well_formed others c.requires.classes s c.in_ok-found.ensures.whole c.in_ok-found.field-0.edges.items
    c.in_ok-found.ensures.edges) in
    subst (IsProgram codes f) (sym is)
    (whole-program codes f code c.requires.code c.requires.well_formed others c.requires.classes s
    c.in_ok-found.ensures.whole c.requires.exits)

pub returns-clause-well_formed : goal.returns-clause-well_formed
returns-clause-well_formed c =
    let codes = c.args.codes.now in
    let f = c.args.f in
    let code = c.args.code.now in
    let others = classes_of c.args.classes.now in
    let s = c.in_ok-found.field-0.found in
    let p : AffineProgram = program_of code others (places_in s) (exits_in s) in
    let is : c.in_ok-program.field-0 ≡ p = c.in_ok-program.ensures others (whole-listed codes f code c.requires.code
    c.requires.well_formed others c.requires.classes s c.in_ok-found.ensures.whole c.in_ok-found.field-0.edges.items
    c.in_ok-found.ensures.edges) in
    subst IsWellFormed (sym is)
    (whole-fits codes f code c.requires.code c.requires.well_formed others c.requires.classes s
    c.in_ok-found.ensures.whole)

pub returns-clause-calls : goal.returns-clause-calls
returns-clause-calls c =
    let codes = c.args.codes.now in
    let f = c.args.f in
    let code = c.args.code.now in
    let others = classes_of c.args.classes.now in
    let s = c.in_ok-found.field-0.found in
    let p : AffineProgram = program_of code others (places_in s) (exits_in s) in
    let is : c.in_ok-program.field-0 ≡ p = c.in_ok-program.ensures others (whole-listed codes f code c.requires.code
    c.requires.well_formed others c.requires.classes s c.in_ok-found.ensures.whole c.in_ok-found.field-0.edges.items
    c.in_ok-found.ensures.edges) in
    subst (λ (r : AffineProgram). All (λ e. IsCallOf codes others f e.action) r.edges) (sym is)
    (program-calls codes others f code c.requires.code c.requires.classes (places_in s) (exits_in s))

pub returns-clause-small : goal.returns-clause-small
returns-clause-small c =
    not-large c.args.codes.now c.args.f c.args.code.now c.requires.code c.requires.well_formed
    (classes_of c.args.classes.now) c.requires.classes c.in_ok-found.field-0.found c.in_ok-found.ensures.whole
    c.requires.exits

pub returns-in_err-found-clause-large : goal.returns-in_err-found-clause-large
returns-in_err-found-clause-large c = λ e.
    large-by c.args.codes.now (classes_of c.args.classes.now) c.args.f c.requires.exits
    (c.in_err-found.ensures.large (search rules))
