use Rattle.std.proofs.Common.{◌∙◌, ℕ, List, rules}
use Rattle.pungi_shape.specs.declared.shape.Shape.{Shape}
use Rattle.pungi_shape.proofs.RankedLemmas.{all-can-rank, ranked-edges}
use Rattle.pungi_shape.proofs.programs.program_with.Goals as goal

pub edges-requires : goal.edges-requires
edges-requires c =
    let numbers = c.args.numbers.now in
    all-can-rank c.args.code.now c.requires.lists.0 numbers.found.now numbers.places.now numbers.exits.now
    c.requires.numbers c.args.lists.now.items c.requires.lists.1

pub returns : goal.returns
returns c = λ (others : ℕ → List Shape) listed. (
    let numbers = c.args.numbers.now in
    let edges = c.in_ok-edges.ensures ∙ ranked-edges c.args.code.now others numbers.found.now numbers.places.now
    numbers.exits.now c.requires.numbers c.args.lists.now.items listed in
    let program = c.in_ok-program.ensures others in
    search (rules, edges, program)
    )
