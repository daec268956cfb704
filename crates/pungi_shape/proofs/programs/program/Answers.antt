use Rattle.pungi_shape.proofs.programs.program.Goals as goal

pub program_with-requires-clause-numbers : goal.program_with-requires-clause-numbers
program_with-requires-clause-numbers c =
    c.requires.numbers c.in_ok-places.places c.in_ok-exits.exits c.in_ok-places.ensures c.in_ok-exits.ensures
