use Rattle.pungi_fixpoint.proofs.turn.width_of_target.Goals as goal

pub returns-in-Place-clause-narrow : goal.returns-in-Place-clause-narrow
returns-in-Place-clause-narrow c =
    let lt = rw c.in-Place.is at c.requires.target in rw c.as_slice.ensures
    (c.requires.program.narrow c.in-Place.k 0 lt)

pub returns-in-Exit-clause-narrow : goal.returns-in-Exit-clause-narrow
returns-in-Exit-clause-narrow c =
    let lt = rw c.in-Exit.is at c.requires.target in rw c.as_slice-in-Exit.ensures
    (c.requires.program.narrow_exits c.in-Exit.k 0 lt)
