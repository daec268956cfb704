use Rattle.std.proofs.Common.{◌∙◌, ◌≤◌, length, sym, ap, arith}
use Rattle.pungi_shape.specs.Shapes.{width_of}
use Rattle.pungi_shape.proofs.ShapeLemmas.{counted_units, tokens-few}
use Rattle.pungi_shape.proofs.skips.changes_nothing.Goals as goal

pub have_same_numbers-requires-clause-these : goal.have_same_numbers-requires-clause-these
have_same_numbers-requires-clause-these c =
    let a = c.args.arrival.now in
    let units = counted_units c.width.result c.as_slice.result.now (sym c.are_units.ensures
    ∙ c.if-not-are_units.false) in
    let rows = ap length c.as_slice.ensures in
    let narrow : width_of a.shape ≤ 256 =
    omega (arith, units, rows, c.width.ensures, c.requires.narrow, c.requires.arrival.rows)
    in
    tokens-few a.shape c.requires.arrival.shape narrow
