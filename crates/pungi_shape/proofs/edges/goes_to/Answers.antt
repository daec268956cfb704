use Rattle.std.proofs.Common.{◌∙◌, length, refl, ap, arith}
use Rattle.pungi_shape.specs.Arrivals.{Arrival}
use Rattle.pungi_shape.specs.Edges.{goes_by}
use Rattle.pungi_shape.specs.Shapes.{width_of}
use Rattle.pungi_shape.proofs.ArrivalLemmas.{arrive-shape, arrive-vars}
use Rattle.pungi_shape.proofs.ShapeLemmas.{arrives}
use Rattle.pungi_shape.proofs.SkipLemmas.{wide_goal}
use Rattle.pungi_shape.proofs.edges.goes_to.Goals as goal

pub returns-then-len-gt-MOST_COORDINATES-clause-wide : goal.returns-then-len-gt-MOST_COORDINATES-clause-wide
returns-then-len-gt-MOST_COORDINATES-clause-wide c = λ e. wide_goal c.args.code.now c.args.p c.args.scene
    c.in_ok-arrival.arrival c.requires.well_formed c.requires.scene c.in_ok-arrival.ensures
    (omega (arith, c.if-len-gt-MOST_COORDINATES.true, c.len.ensures))

pub goes_by-requires-clause-shape : goal.goes_by-requires-clause-shape
goes_by-requires-clause-shape c =
    rw c.in_ok-arrival.ensures (arrive-shape c.args.code.now c.args.p c.args.scene c.requires.scene)

pub goes_by-requires-clause-vars : goal.goes_by-requires-clause-vars
goes_by-requires-clause-vars c =
    ap (λ (z : Arrival). length z.shape.vars) c.in_ok-arrival.ensures
    ∙ arrive-vars c.args.code.now c.args.p c.args.scene ∙ c.requires.vars

pub goes_by-requires-clause-narrow : goal.goes_by-requires-clause-narrow
goes_by-requires-clause-narrow c =
    let s = c.args.scene in
    let fits = arrives c.args.code.now c.args.p s s.width c.requires.scene refl in
    let rows = ap (λ (z : Arrival). length z.rows) c.in_ok-arrival.ensures in
    let width = ap (λ (z : Arrival). width_of z.shape) c.in_ok-arrival.ensures in
    omega (arith, fits.rows, rows, width, c.if-len-gt-MOST_COORDINATES.false, c.len.ensures)

pub returns-clause-edge : goal.returns-clause-edge
returns-clause-edge c =
    c.in_ok-goes_by.ensures ∙ ap (goes_by c.args.code.now c.args.p c.args.guard) c.in_ok-arrival.ensures
