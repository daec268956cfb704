use Rattle.pungi_affine.specs.Forms.{lines}
use Rattle.pungi_affine.proofs.SpanLemmas.{all_meet, one_fails}
use Rattle.pungi_affine.proofs.span.Span.holds.Goals as goal

pub returns-clause-members : goal.returns-clause-members
returns-clause-members c t v m =
    let h = rw (c.as_slice.ensures.value, c.as_slice-2.ensures) at (c.rows_meet.ensures.yes t) in
    all_meet c.self.inside.width (lines c.self.inside.rows.items) c.args.equation.now.coefficients
    (rw (← c.self.view_is) at c.requires.width) h v (rw (← c.self.view_is) at m)

pub returns-clause-least : goal.returns-clause-least
returns-clause-least c f =
    let h = rw (c.as_slice.ensures.value, c.as_slice-2.ensures) at (c.rows_meet.ensures.no f) in
    rw (← c.self.view_is) (one_fails c.self.inside.width c.self.inside.scale (lines c.self.inside.rows.items)
    c.args.equation.now.coefficients h.0 c.self.invariant.form h.1 h.2)
