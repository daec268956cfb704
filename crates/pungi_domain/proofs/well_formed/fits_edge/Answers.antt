use Rattle.std.proofs.Common.{arith, rules}
use Rattle.pungi_domain.proofs.well_formed.fits_edge.Goals as goal

pub returns-then-not-are_equations : goal.returns-then-not-are_equations
returns-then-not-are_equations c =
    let e = rw (c.as_slice.ensures, c.as_slice-2.ensures) at c.are_equations.ensures in
    (λ t. absurd (search rules), λ fits. rw c.if-not-are_equations.true at (e.1 fits.guard))

pub returns-then-not-are_equations-2 : goal.returns-then-not-are_equations-2
returns-then-not-are_equations-2 c =
    let e = rw (c.as_slice.ensures, c.as_slice-3.ensures) at c.are_equations-2.ensures in
    (λ t. absurd (search rules), λ fits. rw c.if-not-are_equations-2.true at (e.1 fits.duties))

pub returns : goal.returns
returns c =
    let guard = rw (c.as_slice.ensures, c.as_slice-2.ensures) at c.are_equations.ensures in
    let duties = rw (c.as_slice.ensures, c.as_slice-3.ensures) at c.are_equations-2.ensures in
    let widths = rw c.as_slice.ensures at c.fits_widths.ensures in (
      λ t. record {
        from = omega (arith, c.if-edge-len.false, c.len.ensures);
        to = (widths.0 t).0;
        guard = guard.0 c.if-not-are_equations.false;
        action = (widths.0 t).1;
        duties = duties.0 c.if-not-are_equations-2.false;
      },
      λ fits. widths.1 (fits.to, fits.action),
    )
