use Rattle.std.proofs.Common.{◌<◌, ℕ, length, arith}
use Rattle.std.proofs.lemmas.Int.{to_z-of_z}
use mir.Syntax.{w128}
use Rattle.pungi_domain.specs.Vectors.{at}
use Rattle.pungi_domain.specs.Spans.{Divides}
use Rattle.pungi_affine.specs.Parts.{wide_line}
use Rattle.pungi_affine.proofs.LineLemmas.{from_line, mapped_length}
use Rattle.pungi_affine.proofs.Shared.{quotient_rows}
use Rattle.pungi_affine.proofs.form.divided_rows.Goals as goal

pub divided-requires-clause-divides : goal.divided-requires-clause-divides
divided-requires-clause-divides c = rw (to_z-of_z w128 c.args.g c.ranges.g)
    (from_line (λ l. (i : ℕ) → i < length l.entries → Divides c.args.g (at l.entries i)) c.args.rows.now
    c.loop-row.row-index c.row-item.result c.loop-row-test.true c.row-item.is
    (c.requires.divides c.loop-row.row-index (let n = mapped_length wide_line c.args.rows.now in let t
    = c.loop-row-test.true in omega (arith, n, t))))

pub loop-row-preserved : goal.loop-row-preserved
loop-row-preserved c =
    let inv = rw (to_z-of_z w128 c.args.g c.ranges.g) at c.loop-row.invariant in
    let q = rw (to_z-of_z w128 c.args.g c.ranges.g) at c.in_ok-divided.ensures in
    rw (to_z-of_z w128 c.args.g c.ranges.g, c.in_ok-push.ensures.items) (quotient_rows c.args.g c.args.rows.now
    c.loop-row.quotients.items c.loop-row.row-index c.row-item.result c.in_ok-divided.field-0 c.loop-row-test.true
    c.row-item.is inv q)
