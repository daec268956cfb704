use Rattle.std.proofs.Common.{arith}
use Rattle.pungi_affine.specs.Forms.{WithinBox}
use Rattle.pungi_affine.specs.Parts.{wide_line}
use Rattle.pungi_affine.proofs.LineLemmas.{from_line, mapped_length}
use Rattle.pungi_affine.proofs.form.narrowed_rows.Goals as goal

pub narrowed-requires : goal.narrowed-requires
narrowed-requires c =
    from_line (λ l. WithinBox l.entries) c.args.rows.now c.loop-row.row-index c.row-item.result c.loop-row-test.true
    c.row-item.is
    (c.requires c.loop-row.row-index (let n = mapped_length wide_line c.args.rows.now in let t
    = c.loop-row-test.true in omega (arith, n, t)))
