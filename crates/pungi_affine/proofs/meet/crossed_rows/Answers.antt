use Rattle.std.proofs.Common.{◌+◌, ◌∙◌, ap}
use Rattle.pungi_affine.specs.Forms.{lines}
use Rattle.pungi_affine.specs.Parts.{wide_line, wide_lines}
use Rattle.pungi_affine.proofs.LineLemmas.{mapped_push}
use Rattle.pungi_affine.proofs.Shared.{more_lines}
use Rattle.pungi_affine.proofs.Meets.{crossed_more}
use Rattle.pungi_affine.proofs.meet.crossed_rows.Goals as goal

pub loop-k-preserved : goal.loop-k-preserved
loop-k-preserved c = record {
  count = rw (c.in_ok-push.ensures.items, mapped_push wide_line c.loop-k.crosses.items c.in_ok-crossed_row.field-0)
      (more_lines (wide_lines c.loop-k.crosses.items) (wide_line c.in_ok-crossed_row.field-0)
      ∙ ap (λ n. n + 1) c.loop-k.invariant.count);
  each = rw (c.in_ok-push.ensures.items, mapped_push wide_line c.loop-k.crosses.items c.in_ok-crossed_row.field-0)
      (crossed_more c.args.sums.now c.args.p (lines c.args.rows.now) (wide_lines c.loop-k.crosses.items)
      (wide_line c.in_ok-crossed_row.field-0) c.loop-k.k c.loop-k.invariant.count c.loop-k.invariant.each
      c.in_ok-crossed_row.ensures);
}
