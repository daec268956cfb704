use Rattle.std.proofs.Common.{◌≡◌, ◌∙◌, sym, arith}
use Rattle.pungi_fixpoint.proofs.Rows.{source_more, source_fits, source_count}
use Rattle.pungi_fixpoint.proofs.action.source_matrix.Goals as goal

pub loop-i-preserved : goal.loop-i-preserved
loop-i-preserved c =
    rw (c.in_ok-push.ensures.ok, c.loop-i.invariant, c.in_ok-source_row.ensures)
    (sym (source_more c.args.width c.loop-i.i))

pub returns-clause-matrix : goal.returns-clause-matrix
returns-clause-matrix c = rw c.loop-i.invariant (source_fits c.args.width c.loop-i.i)

pub returns-clause-width : goal.returns-clause-width
returns-clause-width c =
    let e : c.loop-i.i ≡ c.args.all = omega arith in rw c.loop-i.invariant (source_count c.args.width c.loop-i.i ∙ e)
