use Rattle.std.proofs.Common.{◌≡◌, ◌∙◌, sym, arith}
use Rattle.pungi_fixpoint.proofs.Rows.{exit_more, exit_fits, exit_count}
use Rattle.pungi_fixpoint.proofs.action.exit_matrix.Goals as goal

pub loop-i-preserved : goal.loop-i-preserved
loop-i-preserved c =
    rw (c.in_ok-push.ensures.ok, c.loop-i.invariant, c.in_ok-exit_row.ensures)
    (sym (exit_more c.args.width c.loop-i.i))

pub returns-clause-matrix : goal.returns-clause-matrix
returns-clause-matrix c =
    let e : c.loop-i.i ≡ c.args.all = omega arith in
    rw (c.loop-i.invariant, e) (exit_fits c.args.width c.args.all)

pub returns-clause-width : goal.returns-clause-width
returns-clause-width c =
    let e : c.loop-i.i ≡ c.args.all = omega arith in rw c.loop-i.invariant (exit_count c.args.width c.loop-i.i ∙ e)
