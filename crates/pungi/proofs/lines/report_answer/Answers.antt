use Rattle.std.proofs.Common.{ℕ, ◌≤◌, sym, subst, ◌∙◌}
use Rattle.pungi.proofs.Sound.{low_status}
use Rattle.pungi.specs.Status.{some_open}
use Rattle.pungi.proofs.lines.report_answer.Goals as goal

pub returns : goal.returns
returns c = (
  subst (λ (n : ℕ). n ≤ some_open) (sym c.status_of.ensures) (low_status c.args.lines.now),
  record {
    counted = c.status_of.ensures;
    printed = c.in_ok-report.ensures.text;
    readable = c.requires;
    fits = c.in_ok-report.ensures.fits;
    only = λ others more named small same.
        c.report_is_read_back.ensures c.args.names.now others c.args.lines.now more c.requires named
        c.in_ok-report.ensures.fits small (sym c.in_ok-report.ensures.text ∙ same);
  },
)
