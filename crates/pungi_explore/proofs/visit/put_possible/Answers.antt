use Rattle.std.proofs.Common.{inr, refl}
use Rattle.pungi_explore.proofs.visit.put_possible.Goals as goal

pub returns-else-branch : goal.returns-else-branch
returns-else-branch c = inr (c.in_ok-may_run.ensures c.if-branch.false, refl)
