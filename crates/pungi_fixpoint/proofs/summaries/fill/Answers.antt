use Rattle.pungi_fixpoint.proofs.Puts.{same_more}
use Rattle.pungi_fixpoint.proofs.summaries.fill.Goals as goal

pub filling-preserved : goal.filling-preserved
filling-preserved g c =
    same_more c.args.exits.now c.filling.exits c.push.new.self c.filling.invariant c.in_ok-push.ensures.ok
