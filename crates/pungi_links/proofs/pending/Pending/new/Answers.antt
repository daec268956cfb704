use Rattle.pungi_links.proofs.PendingLemmas.{queue_empty}
use Rattle.pungi_links.proofs.pending.Pending.new.Goals as goal

pub invariant_of-result : goal.invariant_of-result
invariant_of-result c = (queue_empty _ _ c.in_ok-links.ensures).0
