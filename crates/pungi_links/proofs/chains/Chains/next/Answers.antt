use Rattle.pungi_links.proofs.RingLemmas.{partition_of}
use Rattle.pungi_links.proofs.chains.Chains.next.Goals as goal

pub returns-clause-partition : goal.returns-clause-partition
returns-clause-partition c = rw (← c.self.view_is) (partition_of c.self.inside.next.items c.self.invariant.rings)
