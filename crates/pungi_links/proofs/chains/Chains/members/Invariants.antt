use Rattle.std.proofs.Common.{length}
use Rattle.pungi_links.specs.Ring.{way}
use Rattle.pungi_links.proofs.WalkLemmas.{Walking}
use Rattle.pungi_links.proofs.chains.Chains.members.Given as goal

abbrev pub invariant-loop-member : goal.invariant-loop-member
invariant-loop-member l = Walking l.self-inside.next.items l.a l.members.items l.member

abbrev pub decreases-loop-member : goal.decreases-loop-member
decreases-loop-member l = length (way l.self-inside.next.items l.member l.a)
