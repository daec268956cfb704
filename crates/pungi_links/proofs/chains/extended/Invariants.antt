use Rattle.pungi_links.specs.Chains.{Extends}
use Rattle.pungi_links.proofs.chains.extended.Given as goal

abbrev pub invariant-loop-number : goal.invariant-loop-number
invariant-loop-number l = Extends l.links l.number l.more.items
