use Rattle.pungi_check.proofs.CountLemmas.{AloneBelow}
use Rattle.pungi_check.proofs.worklist.refused_alone.Given as goal

abbrev pub invariant-loop-number : goal.invariant-loop-number
invariant-loop-number l = AloneBelow l.functions l.alone.items l.number
