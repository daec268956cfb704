use Rattle.pungi_verdict.proofs.Callees.{AreCalleesBelow}
use Rattle.pungi_verdict.proofs.across.callees.Given as goal

-- so it is with the functions so far
abbrev pub invariant-loop-code : goal.invariant-loop-code
invariant-loop-code l = AreCalleesBelow l.codes l.lists l.code-index
