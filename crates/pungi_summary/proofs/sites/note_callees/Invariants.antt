use Rattle.pungi_summary.proofs.Sited.{AreCalleesBelow}
use Rattle.pungi_summary.proofs.sites.note_callees.Given as goal

abbrev pub invariant-loop-callee : goal.invariant-loop-callee
invariant-loop-callee l =
    AreCalleesBelow l.firsts l.caller l.entry l.callees l.callee-index l.fn.sites.items l.sites.items
