use Rattle.pungi_explore.proofs.visit.at_end.Goals as goal

pub at_run-requires-clause-run : goal.at_run-requires-clause-run
at_run-requires-clause-run c = c.in_ok-has_free_run.ensures.run c.if-branch.true c.args.codes.now

pub at_run-requires-clause-place : goal.at_run-requires-clause-place
at_run-requires-clause-place c = c.requires

pub returns : goal.returns
returns c = c.in_ok-has_free_run.ensures.none c.if-branch.false
