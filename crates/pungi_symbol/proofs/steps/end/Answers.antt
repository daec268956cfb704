use Rattle.pungi_symbol.proofs.runs.Loops.{at_loop}
use Rattle.pungi_symbol.proofs.steps.end.Goals as goal

pub returns-in-Blocked-clause-place : goal.returns-in-Blocked-clause-place
returns-in-Blocked-clause-place c codes = at_loop codes c.args.state.now
