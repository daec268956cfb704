use Rattle.pungi_kinds.proofs.WholeRuns.{runs_hold}
use Rattle.pungi_kinds.proofs.laws.operations_have_kinds.Goals as goal

pub returns : goal.returns
returns c = runs_hold c.args.codes.now
