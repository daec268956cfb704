use Rattle.pungi_kinds.proofs.WholeRuns.{values_hold}
use Rattle.pungi_kinds.proofs.laws.values_have_kinds.Goals as goal

pub returns : goal.returns
returns c = values_hold c.args.codes.now
