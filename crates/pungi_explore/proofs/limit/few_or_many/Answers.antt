use Rattle.pungi_explore.proofs.TracesOfRuns.{few_not_many}
use Rattle.pungi_explore.proofs.limit.few_or_many.Goals as goal

pub returns : goal.returns
returns c = few_not_many c.args.codes.now c.args.f
