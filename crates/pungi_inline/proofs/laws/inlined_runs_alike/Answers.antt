use Rattle.pungi_inline.proofs.Runs.{inlined_alike}
use Rattle.pungi_inline.proofs.laws.inlined_runs_alike.Goals as goal

pub returns : goal.returns
returns c = inlined_alike c.args.codes.now c.args.f c.args.code.now
