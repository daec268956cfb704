use Rattle.pungi_idle.proofs.Alike.{alike}
use Rattle.pungi_idle.proofs.laws.idle_runs_alike.Goals as goal

pub returns : goal.returns
returns c = alike c.args.code.now c.args.statics
