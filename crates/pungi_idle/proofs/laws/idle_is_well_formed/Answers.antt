use Rattle.pungi_idle.proofs.Formed.{formed}
use Rattle.pungi_idle.proofs.laws.idle_is_well_formed.Goals as goal

pub returns : goal.returns
returns c = formed c.args.code.now
