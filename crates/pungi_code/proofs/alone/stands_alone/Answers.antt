use Rattle.pungi_code.proofs.AloneLemmas.{stands_alone}
use Rattle.pungi_code.proofs.alone.stands_alone.Goals as goal

pub returns : goal.returns
returns c = stands_alone c.args.codes.now c.args.f
