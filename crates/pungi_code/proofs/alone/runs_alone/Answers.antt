use Rattle.pungi_code.proofs.AloneLemmas.{runs_alone}
use Rattle.pungi_code.proofs.alone.runs_alone.Goals as goal

pub returns : goal.returns
returns c = runs_alone c.args.codes.now.codes c.args.code.now.instrs
