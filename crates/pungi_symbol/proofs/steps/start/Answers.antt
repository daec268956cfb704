use Rattle.pungi_symbol.proofs.Promised.{covers}
use Rattle.pungi_symbol.proofs.steps.start.Goals as goal

pub returns-clause-forward : goal.returns-clause-forward
returns-clause-forward c = covers c.args.codes.now c.args.f
