use Rattle.pungi_diff.proofs.RoundLemmas.{no_round}
use Rattle.pungi_diff.proofs.laws.rounds_forbid_solutions.Goals as goal

pub returns : goal.returns
returns c = λ v h. no_round v c.args.held.now c.args.new.now h c.args.round.now c.requires.round
