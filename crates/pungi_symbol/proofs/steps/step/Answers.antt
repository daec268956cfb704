use Rattle.pungi_symbol.proofs.Promised.{all_back}
use Rattle.pungi_symbol.proofs.answers.Reached.{next_paths}
use Rattle.pungi_symbol.proofs.steps.step.Goals as goal

pub returns-clause-path : goal.returns-clause-path
returns-clause-path c code ds reached =
    next_paths c.args.codes.now c.args.state.now ds code c.in_ok-next.next.items c.in_ok-next.ensures reached

pub returns-clause-back : goal.returns-clause-back
returns-clause-back c code ds reached =
    all_back c.args.codes.now c.args.state.now ds code reached c.in_ok-next.next.items c.in_ok-next.ensures
