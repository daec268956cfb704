use Rattle.pungi_symbol.specs.Promises.{RunsOn}
use Rattle.pungi_symbol.proofs.steps.run_on.Given as goal

abbrev pub invariant-instructions : goal.invariant-instructions
invariant-instructions l = RunsOn l.codes l.initial.state l.state
