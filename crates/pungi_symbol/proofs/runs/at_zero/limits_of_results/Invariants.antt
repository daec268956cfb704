use Rattle.pungi_symbol.specs.runs.AtZero.{SayResults}
use Rattle.pungi_symbol.proofs.runs.at_zero.limits_of_results.Given as goal

abbrev pub invariant-loop-j : goal.invariant-loop-j
invariant-loop-j l = SayResults l.j l.computed l.results l.limits.items
