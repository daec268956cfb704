use Rattle.pungi_symbol.specs.runs.AtZero.{AreResults}
use Rattle.pungi_symbol.proofs.runs.at_zero.results_at_zero.Given as goal

abbrev pub invariant-loop-j : goal.invariant-loop-j
invariant-loop-j l = AreResults l.j l.computed l.results.items
