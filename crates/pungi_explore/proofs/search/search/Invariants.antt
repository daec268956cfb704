use Rattle.std.proofs.Common.{◌≤◌}
use Rattle.pungi_code.specs.declared.code.Code.{Code}
use Rattle.pungi_symbol.specs.Promises.{HasForm}
use Rattle.pungi_explore.specs.Explored.{most_traces}
use Rattle.pungi_explore.proofs.Searched.{Searched}
use Rattle.pungi_explore.proofs.search.search.Given as goal

abbrev pub invariant-states : goal.invariant-states
invariant-states l = record {
  few : l.ended ≤ most_traces;
  searched : (code : Code) → HasForm l.codes l.f code → Searched l.codes l.f code l.pending l.ended l.seen;
}
