use Rattle.std.proofs.Common.{◌≡◌, ◌≤◌, length}
use Rattle.std.specs.Prelude.{drop}
use Rattle.pungi_symbol.specs.questions.NextQuestion.{needing_all, terms_of}
use Rattle.pungi_symbol.proofs.states.known.Known.asks_params.Given as goal

abbrev pub invariant-loop-i : goal.invariant-loop-i
invariant-loop-i l = record {
  within : l.i ≤ length l.atoms;
  short : l.i ≤ length l.params;
  asks : l.q ≡ needing_all l.self (drop l.i l.params) (terms_of l.self (drop l.i l.atoms)) l.fn.last;
}

abbrev pub decreases-loop-i : goal.decreases-loop-i
decreases-loop-i l = l.i
