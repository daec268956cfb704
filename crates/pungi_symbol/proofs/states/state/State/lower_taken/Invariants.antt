use Rattle.std.proofs.Common.{◌≡◌}
use Rattle.pungi_symbol.proofs.answers.TakenOver.{Lowered}
use Rattle.pungi_symbol.proofs.states.state.State.lower_taken.Given as goal

abbrev pub invariant-loop-i : goal.invariant-loop-i
invariant-loop-i l = Lowered l.success l.takes l.atoms l.i l.self ≡ Lowered l.success l.takes l.atoms 0 l.initial.self
