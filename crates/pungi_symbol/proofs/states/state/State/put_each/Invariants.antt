use Rattle.std.proofs.Common.{◌≡◌, ◌++◌}
use Rattle.std.specs.Prelude.{drop, slice_get}
use Rattle.std.specs.List.{flat_map}
use Rattle.pungi_symbol.specs.answers.SymbolicState.{after_if, after_left}
use Rattle.pungi_symbol.proofs.states.state.State.put_each.Given as goal

abbrev pub invariant-loop-d : goal.invariant-loop-d
invariant-loop-d l =
    (l.next.items ++ after_left (slice_get l.code l.self.known.pc) l.q l.self l.left)
    ++ flat_map (after_if (slice_get l.code l.self.known.pc) l.q l.self) (drop l.d-index l.answers)
    ≡ l.initial.next.items ++ flat_map (after_if (slice_get l.code l.self.known.pc) l.q l.self) l.answers
