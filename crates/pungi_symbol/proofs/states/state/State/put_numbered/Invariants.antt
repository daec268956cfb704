use Rattle.std.proofs.Common.{◌≡◌, ◌++◌}
use Rattle.std.specs.Prelude.{slice_get}
use Rattle.std.specs.List.{flat_map}
use Rattle.pungi_symbol.specs.answers.SymbolicState.{after_if, after_left, numbered}
use Rattle.pungi_symbol.proofs.states.state.State.put_numbered.Given as goal

abbrev pub invariant-loop-k : goal.invariant-loop-k
invariant-loop-k l =
    l.next.items ++ after_left (slice_get l.code l.self.known.pc) l.q l.self l.left
    ≡ l.initial.next.items ++ flat_map (after_if (slice_get l.code l.self.known.pc) l.q l.self) (numbered l.k)
