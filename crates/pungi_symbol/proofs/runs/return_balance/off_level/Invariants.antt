use Rattle.std.proofs.Common.{◌≡◌, ℕ, ◌<◌}
use Rattle.pungi_world.specs.Escapes.{IsCounted}
use Rattle.pungi_symbol.specs.answers.SymbolicState.{balance_at}
use Rattle.pungi_symbol.specs.runs.Paths.{wanted}
use Rattle.pungi_symbol.proofs.runs.return_balance.off_level.Given as goal

abbrev pub invariant-loop-t : goal.invariant-loop-t
invariant-loop-t l =
    (k : ℕ) → IsCounted l.code.terms k → k < l.t → balance_at l.state.balances k ≡ wanted l.code l.state l.fn.x k
