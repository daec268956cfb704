use Rattle.std.proofs.Common.{◌≡◌, ◌+◌, drop}
use Rattle.pungi_shape.specs.Bounds.{HasBalances, IsScene}
use Rattle.pungi_shape.specs.Calls.{take_over}
use Rattle.pungi_shape.proofs.calls.take_over.Given as goal

-- what is left to take over gives the whole, and each turn changes a balance by at most 1
abbrev pub invariant-loop-i : goal.invariant-loop-i
invariant-loop-i l = record {
  rest : take_over l.success (drop l.i l.takes) (drop l.i l.holdings) l.scene
      ≡ take_over l.success l.takes l.holdings l.initial.scene;
  scene : IsScene l.scene;
  balances : HasBalances (l.i + 1) l.scene;
}
