use Rattle.std.proofs.Common.{◌≤◌, drop, length}
use Rattle.pungi_shape.proofs.FactorLemmas.{IsSpread}
use Rattle.pungi_shape.proofs.factors.spread.Given as goal

abbrev pub invariant-loop-k : goal.invariant-loop-k
invariant-loop-k l = record { i_in : l.i ≤ length l.fs; spread : IsSpread l.fs (drop l.i l.fs) l.out l.k }
