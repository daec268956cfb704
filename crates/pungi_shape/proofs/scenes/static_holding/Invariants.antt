use Rattle.std.proofs.Common.{◌≡◌, ◌==◌, drop}
use Rattle.std.specs.Map.{lookup}
use Rattle.pungi_shape.proofs.scenes.static_holding.Given as goal

abbrev pub invariant-loop-k : goal.invariant-loop-k
invariant-loop-k l = lookup (λ j. j == l.n) (drop l.k-index l.statics) ≡ lookup (λ j. j == l.n) l.statics
