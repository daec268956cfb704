use Rattle.std.proofs.Common.{◌≡◌}
use Rattle.pungi_shape.proofs.KeptLemmas.{trimmed}
use Rattle.pungi_shape.proofs.kept.trim.Given as goal

abbrev pub invariant-loop-x : goal.invariant-loop-x
invariant-loop-x l = l.shape ≡ trimmed l.code l.p l.x l.initial.shape
