use Rattle.pungi_shape.proofs.SweepLemmas.{IsSweeping}
use Rattle.pungi_shape.proofs.liveness.sweep_at.Given as goal

abbrev pub invariant-loop-j : goal.invariant-loop-j
invariant-loop-j l = IsSweeping l.code l.pc l.initial.rows.items l.rows.items l.j l.grows
