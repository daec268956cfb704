use Rattle.std.proofs.Common.{take}
use Rattle.pungi_domain.specs.Annotations.{MeetsAll}
use Rattle.pungi_domain.specs.Vectors.{Vector}
use Rattle.pungi_fixpoint.proofs.duties.all_hold.Given as goal

abbrev pub invariant-loop-equation : goal.invariant-loop-equation
invariant-loop-equation g l =
    (v : Vector) → g.D.Domain.member l.value v → MeetsAll (take l.equation-index l.equations) v
