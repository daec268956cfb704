use Rattle.std.proofs.Common.{All, take}
use Rattle.pungi_domain.specs.Vectors.{IsEquation}
use Rattle.pungi_domain.proofs.well_formed.are_equations.Given as goal

abbrev pub invariant-loop-equation : goal.invariant-loop-equation
invariant-loop-equation l = All (λ g. IsEquation l.width g.coefficients) (take l.equation-index l.equations)
