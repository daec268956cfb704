use Rattle.std.proofs.Common.{rules}
use Rattle.pungi_domain.specs.Vectors.{IsEquation}
use Rattle.pungi_domain.specs.declared.equation.Equation.{Equation}
use Rattle.pungi_domain.proofs.Tests.{all_more, all_taken}
use Rattle.pungi_domain.proofs.well_formed.are_equations.Goals as goal

pub loop-equation-preserved : goal.loop-equation-preserved
loop-equation-preserved c =
    all_more (λ (g : Equation). IsEquation c.args.width g.coefficients) c.args.equations.now
    c.loop-equation.equation-index c.equation-item.result c.loop-equation-test.true c.equation-item.is
    c.loop-equation.invariant (rw c.as_slice.ensures at (c.is_equation.ensures.0 c.if-not-is_equation.false))

pub returns : goal.returns
returns c = (
  λ _. all_taken (λ (g : Equation). IsEquation c.args.width g.coefficients) c.args.equations.now
      c.loop-equation.equation-index c.loop-equation-test.false c.loop-equation.invariant,
  λ _. search rules,
)
