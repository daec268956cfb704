use Rattle.std.proofs.Common.{◌≡◌, pos, subst}
use Rattle.std.proofs.lemmas.List.Elements.{All-more}
use Rattle.pungi_domain.specs.Vectors.{dot}
use Rattle.pungi_domain.specs.declared.equation.Equation.{Equation}
use Rattle.pungi_fixpoint.proofs.duties.all_hold.Goals as goal

pub loop-equation-preserved : goal.loop-equation-preserved
loop-equation-preserved g c = λ v m.
    All-more (λ (e : Equation). dot e.coefficients v ≡ pos 0) c.args.equations.now c.loop-equation.equation-index
    c.equation-item.result c.loop-equation-test.true (c.loop-equation.invariant v m)
    (subst (λ (e : Equation). dot e.coefficients v ≡ pos 0) c.equation-item.is
    (c.holds.ensures.members c.if-not-holds.false v m))
