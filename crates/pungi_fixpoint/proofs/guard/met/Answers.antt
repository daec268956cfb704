use Rattle.std.proofs.Common.{◌∙◌, ℕ, subst}
use Rattle.std.proofs.lemmas.Result.{err_from_is_err_and}
use Rattle.pungi_domain.specs.Builds.{LargeMet}
use Rattle.pungi_domain.specs.Spans.{LargeMeet}
use Rattle.pungi_fixpoint.proofs.Faults.{range_only}
use Rattle.pungi_fixpoint.proofs.Guards.{met_step, large_step, covers_at}
use Rattle.pungi_fixpoint.proofs.guard.met.Goals as goal
use Rattle.pungi_fixpoint.proofs.guard.met.Goals.{in-None+in_ok-meet-in-None, in-Some+in_ok-meet-in-Some}

pub returns-in_err-meet-in-None-clause-range : goal.returns-in_err-meet-in-None-clause-range
returns-in_err-meet-in-None-clause-range g c =
    let d = g.D.Domain in
    let s = c.args.source.now in
    let e = c.equation-item.result in
    let p = err_from_is_err_and c.from_residual.result c.from_residual.ensures.1 in
    let inv = rw c.in-None.is at c.loop-equation.invariant.met in
    rw (p.1, p.2) (range_only _ ℕ d.least (LargeMeet (d.width_of s) e.coefficients (d.member s))
    (LargeMet d.least d.member (d.width_of s) c.args.guard.now s) c.in_err-meet-in-None.field-0.0
    (λ r h. large_step d.least d.member (d.width_of s) c.args.guard.now c.loop-equation.equation-index e s s r
    c.loop-equation-test.true c.equation-item.is inv h) c.in_err-meet-in-None.ensures.range)

pub returns-in_err-meet-in-Some-clause-range : goal.returns-in_err-meet-in-Some-clause-range
returns-in_err-meet-in-Some-clause-range g c =
    let d = g.D.Domain in
    let s = c.args.source.now in
    let m = c.in-Some.value in
    let e = c.equation-item.result in
    let p = err_from_is_err_and c.from_residual-in_err-meet-in-Some.result
    c.from_residual-in_err-meet-in-Some.ensures.1 in
    let inv = rw c.in-Some.is at c.loop-equation.invariant.met in
    let width = rw c.in-Some.is at c.loop-equation.invariant.width in
    rw (p.1, p.2) (range_only _ ℕ d.least (LargeMeet (d.width_of m) e.coefficients (d.member m))
    (LargeMet d.least d.member (d.width_of s) c.args.guard.now s) c.in_err-meet-in-Some.field-0.0
    (λ r h. large_step d.least d.member (d.width_of s) c.args.guard.now c.loop-equation.equation-index e s m r
    c.loop-equation-test.true c.equation-item.is inv
    (subst (λ w. LargeMeet w e.coefficients (d.member m) r) width h)) c.in_err-meet-in-Some.ensures.range)

pub loop-equation-preserved : goal.loop-equation-preserved
loop-equation-preserved g c = elim c.match-value.branch [
  | in-None+in_ok-meet-in-None w ↦
      let d = g.D.Domain in
      let s = c.args.source.now in
      let k = w.in_ok-meet-in-None in
      let inv = rw w.in-None.is at c.loop-equation.invariant.met in
      rw w.value-is (record {
        met = met_step d.least d.member (d.width_of s) c.args.guard.now c.loop-equation.equation-index
            c.equation-item.result s s k.field-0 c.loop-equation-test.true c.equation-item.is inv
            (k.ensures.members, k.ensures.least);
        width = k.ensures.width;
      })
  | in-Some+in_ok-meet-in-Some w ↦
      let d = g.D.Domain in
      let s = c.args.source.now in
      let k = w.in_ok-meet-in-Some in
      let inv = rw w.in-Some.is at c.loop-equation.invariant.met in
      let width = rw w.in-Some.is at c.loop-equation.invariant.width in
      rw w.value-is (record {
        met = met_step d.least d.member (d.width_of s) c.args.guard.now c.loop-equation.equation-index
            c.equation-item.result s w.in-Some.value k.field-0 c.loop-equation-test.true c.equation-item.is inv
            (covers_at d.least _ _ _ _ width k.ensures.members k.ensures.least);
        width = k.ensures.width ∙ width;
      })
]
