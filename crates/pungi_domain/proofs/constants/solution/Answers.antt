use Rattle.std.proofs.Common.{rules}
use Rattle.std.proofs.lemmas.Int.{to_z-of_z}
use mir.Syntax.{w64, w128}
use mir.Val.{SFits}
use Rattle.pungi_domain.proofs.constants.solution.Goals as goal

pub returns-then-is_solution : goal.returns-then-is_solution
returns-then-is_solution c =
    let f : SFits w64 c.in_ok-constant.constant = search rules in
    let e = rw (
      to_z-of_z w64 c.in_ok-constant.constant f,
      to_z-of_z w64 c.args.coefficient c.ranges.coefficient,
      to_z-of_z w128 c.args.sum c.ranges.sum,
    ) at (c.is_solution.ensures c.if-is_solution.true) in
    let k = rw (to_z-of_z w64 c.in_ok-constant.constant f) at (c.is_kept.ensures c.if-is_kept.true) in
    rw (to_z-of_z w64 c.in_ok-constant.constant f) (k, e)
