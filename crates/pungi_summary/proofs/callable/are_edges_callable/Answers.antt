use Rattle.std.proofs.Common.{ap, List, subst, arith, rules, length, ◌≡◌, slice_index_or}
use Rattle.pungi_domain.specs.declared.affine_edge.AffineEdge.{AffineEdge}
use Rattle.pungi_summary.specs.Calls.{IsCallable}
use Rattle.pungi_summary.proofs.Lists.{all_more, all_taken}
use Rattle.pungi_summary.proofs.callable.are_edges_callable.Goals as goal

pub loop-edge-preserved : goal.loop-edge-preserved
loop-edge-preserved c =
    let program = c.args.program.now in
    let edge = c.edge-item.result in
    let is : edge ≡ slice_index_or program.edges c.loop-edge.edge-index edge =
    subst (λ (es : List AffineEdge). edge ≡ slice_index_or es c.loop-edge.edge-index edge)
    c.as_slice-edge-items.ensures c.edge-item.is in
    all_more (λ (e : AffineEdge). IsCallable c.args.programs.now c.args.callees.now e.action) program.edges
    c.loop-edge.edge-index edge
    (omega (arith, c.loop-edge-test.true, ap length c.as_slice-edge-items.ensures)) is c.loop-edge.invariant
    (c.is_callable.ensures.0 c.if-not-is_callable.false)

pub returns : goal.returns
returns c = (
  λ _. all_taken (λ (e : AffineEdge). IsCallable c.args.programs.now c.args.callees.now e.action)
      c.args.program.now.edges c.loop-edge.edge-index
      (omega (arith, c.loop-edge-test.false, ap length c.as_slice-edge-items.ensures)) c.loop-edge.invariant,
  λ _.
      search rules,
)
