use Rattle.std.proofs.Common.{◌≡◌, ◌<◌, ℕ, List, Some, length, arith, ap}
use Rattle.std.specs.Prelude.{slice_get}
use Rattle.pungi_domain.specs.declared.affine_edge.AffineEdge.{AffineEdge}
use Rattle.pungi_summary.specs.CallPlaces.{EdgeCalls}
use Rattle.pungi_summary.proofs.Lists.{all_at, read_under}
use Rattle.pungi_summary.proofs.Noted.{noted_all, noted_more, noted_none}
use Rattle.pungi_summary.proofs.call_places.note_edges.Goals as goal

pub loop-edge-init : goal.loop-edge-init
loop-edge-init c = noted_none c.args.caller c.args.program.now c.args.firsts.now.items c.requires.below

pub note_edge-requires : goal.note_edge-requires
note_edge-requires c = λ g calls.
    let edges = c.args.program.now.edges in
    let i = c.loop-edge.edge-index in
    let is : slice_get edges i ≡ Some c.edge-item.result = read_under edges c.as_slice-edge-items.result.now i
    c.edge-item.result c.as_slice-edge-items.ensures (omega (arith, c.loop-edge-test.true)) c.edge-item.is in
    let h = all_at (λ (e : AffineEdge). (j : ℕ) → EdgeCalls e j → j < length c.args.firsts.now.items) edges i
    c.edge-item.result c.requires.within is g calls in
    let n = c.loop-edge.invariant.count in
    omega (arith, h, n)

pub loop-edge-preserved : goal.loop-edge-preserved
loop-edge-preserved c =
    let edges = c.args.program.now.edges in
    let i = c.loop-edge.edge-index in
    let is : slice_get edges i ≡ Some c.edge-item.result = read_under edges c.as_slice-edge-items.result.now i
    c.edge-item.result c.as_slice-edge-items.ensures (omega (arith, c.loop-edge-test.true)) c.edge-item.is in
    noted_more c.args.caller c.args.program.now i c.edge-item.result c.args.firsts.now.items c.loop-edge.firsts.items
    c.note_edge.new.firsts.items is c.loop-edge.invariant c.note_edge.ensures

pub returns-clause-places : goal.returns-clause-places
returns-clause-places c =
    let count = ap (λ (xs : List AffineEdge). length xs) c.as_slice-edge-items.ensures in
    noted_all c.args.caller c.args.program.now c.loop-edge.edge-index c.args.firsts.now.items c.loop-edge.firsts.items
    (omega (arith, count, c.loop-edge-test.false)) c.loop-edge.invariant
