use Rattle.std.proofs.Common.{◌<◌, ap, sym, subst, arith}
use Rattle.pungi_domain.specs.declared.affine_edge.AffineEdge.{AffineEdge}
use Rattle.pungi_fixpoint.proofs.Indices.{index_none, index_more}
use Rattle.pungi_fixpoint.proofs.sources.edges_by_source.Goals as goal

pub loop-i-init : goal.loop-i-init
loop-i-init c = rw c.in_ok-lists.ensures (index_none c.args.places)

pub index_mut-requires : goal.index_mut-requires
index_mut-requires c =
    let w = subst (λ (e : AffineEdge). e.from < c.args.places) (sym c.index-edges-i.is)
    (c.requires c.loop-i.i c.index-edges-i.result (omega arith)) in
    let n = c.loop-i.invariant.all in
    omega arith

pub loop-i-preserved : goal.loop-i-preserved
loop-i-preserved c =
    let w = subst (λ (e : AffineEdge). e.from < c.args.places) (sym c.index-edges-i.is)
    (c.requires c.loop-i.i c.index-edges-i.result (omega arith)) in
    index_more c.args.edges.now c.args.places c.loop-i.lists.items c.loop-i.i c.index-edges-i.result
    _ c.index_mut.result.now c.push.new.self (omega arith) c.index-edges-i.is w
    (ap (λ (e : AffineEdge). e.from) c.index-edges-i.is) c.index_mut.ensures.value
    c.in_ok-push.ensures.ok c.loop-i.invariant
