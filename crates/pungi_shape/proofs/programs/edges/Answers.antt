use Rattle.std.proofs.Common.{◌≡◌, ◌∙◌, ℕ, ◌+◌, List, [], ◌++◌, drop, length, slice_get}
use Rattle.std.proofs.Common.{Some, refl, ap, subst, arith}
use Rattle.std.specs.List.{enumerate_from, flat_map}
use Rattle.std.proofs.lemmas.List.{get_or-set_other, length-set}
use Rattle.std.proofs.lemmas.Option.{slice_get_read}
use Rattle.pungi_domain.specs.declared.affine_edge.AffineEdge.{AffineEdge}
use Rattle.pungi_shape.specs.declared.found_edge.FoundEdge.{FoundEdge}
use Rattle.pungi_shape.specs.declared.programs.Ranked.{Ranked}
use Rattle.pungi_shape.specs.RankedEdges.{list_at, ranked_at}
use Rattle.pungi_shape.proofs.RankLemmas.{flat-step}
use Rattle.pungi_shape.proofs.programs.edges.Goals as goal

abbrev edges_by : Ranked → Ranked → List (List FoundEdge) → ℕ × ℕ → List AffineEdge
edges_by pr er ls p = ranked_at pr er p.0 (list_at ls p.1)

pub loop-k-preserved : goal.loop-k-preserved
loop-k-preserved c =
    let pr = c.args.numbers.now.places.now in
    let er = c.args.numbers.now.exits.now in
    let order = pr.order.items in
    let ls = c.args.lists.now.items in
    let gives = edges_by pr er ls in
    let at = c.loop-k in
    let p = c.index.result.now in
    let end = c.len-k-end.ensures in
    let below = c.loop-k-test.true in
    let read = slice_get_read order (length order) at.k p refl (omega (arith, end, below)) c.index.ensures in
    let taken : c.take_edges-list.result ≡ list_at ls p =
    c.take_edges-list.ensures.edges ∙ at.invariant.left at.k p (omega arith) read in
    record {
      edges = ap (λ (es : List AffineEdge). es ++ flat_map gives (enumerate_from (at.k + 1) (drop (at.k + 1) order)))
          (c.in_ok-put_edges_of.ensures ∙ ap (λ (ds : List FoundEdge). at.edges ++ ranked_at pr er at.k ds) taken)
          ∙ flat-step gives order at.edges (flat_map gives (enumerate_from 0 order)) at.k at.invariant.edges p read;
      left = λ i r le e.
          ap (λ (l : List (List FoundEdge)). list_at l r) c.take_edges-list.ensures.rest
          ∙ get_or-set_other at.lists.items p r [] []
          (λ same. (let one = c.requires.order.once i at.k p (subst (λ n. slice_get order i ≡ Some n) same e) read in
          omega (arith, le, one)))
          ∙ at.invariant.left i r (omega (arith, le)) e;
      long = ap length c.take_edges-list.ensures.rest ∙ length-set at.lists.items p [] ∙ at.invariant.long;
    }
