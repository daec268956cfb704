use Rattle.std.proofs.Common.{◌≡◌, ◌∙◌, ℕ, List, [], ◌∷◌, ◌++◌, map, ap, subst}
use Rattle.std.specs.List.{All}
use Rattle.pungi_domain.specs.declared.affine_edge.AffineEdge.{AffineEdge}
use Rattle.pungi_shape.specs.declared.found_edge.FoundEdge.{FoundEdge}
use Rattle.pungi_shape.specs.declared.programs.Ranked.{Ranked}
use Rattle.pungi_shape.specs.EdgeOrder.{put_edge}
use Rattle.pungi_shape.specs.RankedEdges.{IsRanked, ranked_at, ranked_edge}
use Rattle.pungi_shape.proofs.NumberPlaces.{put_edge-order}
use Rattle.pungi_shape.proofs.RankLemmas.{popped-all, popped-rest}
use Rattle.pungi_shape.proofs.programs.in_order.Goals as goal

one-more : (pr er : Ranked) (k : ℕ) (e : FoundEdge) (rest : List FoundEdge) (d : AffineEdge) (old new : List AffineEdge)
    → new ≡ put_edge d old → d ≡ ranked_edge pr er k e → old ≡ ranked_at pr er k rest
    → new ≡ ranked_at pr er k (e ∷ rest)
one-more pr er k e rest d old new put number so_far =
    put ∙ ap (put_edge d) so_far ∙ ap (λ (a : AffineEdge). put_edge a (ranked_at pr er k rest)) number
    ∙ put_edge-order (ranked_edge pr er k e) (map (ranked_edge pr er k) rest)

pub loop-edge-preserved : goal.loop-edge-preserved
loop-edge-preserved c =
    let pr = c.args.numbers.now.places.now in
    let er = c.args.numbers.now.exits.now in
    let at = c.loop-edge in
    let e = c.in-Some.edge in
    let left = c.pop.new.self in
    let rest = at.invariant.rest in
    let items : at.edges ≡ left ++ e ∷ [] = c.in-Some.ensures.items in
    record {
      rest = e ∷ rest;
      all = popped-rest at.edges left rest c.args.edges e items at.invariant.all;
      can = (
          let Can = λ (d : FoundEdge). IsRanked pr er d.to in
          (popped-all Can left e (subst (All Can) items at.invariant.can)).0
          );
      list = one-more pr er c.args.from e rest c.in_ok-with_ranks.field-0 at.list.items c.put_edge.new.list.items
          c.in_ok-put_edge.ensures c.in_ok-with_ranks.ensures at.invariant.list;
    }
