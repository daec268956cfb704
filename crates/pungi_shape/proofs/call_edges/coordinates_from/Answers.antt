use Rattle.std.proofs.Common.{◌≡◌, ◌∙◌, ℕ, List, [], ◌∷◌, ◌++◌, ◌+◌, ◌-◌, sym, ap, arith, map-id}
use Rattle.std.specs.List.{range_with_len}
use Rattle.std.proofs.lemmas.List.FromFn.{map-range_with_len_more}
use Rattle.pungi_shape.proofs.call_edges.coordinates_from.Goals as goal

range_more : (a n j : ℕ) → a + n ≡ j → range_with_len a n ++ j ∷ [] ≡ range_with_len a (n + 1)
range_more a n j e =
    ap (λ (ns : List ℕ). ns ++ j ∷ []) (sym (map-id (range_with_len a n)))
    ∙ sym (map-range_with_len_more (λ i. i) a n j e) ∙ map-id (range_with_len a (n + 1))

pub loop-k-preserved : goal.loop-k-preserved
loop-k-preserved c =
    let e : (c.loop-k.k + 1) - c.args.from ≡ (c.loop-k.k - c.args.from) + 1 = omega arith in
    rw (c.in_ok-push.ensures.ok, c.loop-k.invariant, e)
    (range_more c.args.from (c.loop-k.k - c.args.from) c.loop-k.k (omega arith))
