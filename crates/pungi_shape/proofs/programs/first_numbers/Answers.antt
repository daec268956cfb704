use Rattle.std.proofs.Common.{◌∙◌, ℕ, List, [], ◌∷◌, ◌++◌, ◌+◌, sym, ap, arith, map-id}
use Rattle.std.specs.List.{range_with_len}
use Rattle.std.proofs.lemmas.List.FromFn.{map-range_with_len_more}
use Rattle.pungi_shape.proofs.programs.first_numbers.Goals as goal

pub loop-k-preserved : goal.loop-k-preserved
loop-k-preserved c =
    rw (c.in_ok-push.ensures.ok, c.loop-k.invariant)
    (ap (λ (ns : List ℕ). ns ++ c.loop-k.k ∷ []) (sym (map-id (range_with_len 0 c.loop-k.k)))
    ∙ sym (map-range_with_len_more (λ i. i) 0 c.loop-k.k c.loop-k.k (omega arith))
    ∙ map-id (range_with_len 0 (c.loop-k.k + 1)))
