-- The tokens of a shape at which a scene arrives are numbered in the order in which holders hold them, from 0 on.
use Rattle.std.proofs.Common.{◌≡◌, ℕ, ◌<◌, List, length, map, sym, ap, ◌∙◌, arith}
use Rattle.std.specs.Prelude.{◌&&◌}
use Rattle.std.specs.List.{range_with_len}
use Rattle.std.proofs.lemmas.Grind.{same_number_lists}
use Rattle.std.proofs.lemmas.List.{length-map, get_or-map}
use Rattle.std.proofs.lemmas.List.FromFn.{length-range_with_len, get_or-range_with_len}
use Rattle.pungi_code.specs.declared.code.Code.{Code}
use Rattle.pungi_shape.specs.declared.point.Point.{Point}
use Rattle.pungi_shape.specs.declared.shape.Shape.{Shape}
use Rattle.pungi_shape.specs.Shapes.{distinct, tokens_in, tokens_of, holders}
use Rattle.pungi_shape.specs.Scenes.{Scene, is_made}
use Rattle.pungi_shape.specs.Arrivals.{anchors, holds_token, place_in, renumber, kept_shape, arrive}
use Rattle.pungi_shape.proofs.sound.Distinct.{Once, is_in, one_place, once_at, once_distinct}
use Rattle.pungi_shape.proofs.sound.Distinct.{among_distinct, distinct_map}
use Rattle.pungi_shape.proofs.sound.Distinct.{tokens_renamed}
use Rattle.pungi_shape.proofs.sound.ArrivedScene.{holders_renamed}

places_in_turn : (ts : List ℕ) → Once ts → map (place_in ts) ts ≡ range_with_len 0 (length ts)
places_in_turn ts once =
    same_number_lists (map (place_in ts) ts) (range_with_len 0 (length ts))
    (length-map ts (place_in ts) ∙ sym (length-range_with_len 0 (length ts)))
    (λ k lt. let n = length-map ts (place_in ts) in let here : k < length ts = omega (arith, n, lt) in
    get_or-map (place_in ts) ts k 0 0 here ∙ once_at ts k once here
    ∙ sym (get_or-range_with_len 0 (length ts) k 0 here ∙ omega arith))

renumbered : (kept : Shape) → tokens_of (renumber kept) ≡ range_with_len 0 (length (renumber kept).made)
renumbered kept =
    let ts = tokens_of kept in
    let g = place_in ts in
    let us = tokens_in (holders kept) in
    ap (λ hs. distinct (tokens_in hs)) (holders_renamed g kept (renumber kept).made)
    ∙ ap distinct (tokens_renamed g (holders kept))
    ∙ distinct_map g us (λ t u a b e. one_place ts t u (is_in ts t (among_distinct us t ∙ a))
    (is_in ts u (among_distinct us u ∙ b)) e)
    ∙ places_in_turn ts (once_distinct us)
    ∙ ap (range_with_len 0) (sym (length-map ts (λ t. is_made kept t && holds_token (anchors kept) t)))

pub arrived_numbered : (code : Code) (p : Point) (s : Scene)
    → tokens_of (arrive code p s).shape ≡ range_with_len 0 (length (arrive code p s).shape.made)
arrived_numbered code p s = renumbered (kept_shape code p s)
