use Rattle.std.proofs.Common.{◌∙◌, ℕ, ◌+◌, List, [], ◌∷◌, ◌++◌, map, drop, ap, arith}
use Rattle.pungi_shape.specs.Places.{width_at}
use Rattle.pungi_shape.specs.Ranks.{places_in}
use Rattle.pungi_shape.proofs.RankLemmas.{map-end, map-step, place-narrow, place-plain, places-length}
use Rattle.pungi_shape.proofs.programs.widths.Goals as goal

pub width_at-requires-clause-plain : goal.width_at-requires-clause-plain
width_at-requires-clause-plain c =
    let numbers = c.args.numbers.now in
    place-plain numbers.found.now numbers.places.now numbers.exits.now c.requires.numbers c.loop-k.k
    c.place_at.result.now c.place_at.ensures

pub width_at-requires-clause-narrow : goal.width_at-requires-clause-narrow
width_at-requires-clause-narrow c =
    let numbers = c.args.numbers.now in
    place-narrow numbers.found.now numbers.places.now numbers.exits.now c.requires.numbers c.loop-k.k
    c.place_at.result.now c.place_at.ensures

pub overflow_cast-branch : goal.overflow_cast-branch
overflow_cast-branch c =
    let numbers = c.args.numbers.now in
    let narrow = place-narrow numbers.found.now numbers.places.now numbers.exits.now c.requires.numbers c.loop-k.k
    c.place_at.result.now c.place_at.ensures in
    let is = c.in_ok-width_at.ensures in
    omega (arith, narrow, is)

pub loop-k-preserved : goal.loop-k-preserved
loop-k-preserved c =
    let places = places_in c.args.numbers.now.found.now in
    let at = c.loop-k in
    ap (λ (ws : List ℕ). ws ++ map width_at (drop (at.k + 1) places))
    (c.in_ok-push.ensures.ok ∙ ap (λ (w : ℕ). at.widths ++ w ∷ []) c.in_ok-width_at.ensures)
    ∙ map-step width_at places at.widths (map width_at places) at.k at.invariant c.place_at.result.now
    c.place_at.ensures

pub returns : goal.returns
returns c =
    let numbers = c.args.numbers.now in
    let places = places_in numbers.found.now in
    let at = c.loop-k in
    let long = places-length numbers.found.now numbers.places.now numbers.exits.now c.requires.numbers in
    let end = c.len-k-end.ensures in
    let past = c.loop-k-test.false in
    map-end width_at places at.widths (map width_at places) at.k at.invariant (omega (arith, long, end, past))
