use Rattle.std.proofs.Common.{◌∙◌, List, length, get_or, refl, ap, arith}
use Rattle.std.proofs.lemmas.Option.{slice_get_read}
use Rattle.pungi_shape.specs.Places.{Place}
use Rattle.pungi_shape.proofs.RankLemmas.{place-there, place-within}
use Rattle.pungi_shape.proofs.programs.place_at.Goals as goal

pub bounds-items-index : goal.bounds-items-index
bounds-items-index c =
    let numbers = c.args.numbers.now in
    let order = numbers.places.now.order.items in
    let read = slice_get_read order (length order) c.args.k c.index.result.now refl c.requires.there c.index.ensures in
    let lt = place-within numbers.found.now numbers.places.now numbers.exits.now c.requires.numbers c.args.k
    c.index.result.now read in
    let same = ap length c.items.ensures in
    omega (arith, lt, same)

pub returns : goal.returns
returns c =
    let numbers = c.args.numbers.now in
    let order = numbers.places.now.order.items in
    let q = c.index-items-index.result in
    let p = c.index.result.now in
    let read = slice_get_read order (length order) c.args.k p refl c.requires.there c.index.ensures in
    place-there numbers.found.now numbers.places.now numbers.exits.now c.requires.numbers c.args.k p q read
    (c.index-items-index.is ∙ ap (λ (qs : List Place). get_or qs p q) c.items.ensures)
