use Rattle.std.proofs.Common.{◌≡◌, ◌∙◌, ℕ, List, Some, None, length, sym, ap, rules}
use Rattle.pungi_shape.specs.Keys.{key_of, place_of}
use Rattle.pungi_shape.proofs.CatalogLemmas.{added, added-found}
use Rattle.pungi_shape.proofs.search.find_place.Goals as goal

pub returns-clause-number : goal.returns-clause-number
returns-clause-number c =
    let n = c.args.places.now in
    let key : c.in_ok-key.key.items ≡ key_of c.args.place = c.in_ok-key.ensures in
    let new : place_of c.in_ok-key.key.items n ≡ None = search rules in
    let found : place_of (key_of c.args.place) (added c.in_ok-key.key.items c.args.place n) ≡ Some (length n.items) =
    ap (λ (k : List ℕ). place_of k (added c.in_ok-key.key.items c.args.place n)) (sym key)
    ∙ added-found c.in_ok-key.key.items c.args.place n new in
    ap (place_of (key_of c.args.place)) c.in_ok-add.ensures.added ∙ found ∙ ap Some (sym c.in_ok-add.ensures.place)
