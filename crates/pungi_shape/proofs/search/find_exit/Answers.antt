use Rattle.std.proofs.Common.{◌≡◌, ◌∙◌, ℕ, List, Some, None, length, sym, ap, rules}
use Rattle.pungi_shape.specs.Keys.{place_of}
use Rattle.pungi_shape.specs.Shapes.{numbers_of_shape}
use Rattle.pungi_shape.proofs.CatalogLemmas.{added, added-found}
use Rattle.pungi_shape.proofs.search.find_exit.Goals as goal

pub returns-clause-number : goal.returns-clause-number
returns-clause-number c =
    let n = c.args.exits.now in
    let key : c.in_ok-key.key.items ≡ numbers_of_shape c.args.exit = c.in_ok-key.ensures in
    let new : place_of c.in_ok-key.key.items n ≡ None = search rules in
    let found : place_of (numbers_of_shape c.args.exit) (added c.in_ok-key.key.items c.args.exit n) ≡ Some (length n.items) =
    ap (λ (k : List ℕ). place_of k (added c.in_ok-key.key.items c.args.exit n)) (sym key)
    ∙ added-found c.in_ok-key.key.items c.args.exit n new in
    ap (place_of (numbers_of_shape c.args.exit)) c.in_ok-add.ensures.added ∙ found ∙ ap Some (sym c.in_ok-add.ensures.place)
