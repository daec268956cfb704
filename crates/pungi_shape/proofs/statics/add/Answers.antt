use Rattle.std.proofs.Common.{◌≡◌, ◌∙◌, ◌∷◌, [], true, false, get_or, slice_set, Some, ap, subst, sym}
use Rattle.std.proofs.lemmas.Option.{slice_get-get_or}
use Rattle.pungi_shape.specs.Reaching.{IsAdded}
use Rattle.pungi_shape.proofs.ReachingLemmas.{added-before, added-now}
use Rattle.pungi_shape.proofs.statics.add.Goals as goal

pub returns-in_ok-push : goal.returns-in_ok-push
returns-in_ok-push c =
    let g = c.args.g in
    let marks = c.args.marks.now.items in
    let list = c.args.list.now.items in
    let k = c.if-not-index.true in
    let h = c.index.ensures in
    let unmarked : get_or marks g false ≡ false = sym (rw k at h) in
    subst (λ l. IsAdded (g ∷ []) marks (slice_set marks g true) list l) (sym c.in_ok-push.ensures.items)
    (added-now g marks list c.requires.there unmarked)

pub returns-else-not-index : goal.returns-else-not-index
returns-else-not-index c =
    let g = c.args.g in
    let marks = c.args.marks.now.items in
    let k = c.if-not-index.false in
    let h = c.index.ensures in
    let marked : get_or marks g true ≡ true = sym (rw k at h) in
    added-before g marks c.args.list.now.items (slice_get-get_or marks g true c.requires.there ∙ ap Some marked)
