use Rattle.std.proofs.Common.{◌∙◌, ap, nat_cmp, map}
use Rattle.std.specs.BTreeMap.{insert_entry}
use Rattle.std.specs.Cmp.Lexicographic.{slice_cmp}
use Rattle.pungi_shape.proofs.CatalogLemmas.{added}
use Rattle.pungi_shape.proofs.MapEntries.{viewed-insert}
use Rattle.pungi_shape.proofs.catalog.Catalog.add.Goals as goal

pub returns-clause-added : goal.returns-clause-added
returns-clause-added g c =
    let entries =
    ap (map (λ e. (e.0.items, e.1))) c.in_ok-insert.ensures.entries
    ∙ viewed-insert (slice_cmp nat_cmp) (λ k. k.items) c.self.inside.by_key.entries c.args.key c.len-place.result
    ∙ ap (insert_entry (slice_cmp nat_cmp) (map (λ e. (e.0.items, e.1)) c.self.inside.by_key.entries)
    c.args.key.items) c.len-place.ensures in
    (λ i. record { items = c.in_ok-push.ensures.ok i; entries = entries i })
    ∙ ap (added c.args.key.items c.args.item) c.self.view_is
