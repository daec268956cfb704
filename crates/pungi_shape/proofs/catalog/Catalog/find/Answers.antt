use Rattle.std.proofs.Common.{◌∙◌, sym, ap}
use Rattle.pungi_shape.specs.Keys.{is_key, place_of}
use Rattle.pungi_shape.proofs.MapEntries.{viewed-lookup}
use Rattle.pungi_shape.proofs.catalog.Catalog.find.Goals as goal

pub returns : goal.returns
returns g c =
    c.copied.ensures ∙ c.get.ensures.value
    ∙ sym (viewed-lookup (is_key c.args.key.now) (λ k. k.items) c.self.inside.by_key.entries)
    ∙ ap (place_of c.args.key.now) c.self.view_is
