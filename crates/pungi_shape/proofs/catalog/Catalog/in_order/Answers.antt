use Rattle.std.proofs.Common.{◌++◌, ◌∙◌, ap, append-nil, sym}
use Rattle.pungi_shape.specs.Keys.{order_of}
use Rattle.pungi_shape.proofs.MapEntries.{viewed-values}
use Rattle.pungi_shape.proofs.catalog.Catalog.in_order.Goals as goal

pub returns : goal.returns
returns g c =
    sym (append-nil c.loop-place.order.items)
    ∙ ap (λ l. c.loop-place.order.items ++ l) (sym c.in-None.ensures.steps.0)
    ∙ c.loop-place.invariant ∙ c.into_iter-place-iterator.ensures.into_iter_gives ∙ c.values-place-items.ensures.rest
    ∙ sym (viewed-values (λ k. k.items) c.self.inside.by_key.entries)
    ∙ ap order_of c.self.view_is
