use Rattle.std.proofs.Common.{◌≡◌, ◌∙◌, ◌<◌, length, None}
use Rattle.std.proofs.lemmas.List.{get_or_default}
use Rattle.pungi_diff.proofs.HeldLemmas.{linked_push}
use Rattle.pungi_diff.proofs.held.Held.push.Goals as goal

pub invariant_of-self : goal.invariant_of-self
invariant_of-self c =
    let number : c.len-number.result ≡ length c.self.inside.constraints.items = c.len-number.ensures
    ∙ c.self.inside.constraints.ok.0 in
    let room : length c.self.inside.constraints.items < c.self.inside.room = rw (← c.self.view_is) at c.requires.room in
    let node : c.args.new.y < length c.self.inside.latest.items = rw (← c.self.view_is) at c.requires.node in
    rw (
      c.push_reserved-2.ensures.items,
      c.push_reserved-2.ensures.capacity,
      c.push_reserved.ensures.items,
      c.push_reserved.ensures.capacity,
      number,
    )
    (linked_push _ _ _ _ _ _ _ _ c.self.invariant room node (c.index.ensures
    ∙ get_or_default c.self.inside.latest.items c.args.new.y _ None node))
