use Rattle.std.proofs.Common.{◌∙◌, ◌<◌, sym, refl}
use Rattle.pungi_links.proofs.PendingLemmas.{queue_pending, put_old, put_apart, put_new}
use Rattle.pungi_links.proofs.pending.Pending.put.Goals as goal

pub returns-then-next-i-clause-puts : goal.returns-then-next-i-clause-puts
returns-then-next-i-clause-puts c =
    let below : c.args.i < c.self.inside.end = rw (← c.self.view_is) at c.requires in
    rw (← c.self.view_is) (
      put_old c.self.inside.links c.self.inside.end c.self.invariant c.args.i below
          (λ e. c.if-next-i.true (c.next.ensures.value ∙ e)),
      refl,
    )

pub returns-then-next-i-clause-pending : goal.returns-then-next-i-clause-pending
returns-then-next-i-clause-pending c =
    rw (← c.self.view_is) (queue_pending c.self.inside.links c.self.inside.end c.self.invariant)

pub splice-requires-clause-apart : goal.splice-requires-clause-apart
splice-requires-clause-apart c =
    let below : c.args.i < c.self.inside.end = rw (← c.self.view_is) at c.requires in
    put_apart c.self.inside.links c.self.inside.end c.self.invariant c.args.i below
    (sym c.next.ensures.value ∙ c.if-next-i.false)

pub invariant_of-self : goal.invariant_of-self
invariant_of-self c =
    let below : c.args.i < c.self.inside.end = rw (← c.self.view_is) at c.requires in
    (put_new c.self.inside.links c.self.inside.end c.self.invariant c.args.i _ below
    (sym c.next.ensures.value ∙ c.if-next-i.false) c.splice.ensures).1.0

pub returns-clause-puts : goal.returns-clause-puts
returns-clause-puts c =
    let below : c.args.i < c.self.inside.end = rw (← c.self.view_is) at c.requires in
    let put = put_new c.self.inside.links c.self.inside.end c.self.invariant c.args.i _ below
    (sym c.next.ensures.value ∙ c.if-next-i.false) c.splice.ensures in
    rw (← c.self.view_is) (put.0, rw (put.1.1) refl)

pub returns-clause-pending : goal.returns-clause-pending
returns-clause-pending c =
    let below : c.args.i < c.self.inside.end = rw (← c.self.view_is) at c.requires in
    queue_pending _ _ (put_new c.self.inside.links c.self.inside.end c.self.invariant c.args.i _ below
    (sym c.next.ensures.value ∙ c.if-next-i.false) c.splice.ensures).1.0
