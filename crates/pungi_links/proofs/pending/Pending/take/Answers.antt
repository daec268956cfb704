use Rattle.std.proofs.Common.{◌∙◌, slice_index, refl}
use Rattle.pungi_links.specs.Chains.{TakesOut}
use Rattle.pungi_links.proofs.PendingLemmas.{queue_pending, take_some}
use Rattle.pungi_links.proofs.pending.Pending.take.Goals as goal

pub invariant_of-self : goal.invariant_of-self
invariant_of-self c =
    let out : TakesOut c.self.inside.links (slice_index c.self.inside.links c.self.inside.end) c.take_out.new.self
    = rw c.next-first.ensures.value at c.take_out.ensures in
    (take_some c.self.inside.links c.self.inside.end c.self.invariant _ (λ e. c.if-first-self.false
    (c.next-first.ensures.value ∙ e)) out).0

pub returns-clause-takes : goal.returns-clause-takes
returns-clause-takes c =
    let out : TakesOut c.self.inside.links (slice_index c.self.inside.links c.self.inside.end) c.take_out.new.self
    = rw c.next-first.ensures.value at c.take_out.ensures in
    let taken = take_some c.self.inside.links c.self.inside.end c.self.invariant _
    (λ e. c.if-first-self.false (c.next-first.ensures.value ∙ e)) out in
    rw (← c.self.view_is, c.next-first.ensures.value, taken.1) refl

pub returns-clause-pending : goal.returns-clause-pending
returns-clause-pending c =
    let out : TakesOut c.self.inside.links (slice_index c.self.inside.links c.self.inside.end) c.take_out.new.self
    = rw c.next-first.ensures.value at c.take_out.ensures in
    queue_pending _ _ (take_some c.self.inside.links c.self.inside.end c.self.invariant _
    (λ e. c.if-first-self.false (c.next-first.ensures.value ∙ e)) out).0
