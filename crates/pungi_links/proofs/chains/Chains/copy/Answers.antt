use Rattle.std.proofs.Common.{◌≤◌, length, arith}
use Rattle.pungi_links.specs.Chains.{Extends}
use Rattle.pungi_links.proofs.ChainsLemmas.{copy_linked, copies}
use Rattle.pungi_links.proofs.chains.Chains.copy.Goals as goal

pub invariant_of-result : goal.invariant_of-result
invariant_of-result c =
    let more : length c.self.inside.next.items ≤ c.args.n = rw (← c.self.view_is) at c.requires in
    let next : Extends c.self.inside.next.items c.args.n c.in_ok-next.next.items = rw c.as_slice.ensures.value at
    c.in_ok-next.ensures in
    let before : Extends c.self.inside.before.items c.args.n c.in_ok-before.before.items = rw
    c.as_slice-2.ensures.value at c.in_ok-before.ensures in
    copy_linked c.self.inside.next.items c.self.inside.before.items _ _ c.args.n c.self.invariant (omega arith) more
    next before

pub returns : goal.returns
returns c =
    let more : length c.self.inside.next.items ≤ c.args.n = rw (← c.self.view_is) at c.requires in
    let next : Extends c.self.inside.next.items c.args.n c.in_ok-next.next.items = rw c.as_slice.ensures.value at
    c.in_ok-next.ensures in
    let before : Extends c.self.inside.before.items c.args.n c.in_ok-before.before.items = rw
    c.as_slice-2.ensures.value at c.in_ok-before.ensures in
    rw (← c.self.view_is) (copies c.self.inside.next.items c.self.inside.before.items c.in_ok-next.next.items
    c.in_ok-before.before.items c.args.n c.self.invariant (omega arith) more next before)
