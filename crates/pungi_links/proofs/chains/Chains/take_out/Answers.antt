use Rattle.std.proofs.Common.{◌≡◌, ◌∙◌, ◌<◌, length, slice_index}
use Rattle.std.proofs.lemmas.List.{get_or_default}
use Rattle.pungi_links.proofs.ChainsLemmas.{take_linked, takes_out, before_room}
use Rattle.pungi_links.proofs.chains.Chains.take_out.Goals as goal

pub invariant_of-self : goal.invariant_of-self
invariant_of-self c =
    let l = c.self.invariant in
    let a_in : c.args.a < length c.self.inside.next.items = rw (← c.self.view_is) at c.requires in
    let left : c.index-left.result.now ≡ slice_index c.self.inside.before.items c.args.a = c.index-left.ensures
    ∙ get_or_default c.self.inside.before.items c.args.a _ 0 (before_room _ _ l c.args.a a_in) in
    let right : c.index-right.result.now ≡ slice_index c.self.inside.next.items c.args.a = c.index-right.ensures
    ∙ get_or_default c.self.inside.next.items c.args.a _ 0 a_in in
    rw (left, right) (take_linked c.self.inside.next.items c.self.inside.before.items l c.args.a a_in)

pub returns : goal.returns
returns c =
    let l = c.self.invariant in
    let a_in : c.args.a < length c.self.inside.next.items = rw (← c.self.view_is) at c.requires in
    let left : c.index-left.result.now ≡ slice_index c.self.inside.before.items c.args.a = c.index-left.ensures
    ∙ get_or_default c.self.inside.before.items c.args.a _ 0 (before_room _ _ l c.args.a a_in) in
    let right : c.index-right.result.now ≡ slice_index c.self.inside.next.items c.args.a = c.index-right.ensures
    ∙ get_or_default c.self.inside.next.items c.args.a _ 0 a_in in
    rw (← c.self.view_is, left, right) (takes_out c.self.inside.next.items c.self.inside.before.items l c.args.a a_in)
