use Rattle.std.proofs.Common.{◌≡◌, ◌∙◌, ◌<◌, length, slice_index}
use Rattle.std.proofs.lemmas.List.{get_or_default}
use Rattle.pungi_links.proofs.WalkLemmas.{walking_starts, walking_within, walking_goes, walking_ends}
use Rattle.pungi_links.proofs.chains.Chains.members.Goals as goal

pub loop-member-init : goal.loop-member-init
loop-member-init c =
    let a_in : c.args.a < length c.self.inside.next.items = rw (← c.self.view_is) at c.requires in
    let is : c.index-member.result.now ≡ slice_index c.self.inside.next.items c.args.a = c.index-member.ensures
    ∙ get_or_default c.self.inside.next.items c.args.a _ 0 a_in in
    rw (c.in_ok-push.ensures.items, c.new-members.ensures.items, is) (walking_starts c.self.inside.next.items
    c.args.a c.self.invariant.rings a_in)

pub index-member-requires-in-loop-member : goal.index-member-requires-in-loop-member
index-member-requires-in-loop-member c = rw (c.self.inside.next.ok.0) (walking_within _ _ _ _ c.loop-member.invariant)

pub loop-member-smaller : goal.loop-member-smaller
loop-member-smaller c =
    let within = walking_within _ _ _ _ c.loop-member.invariant in
    let is : c.index-member-in-loop-member.result.now ≡ slice_index c.self.inside.next.items c.loop-member.member
    = c.index-member-in-loop-member.ensures ∙ get_or_default c.self.inside.next.items c.loop-member.member _ 0
    within in
    rw is (walking_goes _ _ _ _ c.loop-member.invariant c.loop-member-test.true).1

pub loop-member-preserved : goal.loop-member-preserved
loop-member-preserved c =
    let within = walking_within _ _ _ _ c.loop-member.invariant in
    let is : c.index-member-in-loop-member.result.now ≡ slice_index c.self.inside.next.items c.loop-member.member
    = c.index-member-in-loop-member.ensures ∙ get_or_default c.self.inside.next.items c.loop-member.member _ 0
    within in
    rw (c.in_ok-push-2.ensures.items, is) (walking_goes _ _ _ _ c.loop-member.invariant c.loop-member-test.true).0

pub returns : goal.returns
returns c = rw (← c.self.view_is) (walking_ends _ _ _ (rw c.loop-member-test.false at c.loop-member.invariant))
