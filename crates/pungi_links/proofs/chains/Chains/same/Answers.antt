use Rattle.std.proofs.Common.{◌≡◌, ◌∙◌, ◌<◌, length, slice_index}
use Rattle.std.proofs.lemmas.List.{get_or_default}
use Rattle.pungi_links.proofs.WalkLemmas.{walking_within, seeking_starts, seeking_goes, same_itself, same_met}
use Rattle.pungi_links.proofs.WalkLemmas.{same_unmet}
use Rattle.pungi_links.proofs.chains.Chains.same.Goals as goal

pub returns-then-a-b : goal.returns-then-a-b
returns-then-a-b c = same_itself _ _ _ c.if-a-b.true

pub loop-member-init : goal.loop-member-init
loop-member-init c =
    let a_in : c.args.a < length c.self.inside.next.items = rw (← c.self.view_is) at c.requires.0 in
    let is : c.index-member.result.now ≡ slice_index c.self.inside.next.items c.args.a = c.index-member.ensures
    ∙ get_or_default c.self.inside.next.items c.args.a _ 0 a_in in
    rw is (seeking_starts c.self.inside.next.items c.args.a c.args.b c.self.invariant.rings a_in c.if-a-b.false)

pub returns-then-member-b : goal.returns-then-member-b
returns-then-member-b c =
    rw (← c.self.view_is) (same_met c.self.inside.next.items c.args.a c.args.b c.loop-member.member
    c.loop-member.invariant c.loop-member-test.true c.if-member-b.true)

pub index-member-requires-in-loop-member : goal.index-member-requires-in-loop-member
index-member-requires-in-loop-member c =
    rw (c.self.inside.next.ok.0) (walking_within _ _ _ _ c.loop-member.invariant.walking)

pub loop-member-smaller : goal.loop-member-smaller
loop-member-smaller c =
    let within = walking_within _ _ _ _ c.loop-member.invariant.walking in
    let is : c.index-member-in-loop-member.result.now ≡ slice_index c.self.inside.next.items c.loop-member.member
    = c.index-member-in-loop-member.ensures ∙ get_or_default c.self.inside.next.items c.loop-member.member _ 0
    within in
    rw is (seeking_goes _ _ _ _ c.loop-member.invariant c.loop-member-test.true c.if-member-b.false).1

pub loop-member-preserved : goal.loop-member-preserved
loop-member-preserved c =
    let within = walking_within _ _ _ _ c.loop-member.invariant.walking in
    let is : c.index-member-in-loop-member.result.now ≡ slice_index c.self.inside.next.items c.loop-member.member
    = c.index-member-in-loop-member.ensures ∙ get_or_default c.self.inside.next.items c.loop-member.member _ 0
    within in
    rw is (seeking_goes _ _ _ _ c.loop-member.invariant c.loop-member-test.true c.if-member-b.false).0

pub returns : goal.returns
returns c =
    rw (← c.self.view_is) (same_unmet c.self.inside.next.items c.args.a c.args.b
    (rw c.loop-member-test.false at c.loop-member.invariant))
