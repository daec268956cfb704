use Rattle.std.proofs.Common.{◌≡◌, ◌∙◌, ◌<◌, length, slice_index}
use Rattle.std.proofs.lemmas.List.{get_or_default}
use Rattle.pungi_links.proofs.ChainsLemmas.{splice_linked, splices, before_room}
use Rattle.pungi_links.proofs.chains.Chains.splice.Goals as goal

pub invariant_of-self : goal.invariant_of-self
invariant_of-self c =
    let l = c.self.invariant in
    let a_in : c.args.a < length c.self.inside.next.items = rw (← c.self.view_is) at c.requires.range.0 in
    let b_in : c.args.b < length c.self.inside.next.items = rw (← c.self.view_is) at c.requires.range.1 in
    let last_a : c.index-last_a.result.now ≡ slice_index c.self.inside.before.items c.args.a
    = c.index-last_a.ensures ∙ get_or_default c.self.inside.before.items c.args.a _ 0
    (before_room _ _ l c.args.a a_in) in
    let last_b : c.index-last_b.result.now ≡ slice_index c.self.inside.before.items c.args.b
    = c.index-last_b.ensures ∙ get_or_default c.self.inside.before.items c.args.b _ 0
    (before_room _ _ l c.args.b b_in) in
    rw (last_a, last_b) (splice_linked c.self.inside.next.items c.self.inside.before.items l c.args.a c.args.b a_in
    b_in (rw (← c.self.view_is) at c.requires.apart))

pub returns : goal.returns
returns c =
    let l = c.self.invariant in
    let a_in : c.args.a < length c.self.inside.next.items = rw (← c.self.view_is) at c.requires.range.0 in
    let b_in : c.args.b < length c.self.inside.next.items = rw (← c.self.view_is) at c.requires.range.1 in
    let last_a : c.index-last_a.result.now ≡ slice_index c.self.inside.before.items c.args.a
    = c.index-last_a.ensures ∙ get_or_default c.self.inside.before.items c.args.a _ 0
    (before_room _ _ l c.args.a a_in) in
    let last_b : c.index-last_b.result.now ≡ slice_index c.self.inside.before.items c.args.b
    = c.index-last_b.ensures ∙ get_or_default c.self.inside.before.items c.args.b _ 0
    (before_room _ _ l c.args.b b_in) in
    rw (← c.self.view_is, last_a, last_b) (splices c.self.inside.next.items c.self.inside.before.items l c.args.a
    c.args.b a_in b_in (rw (← c.self.view_is) at c.requires.apart))
