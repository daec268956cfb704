use Rattle.std.proofs.Common.{◌≢◌, ◌∙◌, ◌+◌, ◌&&◌, Bool, length, map, drop, sym, ap, arith}
use Rattle.std.proofs.lemmas.List.{length-map}
use Rattle.pungi_shape.specs.Exits.{are_alike, is_alike}
use Rattle.pungi_shape.specs.Scenes.{holding_of}
use Rattle.pungi_shape.proofs.AlikeLemmas.{alike_end, alike_step, unlike_lengths}
use Rattle.pungi_shape.proofs.joins.are_alike.Goals as goal

pub returns-then-entry-atoms : goal.returns-then-entry-atoms
returns-then-entry-atoms c = λ s e. (
    let hs = c.args.entry.now in
    let ks = map (holding_of s) c.args.atoms.now in
    let long = length-map c.args.atoms.now (holding_of s) in
    let apart : length hs ≢ length ks = λ same. omega (arith, same, long) in
    sym (unlike_lengths hs ks apart)
    )

pub returns-then-not-is_alike : goal.returns-then-not-is_alike
returns-then-not-is_alike c = λ s e. (
    let hs = c.args.entry.now in
    let as' = c.args.atoms.now in
    let ks = map (holding_of s) as' in
    let i = c.loop-i.i in
    let b = c.is_alike.result in
    let t = alike_step b s hs as' i _ _ (omega arith) (omega arith)
    (c.is_alike.ensures ∙ ap (is_alike _) (c.holding_of.ensures s e)) in
    ap (λ (z : Bool). z && are_alike (drop (i + 1) hs) (drop (i + 1) ks)) (sym c.if-not-is_alike.true)
    ∙ sym t ∙ c.loop-i.invariant s e
    )

pub loop-i-preserved : goal.loop-i-preserved
loop-i-preserved c = λ s e. (
    let hs = c.args.entry.now in
    let as' = c.args.atoms.now in
    let ks = map (holding_of s) as' in
    let i = c.loop-i.i in
    let b = c.is_alike.result in
    let t = alike_step b s hs as' i _ _ (omega arith) (omega arith)
    (c.is_alike.ensures ∙ ap (is_alike _) (c.holding_of.ensures s e)) in
    ap (λ (z : Bool). z && are_alike (drop (i + 1) hs) (drop (i + 1) ks)) (sym c.if-not-is_alike.false)
    ∙ sym t ∙ c.loop-i.invariant s e
    )

pub returns : goal.returns
returns c = λ s e.
    sym (alike_end s c.args.entry.now c.args.atoms.now c.loop-i.i (omega arith) (omega arith))
    ∙ c.loop-i.invariant s e
