use Rattle.std.proofs.Common.{◌∙◌, ℕ, ◌+◌, List, [], ◌∷◌, ◌++◌, map, drop, ap, arith}
use Rattle.pungi_shape.specs.Ranks.{exits_in}
use Rattle.pungi_shape.specs.Shapes.{width_of}
use Rattle.pungi_shape.proofs.RankLemmas.{exit-class, exits-length, map-end, map-step}
use Rattle.pungi_shape.proofs.programs.exit_widths.Goals as goal

pub exit_width-requires-clause-vars : goal.exit_width-requires-clause-vars
exit_width-requires-clause-vars c =
    let numbers = c.args.numbers.now in
    (exit-class numbers.found.now numbers.places.now numbers.exits.now c.requires.numbers c.loop-k.k
    c.exit_at.result.now c.exit_at.ensures).vars

pub exit_width-requires-clause-slots : goal.exit_width-requires-clause-slots
exit_width-requires-clause-slots c =
    let numbers = c.args.numbers.now in
    (exit-class numbers.found.now numbers.places.now numbers.exits.now c.requires.numbers c.loop-k.k
    c.exit_at.result.now c.exit_at.ensures).slots

pub exit_width-requires-clause-narrow : goal.exit_width-requires-clause-narrow
exit_width-requires-clause-narrow c =
    let numbers = c.args.numbers.now in
    let narrow = (exit-class numbers.found.now numbers.places.now numbers.exits.now c.requires.numbers c.loop-k.k
    c.exit_at.result.now c.exit_at.ensures).narrow in
    omega (arith, narrow)

pub loop-k-preserved : goal.loop-k-preserved
loop-k-preserved c =
    let exits = exits_in c.args.numbers.now.found.now in
    let at = c.loop-k in
    ap (λ (ws : List ℕ). ws ++ map width_of (drop (at.k + 1) exits))
    (c.in_ok-push.ensures.ok ∙ ap (λ (w : ℕ). at.widths ++ w ∷ []) c.in_ok-exit_width.ensures)
    ∙ map-step width_of exits at.widths (map width_of exits) at.k at.invariant c.exit_at.result.now c.exit_at.ensures

pub returns : goal.returns
returns c =
    let numbers = c.args.numbers.now in
    let exits = exits_in numbers.found.now in
    let at = c.loop-k in
    let long = exits-length numbers.found.now numbers.places.now numbers.exits.now c.requires.numbers in
    let end = c.len-k-end.ensures in
    let past = c.loop-k-test.false in
    map-end width_of exits at.widths (map width_of exits) at.k at.invariant (omega (arith, long, end, past))
