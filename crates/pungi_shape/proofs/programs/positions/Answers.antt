use Rattle.std.proofs.Common.{◌∙◌, ◌+◌, List, [], ◌∷◌, ◌++◌, map, drop, ap, arith}
use Rattle.pungi_base.specs.declared.pos.Pos.{Pos}
use Rattle.pungi_shape.specs.Programs.{pos_of}
use Rattle.pungi_shape.specs.Ranks.{places_in}
use Rattle.pungi_shape.proofs.RankLemmas.{map-end, map-step, places-length}
use Rattle.pungi_shape.proofs.programs.positions.Goals as goal

pub loop-k-preserved : goal.loop-k-preserved
loop-k-preserved c =
    let places = places_in c.args.numbers.now.found.now in
    let code = c.args.code.now in
    let at = c.loop-k in
    ap (λ (ps : List Pos). ps ++ map (pos_of code) (drop (at.k + 1) places))
    (c.in_ok-push.ensures.ok ∙ ap (λ (p : Pos). at.at ++ p ∷ []) c.pos_of.ensures)
    ∙ map-step (pos_of code) places at.at (map (pos_of code) places) at.k at.invariant c.place_at.result.now
    c.place_at.ensures

pub returns : goal.returns
returns c =
    let numbers = c.args.numbers.now in
    let places = places_in numbers.found.now in
    let code = c.args.code.now in
    let at = c.loop-k in
    let long = places-length numbers.found.now numbers.places.now numbers.exits.now c.requires.numbers in
    let end = c.len-k-end.ensures in
    let past = c.loop-k-test.false in
    map-end (pos_of code) places at.at (map (pos_of code) places) at.k at.invariant (omega (arith, long, end, past))
