use Rattle.std.proofs.Common.{◌≤◌, ◌-◌, ◌++◌, length, drop, ap, arith, sym, ◌∙◌}
use Rattle.pungi_base.specs.declared.pos.Pos.{Pos}
use Rattle.pungi_lex.specs.Stretch.{places_along, side_by_side}
use Rattle.pungi_lex.proofs.StretchLemmas.{drop_side, drop_past_side, nothing_left}
use Rattle.pungi_lex.proofs.stretch.spot_behind.Goals as goal
use Rattle.pungi_lex.proofs.stretch.spot_behind.Goals.{then-stretches-test+else-spot-stretches, else-stretches-test}

pub stretches-preserved : goal.stretches-preserved
stretches-preserved c =
    let spot = c.stretches.spot in
    let all = c.args.stretches.now in
    let on = drop_past_side spot.at c.stretches.more spot.left (places_along (drop spot.next all))
    c.stretches-test.true in
    record {
      left = ap (drop (c.stretches.more - spot.left)) c.spot_at-spot.ensures.left ∙ on ∙ c.stretches.invariant.left;
      col = c.spot_at-spot.ensures.narrow;
    }

pub returns-then-more-spot-clause-left : goal.returns-then-more-spot-clause-left
returns-then-more-spot-clause-left c =
    let spot = c.stretches.spot in
    let rest = places_along (drop spot.next c.args.stretches.now) in
    ap (λ (at : Pos). side_by_side at (spot.left - c.stretches.more) ++ rest) c.right_of.ensures
    ∙ sym (drop_side spot.at c.stretches.more spot.left rest (omega arith)) ∙ c.stretches.invariant.left

pub returns-else-more-spot-clause-left : goal.returns-else-more-spot-clause-left
returns-else-more-spot-clause-left c =
    let spot = c.stretches.spot in
    let all = c.args.stretches.now in
    let past : length all ≤ spot.next = elim c.stretches-test.branch [
      | then-stretches-test+else-spot-stretches w ↦
          omega arith
      | else-stretches-test w ↦ omega arith
    ] in
    nothing_left spot.at c.stretches.more spot.left spot.next all (omega arith) past ∙ c.stretches.invariant.left
