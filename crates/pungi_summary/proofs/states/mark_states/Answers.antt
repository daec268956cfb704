use Rattle.std.proofs.Common.{◌∙◌, List, Option, Bool, map, sym, subst, arith}
use Rattle.std.proofs.lemmas.List.{length-map}
use Rattle.std.proofs.lemmas.Option.{slice_get_within}
use Rattle.std.proofs.lemmas.Result.{on_ok_weaker}
use Rattle.pungi_summary.specs.Outcomes.{is_large, is_unsafe}
use Rattle.pungi_summary.specs.Ways.{AreWays}
use Rattle.pungi_summary.specs.declared.way.Way.{Way}
use Rattle.pungi_summary.proofs.states.mark_states.Goals as goal

pub mark_by_ways-requires-clause-origins : goal.mark_by_ways-requires-clause-origins
mark_by_ways-requires-clause-origins g c = λ f w is.
    let ps = c.args.programs.now in
    let callees = c.args.callees.now in
    let outcomes = c.args.outcomes.now in
    let found : AreWays ps callees (map is_large outcomes) c.as_slice-3.result.now =
    subst (λ (xs : List (Option Way)). AreWays ps callees (map is_large outcomes) xs) (sym c.as_slice-3.ensures.value)
    (subst (λ (ys : List Bool). AreWays ps callees ys c.in_ok-large.large.items)
    (c.as_slice.ensures.value ∙ c.in_ok-starts.ensures) c.in_ok-large.ensures) in
    let lt = slice_get_within (map is_large outcomes) w.origin _ (found.sound f w is).1 in
    let count = length-map outcomes is_large in
    omega (arith, lt, count)

pub returns-clause-states : goal.returns-clause-states
returns-clause-states g c =
    let ps = c.args.programs.now in
    let callees = c.args.callees.now in
    let outcomes = c.args.outcomes.now in
    let large : AreWays ps callees (map is_large outcomes) c.as_slice-3.result.now =
    subst (λ (xs : List (Option Way)). AreWays ps callees (map is_large outcomes) xs) (sym c.as_slice-3.ensures.value)
    (subst (λ (ys : List Bool). AreWays ps callees ys c.in_ok-large.large.items)
    (c.as_slice.ensures.value ∙ c.in_ok-starts.ensures) c.in_ok-large.ensures) in
    let failing : AreWays ps callees (map is_unsafe outcomes) c.as_slice-4.result.now =
    subst (λ (xs : List (Option Way)). AreWays ps callees (map is_unsafe outcomes) xs) (sym c.as_slice-4.ensures.value)
    (subst (λ (ys : List Bool). AreWays ps callees ys c.in_ok-failing.failing.items)
    (c.as_slice-2.ensures.value ∙ c.in_ok-starts-2.ensures) c.in_ok-failing.ensures) in
    let count = c.requires.outcomes in
    on_ok_weaker c.mark_by_ways.result (λ h. record {
      count = c.mark_by_ways.ensures.count ∙ c.requires.states;
      large = c.as_slice-3.result.now;
      large_ways = large;
      failing = c.as_slice-4.result.now;
      failing_ways = failing;
      each = λ f lt. h f (omega (arith, lt, count));
    }) c.mark_by_ways.ensures.states
