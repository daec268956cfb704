use Rattle.std.proofs.Common.{◌≡◌, ◌∙◌, List, Bool, ap, map, subst}
use Rattle.pungi_summary.specs.Ways.{AreWays}
use Rattle.pungi_summary.specs.Worklist.{AreFirst, first_outcome}
use Rattle.pungi_summary.proofs.Firsts.{first_of_ways}
use Rattle.pungi_summary.proofs.Lists.{if_ok_to}
use Rattle.pungi_summary.proofs.solver.first_outcomes.Goals as goal

pub returns : goal.returns
returns c =
    let ps = c.args.programs.now in
    let callees = c.args.callees.now in
    let ways = c.in_ok-ways.ways.items in
    let found = subst (λ (xs : List Bool). AreWays ps callees xs ways)
    (c.as_slice.ensures.value ∙ c.in_ok-starts.ensures)
    c.in_ok-ways.ensures in
    if_ok_to c.outcomes_by_ways.result (λ v. v.items ≡ map first_outcome c.as_slice-2.result.now)
    (λ v. AreFirst ps callees v.items)
    (λ v h. first_of_ways ps callees ways v.items c.requires.callable found
    (h ∙ ap (map first_outcome) c.as_slice-2.ensures.value)) c.outcomes_by_ways.ensures
