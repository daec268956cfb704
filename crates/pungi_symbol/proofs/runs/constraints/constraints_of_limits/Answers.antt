use Rattle.std.proofs.Common.{◌≡◌, ◌<◌, pos, length, get_or, ◌∙◌, arith, rules}
use Rattle.std.proofs.lemmas.List.Elements.{All-push}
use Rattle.pungi_symbol.specs.declared.states.limit.Limit.{Limit}
use Rattle.pungi_symbol.specs.declared.states.node.Node.TheVariants as nodes
use Rattle.pungi_symbol.specs.runs.Numbers.{constraint_of, IsIn}
use Rattle.pungi_symbol.proofs.runs.Models.{limit_step, one_more_there}
use Rattle.pungi_symbol.proofs.runs.constraints.constraints_of_limits.Goals as goal

pub loop-i-preserved : goal.loop-i-preserved
loop-i-preserved c =
    let none : Limit = record { x = nodes.Zero; y = nodes.Zero; c = pos 0 } in
    let k = c.in_ok-between.field-0 in
    let is : k ≡ constraint_of (length c.args.marks.now) (get_or c.args.limits.now c.loop-i.i none) = search rules in
    let lt : c.loop-i.i < length c.args.limits.now = omega arith in (
      rw (c.in_ok-push.ensures.items, is) (limit_step (length c.args.marks.now) c.args.limits.now c.loop-i.constraints.items
          c.loop-i.i none lt ∙ c.loop-i.invariant.0),
      (
        rw c.in_ok-push.ensures.items (All-push (IsIn c.args.nodes) c.loop-i.constraints.items k
            c.loop-i.invariant.1.0 c.in_ok-between.ensures.within),
        one_more_there c.args.marks.now c.args.limits.now c.loop-i.i c.loop-i.invariant.1.1 none lt
            (search rules, search rules),
      ),
    )
