use Rattle.std.proofs.Common.{◌-◌, ◌<◌, ◌++◌, ◌∷◌, [], pos, length, get_or, ap, ◌∙◌, subst, arith, rules}
use Rattle.pungi_diff.specs.declared.constraint.Constraint.{Constraint}
use Rattle.pungi_diff.specs.Bounds.{AddsOk, AddsNot}
use Rattle.pungi_diff.specs.Round.{GoesRound}
use Rattle.pungi_symbol.proofs.runs.Reversed.{reversed_round, reversed_step}
use Rattle.pungi_symbol.proofs.runs.numbers.hold_all.Goals as goal

pub loop-i-preserved : goal.loop-i-preserved
loop-i-preserved c =
    let none : Constraint = record { x = 0; y = 0; c = pos 0 } in
    let ks = c.args.constraints.now in
    let i = c.loop-i.i in
    let k : Constraint = get_or ks (length ks - 1 - i) none in
    let new : AddsOk c.loop-i.bounds k c.add.new.self = search rules in
    let lt : i < length ks = omega arith in (
      new.held ∙ ap (λ l. l ++ k ∷ []) c.loop-i.invariant.0 ∙ reversed_step ks i none lt,
      new.nodes ∙ c.loop-i.invariant.1,
      new.room ∙ c.loop-i.invariant.2,
    )

pub returns-in-Err-clause-held : goal.returns-in-Err-clause-held
returns-in-Err-clause-held c =
    let none : Constraint = record { x = 0; y = 0; c = pos 0 } in
    let ks = c.args.constraints.now in
    let i = c.loop-i.i in
    let k : Constraint = get_or ks (length ks - 1 - i) none in
    let new : AddsNot c.loop-i.bounds k c.add.new.self = search rules in
    let lt : i < length ks = omega arith in
    reversed_round ks i none c.add.new.self.cycle lt (subst (λ held. GoesRound held k c.add.new.self.cycle)
    c.loop-i.invariant.0 new.round)
