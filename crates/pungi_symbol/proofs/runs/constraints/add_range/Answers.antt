use Rattle.std.proofs.Common.{◌++◌, ◌∷◌, []}
use Rattle.std.proofs.lemmas.List.Elements.{All-push}
use Rattle.pungi_symbol.specs.runs.Numbers.{IsIn}
use Rattle.pungi_symbol.proofs.runs.constraints.add_range.Goals as goal

pub returns-clause-within : goal.returns-clause-within
returns-clause-within c h =
    let before = c.args.constraints.now.items in
    let high = c.in_ok-between.field-0 in
    rw (c.in_ok-push-2.ensures.items, c.in_ok-push.ensures.items) (All-push (IsIn c.args.nodes) (before ++ high ∷ [])
    c.in_ok-between-2.field-0 (All-push (IsIn c.args.nodes) before high h c.in_ok-between.ensures.within)
    c.in_ok-between-2.ensures.within)
