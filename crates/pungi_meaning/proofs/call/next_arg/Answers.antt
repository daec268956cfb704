use Rattle.std.proofs.Common.{◌≡◌, IfOk, map, slice_get, option_map, Some, subst, sym, ap, ◌∙◌}
use Rattle.pungi_resolved.specs.ValueView.{value_view}
use Rattle.pungi_meaning.specs.Exprs.{next_arg}
use Rattle.pungi_meaning.specs.Machine.{Matches, target_of, todos, state_of}
use Rattle.pungi_meaning.proofs.ListLemmas.{mapped_get}
use Rattle.pungi_meaning.proofs.call.next_arg.Goals as goal

pub returns-in-Some : goal.returns-in-Some
returns-in-Some c =
    let e : slice_get (map value_view c.args.args.now) c.args.i
    ≡ Some (value_view c.in-Some.arg.now) = mapped_get value_view c.args.args.now c.args.i
    ∙ ap (option_map value_view) c.in-Some.ensures.0 in
    subst (λ o. IfOk c.go_on.result (λ halt. Matches (next_arg c.args.choices.now c.args.pos (target_of c.args.target)
    (map value_view c.args.args.now) c.args.i o (todos c.args.m.now.tasks.items) (state_of c.args.m.now)) halt
    c.go_on.new.m)) (sym e) c.go_on.ensures
