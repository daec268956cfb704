use Rattle.std.proofs.Common.{◌≡◌, IfOk, map, slice_get, option_map, Some, subst, sym, ap, ◌∙◌}
use Rattle.pungi_resolved.specs.ActionView.{action_view}
use Rattle.pungi_meaning.specs.Machine.{Matches, todos, state_of}
use Rattle.pungi_meaning.specs.Stmts.{next_stmt}
use Rattle.pungi_meaning.proofs.ListLemmas.{mapped_get}
use Rattle.pungi_meaning.proofs.step.next_stmt.Goals as goal

pub returns-in-Some : goal.returns-in-Some
returns-in-Some c =
    let e : slice_get (map action_view c.args.list.now) c.args.i
    ≡ Some (action_view c.in-Some.action.now) = mapped_get action_view c.args.list.now c.args.i
    ∙ ap (option_map action_view) c.in-Some.ensures.0 in
    subst (λ o. IfOk c.go_on.result (λ halt. Matches (next_stmt (map action_view c.args.list.now) c.args.i o
    (todos c.args.m.now.tasks.items) (state_of c.args.m.now)) halt c.go_on.new.m)) (sym e) c.go_on.ensures
