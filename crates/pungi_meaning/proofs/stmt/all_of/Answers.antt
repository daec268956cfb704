use Rattle.std.proofs.Common.{◌≡◌, ◌∷◌, OnOk, map, subst, sym}
use Rattle.pungi_resolved.specs.ActionView.{action_view}
use Rattle.pungi_meaning.specs.Machine.{todos}
use Rattle.pungi_meaning.specs.Todo.{ToRest}
use Rattle.pungi_meaning.proofs.ListLemmas.{actions_listed}
use Rattle.pungi_meaning.proofs.stmt.all_of.Goals as goal

pub returns-clause-todos : goal.returns-clause-todos
returns-clause-todos c =
    subst (λ l. OnOk c.do_first.result (todos c.do_first.new.m.tasks.items
    ≡ ToRest l 0 ∷ todos c.args.m.now.tasks.items)) (sym (actions_listed (map action_view c.args.list.now)))
    c.do_first.ensures.todos
