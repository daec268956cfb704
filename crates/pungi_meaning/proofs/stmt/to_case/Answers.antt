use Rattle.std.proofs.Common.{◌≡◌, OnOk, map, subst, sym}
use Rattle.pungi_resolved.specs.ActionView.{action_view}
use Rattle.pungi_meaning.specs.Machine.{todos}
use Rattle.pungi_meaning.specs.Stmts.{enter_at, target}
use Rattle.pungi_meaning.proofs.ListLemmas.{actions_listed}
use Rattle.pungi_meaning.proofs.stmt.to_case.Goals as goal

pub returns-clause-todos : goal.returns-clause-todos
returns-clause-todos c =
    let list = map action_view c.args.list.now in
    let before = todos c.args.m.now.tasks.items in
    subst (λ l. OnOk c.enter_at.result (todos c.enter_at.new.m.tasks.items
    ≡ enter_at l (target c.args.value l) before)) (sym (actions_listed list))
    (subst (λ place. OnOk c.enter_at.result (todos c.enter_at.new.m.tasks.items ≡ enter_at list place before))
    c.target.ensures c.enter_at.ensures.todos)
