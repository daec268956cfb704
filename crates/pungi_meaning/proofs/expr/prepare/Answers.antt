use Rattle.std.proofs.Common.{◌≡◌, ◌∷◌, OnOk, map, subst, sym}
use Rattle.pungi_resolved.specs.ValueView.{value_view}
use Rattle.pungi_meaning.specs.Machine.{target_of, todos}
use Rattle.pungi_meaning.specs.Todo.{ToArgs}
use Rattle.pungi_meaning.proofs.ListLemmas.{values_listed}
use Rattle.pungi_meaning.proofs.expr.prepare.Goals as goal

pub returns-clause-todos : goal.returns-clause-todos
returns-clause-todos c =
    subst (λ l. OnOk c.do_first.result (todos c.do_first.new.m.tasks.items
    ≡ ToArgs c.args.pos (target_of c.args.target) l 0 ∷ todos c.args.m.now.tasks.items))
    (sym (values_listed (map value_view c.args.args.now))) c.do_first.ensures.todos
