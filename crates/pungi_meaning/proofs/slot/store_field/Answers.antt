use Rattle.std.proofs.Common.{List, reverse, IfOk, ap, ◌∙◌, subst}
use Rattle.pungi_base.specs.declared.value.Value.{Value}
use Rattle.pungi_meaning.specs.Exprs.{store_field}
use Rattle.pungi_meaning.specs.Machine.{Matches, state_of, todos}
use Rattle.pungi_meaning.specs.Todo.{Step}
use Rattle.pungi_meaning.specs.Work.{below, top}
use Rattle.pungi_meaning.proofs.SlotLemmas.{field_same}
use Rattle.pungi_meaning.proofs.slot.store_field.Goals as goal

pub returns : goal.returns
returns c =
    let m = c.args.m.now in
    let vs = reverse m.values.items in
    let k = todos m.tasks.items in
    let s = state_of m in
    let stored = λ (v : Value) (xs ys : List Value). store_field c.args.choices.now c.args.pos c.args.kind (top xs)
    c.args.tag c.args.field v (below xs) k (record s { values = ys }) in
    let same = ap (λ (xs : List Value). stored c.take-value.result xs xs) c.take-value.ensures.rest
    ∙ field_same c.args.choices.now c.args.pos c.args.kind (top (below vs)) c.args.tag c.args.field
    c.take-value.result (below (below vs)) (below vs) k s
    ∙ ap (λ (v : Value). stored v (below vs) vs) c.take-value.ensures.value in
    subst (λ (step : Step). IfOk c.store_into_field.result (λ halt. Matches step halt c.store_into_field.new.m)) same
    c.store_into_field.ensures
