use Rattle.std.proofs.Common.{◌≡◌, ◌+◌, ◌<◌, ◌≤◌, length, drop, get_or, map, sym, ap, ◌∙◌, arith}
use Rattle.std.proofs.lemmas.List.{drop_all}
use Rattle.pungi_resolved.specs.ActionView.{action_view}
use Rattle.pungi_meaning.specs.Work.{block_locals, action_locals, unset_locals}
use Rattle.pungi_meaning.proofs.ListLemmas.{actions_listed}
use Rattle.pungi_meaning.proofs.LocalLemmas.{declared_step}
use Rattle.pungi_meaning.proofs.stmt.unset_block_locals.Goals as goal

pub loop-action-preserved : goal.loop-action-preserved
loop-action-preserved c =
    let xs = c.args.list.now in
    let i = c.loop-action.action-index in
    let x = c.action-item.result in
    let before = c.loop-action.locals in
    let s : i < length xs = omega arith in
    let step = declared_step xs i x before s in
    let same : unset_locals (action_locals (action_view x)) before
    ≡ unset_locals (action_locals (action_view (get_or xs i x))) before =
    ap (λ y. unset_locals (action_locals (action_view y)) before) c.action-item.is
    in
    ap (unset_locals (block_locals (map action_view (drop (i + 1) xs)))) (c.unset_action_locals.ensures ∙ same)
    ∙ sym step ∙ c.loop-action.invariant

pub returns : goal.returns
returns c =
    let xs = c.args.list.now in
    let i = c.loop-action.action-index in
    let s : length xs ≤ i = omega arith in
    ap (λ ys. unset_locals (block_locals (map action_view ys)) c.loop-action.locals) (sym (drop_all i xs s))
    ∙ c.loop-action.invariant
    ∙ ap (λ as'. unset_locals (block_locals as') c.args.locals.now) (sym (actions_listed (map action_view xs)))
