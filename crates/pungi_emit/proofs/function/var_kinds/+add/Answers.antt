use Rattle.std.proofs.Common.{◌+◌, ◌<◌, ◌++◌, length, map, drop, sym, ap, ◌∙◌, arith}
use Rattle.pungi_resolved.specs.ActionView.{action_view, actions_of}
use Rattle.pungi_layout.specs.code.VarKinds.{kind_held, stmt_declared, stmts_declared}
use Rattle.pungi_emit.proofs.code.Lists.{next_one}
use Rattle.pungi_emit.proofs.function.VarKinds.{next_added}
use Rattle.pungi_emit.proofs.function.var_kinds.+add.Goals as goal

pub add_list-loop-action-preserved : goal.add_list-loop-action-preserved
add_list-loop-action-preserved t c =
    let xs = c.args.list.now in
    let i = c.loop-action.action-index in
    let s : i < length xs = omega arith in
    let d = next_one xs i c.action-item.result s c.action-item.is in
    let so_far = c.loop-action.kinds in
    let step = next_added (stmt_declared (action_view c.action-item.result))
    (stmts_declared (actions_of (map action_view (drop (i + 1) xs)))) so_far c.add_stmt.new.kinds
    c.in_ok-add_stmt.ensures in
    sym step ∙ sym (ap (λ ys. so_far ++ map kind_held (stmts_declared (actions_of (map action_view ys)))) d)
    ∙ c.loop-action.invariant
