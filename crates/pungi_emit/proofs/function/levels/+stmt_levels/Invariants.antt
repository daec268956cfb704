use Rattle.std.proofs.Common.{◌≡◌, ◌≤◌, drop, map}
use Rattle.std.specs.Prelude.{max}
use Rattle.pungi_resolved.specs.ActionView.{action_view, actions_of}
use Rattle.pungi_layout.specs.code.Levels.{stmts_levels}
use Rattle.pungi_layout.specs.code.Sound.{stmts_nodes}
use Rattle.pungi_emit.proofs.function.levels.+stmt_levels.Given as goal

abbrev pub invariant-stmts_levels-loop-action : goal.invariant-stmts_levels-loop-action
invariant-stmts_levels-loop-action l =
    (max l.most (stmts_levels (actions_of (map action_view (drop l.action-index l.list))))
    ≡ stmts_levels (actions_of (map action_view l.list)))
    × (stmts_nodes (actions_of (map action_view (drop l.action-index l.list)))
    ≤ stmts_nodes (actions_of (map action_view l.list)))
