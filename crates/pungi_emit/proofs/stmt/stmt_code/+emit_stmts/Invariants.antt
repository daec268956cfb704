use Rattle.std.proofs.Common.{◌≡◌, ◌+◌, ◌*◌, ◌<◌, ◌≤◌, ◌^◌, ◌++◌, length, drop, map, max}
use Rattle.pungi_resolved.specs.ActionView.{action_view, actions_of}
use Rattle.pungi_resolved.specs.declared.action.Action.{size-Action}
use Rattle.pungi_emit.specs.planning.LabelPlaces.{env_of}
use Rattle.pungi_emit.specs.planning.Plans.{plans_of}
use Rattle.pungi_code.specs.Limits.{most_instructions}
use Rattle.pungi_layout.specs.code.Sizes.{stmts_size}
use Rattle.pungi_layout.specs.code.Sound.{AreStmtsSound, stmts_nodes}
use Rattle.pungi_layout.specs.code.StmtCode.{stmts_code}
use Rattle.pungi_emit.proofs.planning.PlanLists.{Left}
use Rattle.pungi_emit.proofs.stmt.stmt_code.+emit_stmts.Given as goal

abbrev pub decreases-emit_stmt : goal.decreases-emit_stmt
decreases-emit_stmt l = 4 * size-Action l.action.now

abbrev pub decreases-emit_if : goal.decreases-emit_if
decreases-emit_if l = 4 * size-Action l.body.now + 1

abbrev pub decreases-emit_else : goal.decreases-emit_else
decreases-emit_else l = 4 * max (size-Action l.a.now) (size-Action l.b.now) + 1

abbrev pub decreases-emit_while : goal.decreases-emit_while
decreases-emit_while l = 4 * size-Action l.body.now + 1

abbrev pub decreases-emit_until : goal.decreases-emit_until
decreases-emit_until l = 4 * size-Action l.body.now + 1

abbrev pub decreases-emit_for : goal.decreases-emit_for
decreases-emit_for l = 4 * size-Action l.body.now + 1

abbrev pub decreases-emit_skipped : goal.decreases-emit_skipped
decreases-emit_skipped l = 4 * size-Action l.body.now + 1

abbrev pub decreases-emit_body : goal.decreases-emit_body
decreases-emit_body l = 4 * size-Action l.body.now + 1

abbrev pub decreases-emit_choice : goal.decreases-emit_choice
decreases-emit_choice l = 4 * size-Action l.body.now + 2

abbrev pub decreases-emit_list : goal.decreases-emit_list
decreases-emit_list l = 4 * goal.size-emit_list l + 1

abbrev pub decreases-emit_inside : goal.decreases-emit_inside
decreases-emit_inside l = 4 * goal.size-emit_inside l + 2

abbrev pub decreases-emit_block : goal.decreases-emit_block
decreases-emit_block l = 4 * goal.size-emit_block l + 3

abbrev pub decreases-emit_switched : goal.decreases-emit_switched
decreases-emit_switched l = 4 * goal.size-emit_switched l + 3

abbrev pub decreases-emit_switch : goal.decreases-emit_switch
decreases-emit_switch l = 4 * goal.size-emit_switch l + 4

abbrev pub invariant-emit_list-loop-action : goal.invariant-emit_list-loop-action
invariant-emit_list-loop-action l = record {
  code :
      l.code ++ stmts_code l.around.locals (env_of l.scope) (length l.code) (actions_of
      (map action_view (drop l.action-index l.list)))
      ≡ l.initial.code ++ stmts_code l.around.locals (env_of l.scope) (length l.initial.code)
      (actions_of (map action_view l.list));
  plan :
      Left (plans_of (length l.code) (actions_of (map action_view (drop l.action-index l.list)))) l.plan.left.now
      (plans_of (length l.initial.code) (actions_of (map action_view l.list))) l.initial.plan.left.now;
  sound : AreStmtsSound l.around.locals (actions_of (map action_view (drop l.action-index l.list)));
  few : stmts_nodes (actions_of (map action_view (drop l.action-index l.list))) < 2 ^ 16;
  long : length l.code + stmts_size (actions_of (map action_view (drop l.action-index l.list))) ≤ most_instructions;
}
