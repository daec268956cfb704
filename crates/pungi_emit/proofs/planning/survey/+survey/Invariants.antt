use Rattle.std.proofs.Common.{◌≡◌, ◌+◌, ◌*◌, ◌++◌, drop, map, max}
use Rattle.pungi_resolved.specs.ActionView.{action_view, actions_of}
use Rattle.pungi_resolved.specs.declared.action.Action.{size-Action}
use Rattle.pungi_layout.specs.code.Heads.{stmts_marks}
use Rattle.pungi_emit.specs.planning.LabelPlaces.{list_labels, list_starts}
use Rattle.pungi_emit.specs.planning.Plans.{places_of, plans_of}
use Rattle.pungi_layout.specs.code.Sizes.{stmts_size}
use Rattle.pungi_emit.proofs.planning.survey.+survey.Given as goal

abbrev pub decreases-survey_stmt : goal.decreases-survey_stmt
decreases-survey_stmt l = 4 * size-Action l.action.now

abbrev pub decreases-survey_if : goal.decreases-survey_if
decreases-survey_if l = 4 * size-Action l.body.now + 1

abbrev pub decreases-survey_for : goal.decreases-survey_for
decreases-survey_for l = 4 * size-Action l.body.now + 1

abbrev pub decreases-survey_while : goal.decreases-survey_while
decreases-survey_while l = 4 * size-Action l.body.now + 1

abbrev pub decreases-survey_until : goal.decreases-survey_until
decreases-survey_until l = 4 * size-Action l.body.now + 1

abbrev pub decreases-survey_label : goal.decreases-survey_label
decreases-survey_label l = 4 * size-Action l.body.now + 1

abbrev pub decreases-survey_else : goal.decreases-survey_else
decreases-survey_else l = 4 * max (size-Action l.a.now) (size-Action l.b.now) + 1

abbrev pub decreases-survey_switch : goal.decreases-survey_switch
decreases-survey_switch l = 4 * size-Action l.body.now + 3

abbrev pub decreases-survey_choice : goal.decreases-survey_choice
decreases-survey_choice l = 4 * size-Action l.body.now + 2

abbrev pub decreases-survey_skipped : goal.decreases-survey_skipped
decreases-survey_skipped l = 4 * size-Action l.body.now + 1

abbrev pub decreases-survey_switched : goal.decreases-survey_switched
decreases-survey_switched l = 4 * goal.size-survey_switched l + 3

abbrev pub decreases-survey_inner : goal.decreases-survey_inner
decreases-survey_inner l = 4 * goal.size-survey_inner l + 3

abbrev pub decreases-survey_inside : goal.decreases-survey_inside
decreases-survey_inside l = 4 * goal.size-survey_inside l + 2

abbrev pub decreases-survey_list : goal.decreases-survey_list
decreases-survey_list l = 4 * goal.size-survey_list l + 1

abbrev pub invariant-survey_list-loop-action : goal.invariant-survey_list-loop-action
invariant-survey_list-loop-action l = record {
  place : l.place + stmts_size (actions_of (map action_view (drop l.action-index l.list)))
      ≡ l.from + stmts_size (actions_of (map action_view l.list));
  marks :
      l.marks ++ stmts_marks l.place (actions_of (map action_view (drop l.action-index l.list)))
      ≡ l.initial.marks ++ stmts_marks l.from (actions_of (map action_view l.list));
  labels :
      l.labels ++ places_of (list_labels l.place (map action_view (drop l.action-index l.list)))
      ≡ l.initial.labels ++ places_of (list_labels l.from (map action_view l.list));
  starts :
      l.starts ++ list_starts l.place (map action_view (drop l.action-index l.list))
      ≡ l.initial.starts ++ list_starts l.from (map action_view l.list);
  places :
      l.places ++ plans_of l.place (actions_of (map action_view (drop l.action-index l.list)))
      ≡ l.initial.places ++ plans_of l.from (actions_of (map action_view l.list));
}
