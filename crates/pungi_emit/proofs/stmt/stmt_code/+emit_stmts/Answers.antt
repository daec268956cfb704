use Rattle.std.proofs.Common.{◌≡◌, List, ◌+◌, ◌<◌, ◌≤◌, ◌^◌, [], ◌∷◌, ◌++◌, length, map, drop, sym, ap, ◌∙◌, subst}
use Rattle.std.proofs.Common.{arith, append-nil, refl}
use Rattle.std.proofs.lemmas.List.{drop_all, length-map}
use denote.Param.Weighed.{at_most, most}
use Rattle.pungi_resolved.specs.ActionView.{action_view, actions_of, declared_view}
use Rattle.pungi_resolved.specs.declared.action.Action.{Action as Node, size-Action}
use Rattle.pungi_resolved.specs.ValueView.{value_view, optional_view}
use Rattle.pungi_meaning.specs.Run.{nowhere}
use Rattle.pungi_meaning.specs.Work.{block_locals}
use Rattle.pungi_layout.specs.code.Sizes.{expr_size, stmt_size, stmts_size, option_size, test_size}
use Rattle.pungi_emit.specs.planning.LabelPlaces.{list_labels, env_of, list_starts}
use Rattle.pungi_emit.specs.planning.Plans.{places_of, plan_of, plans_of, Begins, switch_from}
use Rattle.pungi_layout.specs.code.Sound.{AreStmtsSound, stmts_nodes}
use Rattle.pungi_layout.specs.code.StmtCode.{unset_code, stmts_code, value_code}
use Rattle.pungi_emit.proofs.code.Lists.{next_one}
use Rattle.pungi_emit.proofs.planning.LabelsFound.{inside}
use Rattle.pungi_emit.proofs.expr.ExprCode.{grown, put_grown}
use Rattle.pungi_layout.proofs.code.StmtLengths.{unset_long, value_long}
use Rattle.pungi_emit.proofs.stmt.Room.{block_is, unset_grown, declare_grown, option_grown, wanted_sound, Room}
use Rattle.pungi_emit.proofs.stmt.Room.{switch_is, cases_are, skipped_size}
use Rattle.pungi_emit.proofs.planning.PlanLists.{begins_as, begins_at, front_begins, front_long, one_place, two_first}
use Rattle.pungi_emit.proofs.planning.PlanLists.{two_second, both_through, Left, left_now, at_last, front_known}
use Rattle.pungi_emit.proofs.planning.PlanLists.{back_known, one_begins, one_through}
use Rattle.pungi_emit.proofs.planning.Plans.{labels_long, labels_known, labels_left, block_plan_is, part_begins}
use Rattle.pungi_emit.proofs.planning.Plans.{part_through, first_begins, second_begins, both_parts_through, next_left}
use Rattle.pungi_emit.proofs.planning.Plans.{loop_begins, loop_through, starts_long, switch_plan_is, skipped_plan_is}
use Rattle.pungi_emit.proofs.stmt.StmtCode.{test_place, stmt_place, else_place, if_laid, else_laid, block_laid}
use Rattle.pungi_emit.proofs.stmt.StmtCode.{next_laid, until_place, for_body, while_laid, until_laid, for_laid}
use Rattle.pungi_emit.proofs.stmt.StmtCode.{skipped_place, switch_place, skipped_laid, switch_laid, skipped_is}
use Rattle.pungi_layout.specs.code.Scopes.{for_head}
use Rattle.pungi_resolved.specs.Actions.{Action, block, switch}
use Rattle.pungi_emit.specs.stmt.Emits.{EmitsStmt}
use Rattle.pungi_emit.proofs.stmt.Actions.{block_view, block_size}
use Rattle.pungi_emit.proofs.stmt.stmt_code.+emit_stmts.Goals as goal

pub emit_if-emit_stmt-requires : goal.emit_if-emit_stmt-requires
emit_if-emit_stmt-requires t c =
    let v = value_view c.args.c.now in
    let a = action_view c.args.body.now in
    let at = length c.args.code.now + expr_size v + 1 in
    let n = test_place c.args.around.locals (env_of c.args.scope.now) v at c.next_planned-other.result
    c.args.code.now c.emit_test.new.code c.in_ok-emit_test.ensures in (
      omega arith,
      (
        part_begins a at (length c.emit_test.new.code) (at + stmt_size a) c.next_planned-other.result
            c.args.plan.now.left.now c.next_planned-other.new.plan.left.now c.requires.plan c.next_planned-other.ensures
            n,
        (c.requires.sound.1, (omega (arith, c.requires.few), omega (arith, n, c.requires.long))),
      ),
    )

pub emit_if-returns : goal.emit_if-returns
emit_if-returns t c =
    let v = value_view c.args.c.now in
    let a = action_view c.args.body.now in
    let at = length c.args.code.now + expr_size v + 1 in
    let o = one_place (plan_of at a) c.args.plan.now.left.now c.next_planned-other.new.plan.left.now
    (at + stmt_size a) c.next_planned-other.result c.requires.plan c.next_planned-other.ensures in
    let n = test_place c.args.around.locals (env_of c.args.scope.now) v at c.next_planned-other.result
    c.args.code.now c.emit_test.new.code c.in_ok-emit_test.ensures in
    record {
      code = if_laid c.args.around.locals (env_of c.args.scope.now) nowhere v a c.next_planned-other.result
          c.args.code.now c.emit_test.new.code c.emit_stmt.new.code c.in_ok-emit_test.ensures
          c.in_ok-emit_stmt.ensures.code o;
      plan = part_through a at (length c.emit_test.new.code) (at + stmt_size a) c.next_planned-other.result
          c.args.plan.now.left.now c.next_planned-other.new.plan.left.now c.emit_stmt.new.plan.left.now
          c.requires.plan c.next_planned-other.ensures n c.in_ok-emit_stmt.ensures.plan;
    }

pub emit_else-emit_stmt-requires : goal.emit_else-emit_stmt-requires
emit_else-emit_stmt-requires t c =
    let v = value_view c.args.c.now in
    let a = action_view c.args.a.now in
    let b = action_view c.args.b.now in
    let at = length c.args.code.now + expr_size v + 1 in
    let bt = at + stmt_size a + 1 in
    let n = test_place c.args.around.locals (env_of c.args.scope.now) v at c.next_planned-other.result
    c.args.code.now c.emit_test.new.code c.in_ok-emit_test.ensures in (
      omega arith,
      (
        first_begins a b at bt (length c.emit_test.new.code) bt (bt + stmt_size b)
            c.next_planned-other.result c.next_planned-end.result c.args.plan.now.left.now
            c.next_planned-other.new.plan.left.now c.next_planned-end.new.plan.left.now c.requires.plan
            c.next_planned-other.ensures c.next_planned-end.ensures n,
        (c.requires.sound.1, (omega (arith, c.requires.few), omega (arith, n, c.requires.long))),
      ),
    )

pub emit_else-emit_stmt-requires-2 : goal.emit_else-emit_stmt-requires-2
emit_else-emit_stmt-requires-2 t c =
    let v = value_view c.args.c.now in
    let a = action_view c.args.a.now in
    let b = action_view c.args.b.now in
    let at = length c.args.code.now + expr_size v + 1 in
    let bt = at + stmt_size a + 1 in
    let n = test_place c.args.around.locals (env_of c.args.scope.now) v at c.next_planned-other.result
    c.args.code.now c.emit_test.new.code c.in_ok-emit_test.ensures in
    let m = else_place c.args.around.locals (env_of c.args.scope.now) c.args.pos v a c.next_planned-other.result
    c.next_planned-end.result c.args.code.now c.emit_test.new.code c.emit_stmt.new.code c.put.new.code
    c.in_ok-emit_test.ensures c.in_ok-emit_stmt.ensures.code c.in_ok-put.ensures in (
      omega arith,
      (
        second_begins a b at bt (length c.emit_test.new.code) (length c.put.new.code) bt
            (bt + stmt_size b) c.next_planned-other.result c.next_planned-end.result c.args.plan.now.left.now
            c.next_planned-other.new.plan.left.now c.next_planned-end.new.plan.left.now c.emit_stmt.new.plan.left.now
            c.requires.plan c.next_planned-other.ensures c.next_planned-end.ensures n c.in_ok-emit_stmt.ensures.plan m,
        (c.requires.sound.2, (omega (arith, c.requires.few), omega (arith, m, c.requires.long))),
      ),
    )

pub emit_else-returns : goal.emit_else-returns
emit_else-returns t c =
    let v = value_view c.args.c.now in
    let a = action_view c.args.a.now in
    let b = action_view c.args.b.now in
    let at = length c.args.code.now + expr_size v + 1 in
    let bt = at + stmt_size a + 1 in
    let both = plan_of at a ++ plan_of bt b in
    let o = two_first both c.args.plan.now.left.now c.next_planned-other.new.plan.left.now bt (bt + stmt_size b)
    c.next_planned-other.result c.requires.plan c.next_planned-other.ensures in
    let q = two_second both c.args.plan.now.left.now c.next_planned-other.new.plan.left.now
    c.next_planned-end.new.plan.left.now bt (bt + stmt_size b) c.next_planned-other.result
    c.next_planned-end.result c.requires.plan c.next_planned-other.ensures c.next_planned-end.ensures in
    let n = test_place c.args.around.locals (env_of c.args.scope.now) v at c.next_planned-other.result
    c.args.code.now c.emit_test.new.code c.in_ok-emit_test.ensures in
    let m = else_place c.args.around.locals (env_of c.args.scope.now) c.args.pos v a c.next_planned-other.result
    c.next_planned-end.result c.args.code.now c.emit_test.new.code c.emit_stmt.new.code c.put.new.code
    c.in_ok-emit_test.ensures c.in_ok-emit_stmt.ensures.code c.in_ok-put.ensures in
    record {
      code = else_laid c.args.around.locals (env_of c.args.scope.now) c.args.pos v a b c.next_planned-other.result
          c.next_planned-end.result c.args.code.now c.emit_test.new.code c.emit_stmt.new.code c.put.new.code
          c.emit_stmt-2.new.code c.in_ok-emit_test.ensures c.in_ok-emit_stmt.ensures.code c.in_ok-put.ensures o
          c.in_ok-emit_stmt-2.ensures.code q;
      plan = both_parts_through a b at bt (length c.emit_test.new.code) (length c.put.new.code) bt
          (bt + stmt_size b) c.next_planned-other.result c.next_planned-end.result c.args.plan.now.left.now
          c.next_planned-other.new.plan.left.now c.next_planned-end.new.plan.left.now c.emit_stmt.new.plan.left.now
          c.emit_stmt-2.new.plan.left.now c.requires.plan c.next_planned-other.ensures c.next_planned-end.ensures n
          c.in_ok-emit_stmt.ensures.plan m c.in_ok-emit_stmt-2.ensures.plan;
    }

pub emit_list-emit_stmt-requires : goal.emit_list-emit_stmt-requires
emit_list-emit_stmt-requires t c =
    let xs = c.args.list.now in
    let i = c.loop-action.action-index in
    let s : i < length xs = omega arith in
    let d = next_one xs i c.action-item.result s c.action-item.is in
    let v = action_view c.action-item.result in
    let rest = actions_of (map action_view (drop (i + 1) xs)) in
    let c0 = c.loop-action.code in
    let l0 = c.loop-action.plan.left.now in
    let first = c.args.plan.now.left.now in
    let all = plans_of (length c.args.code.now) (actions_of (map action_view xs)) in
    let P : List Node → Type 0 = λ ys. Left (plans_of (length c0) (actions_of (map action_view ys))) l0 all first in
    let begun : Left (plan_of (length c0) v ++ plans_of (length c0 + stmt_size v) rest) l0 all first = subst P d
    c.loop-action.invariant.plan in
    let nl = c.args.around.locals in
    let item = c.action-item.result in
    let S : List Node → Type 0 = λ ys. AreStmtsSound nl (actions_of (map action_view ys)) in
    let F : List Node → Type 0 = λ ys. stmts_nodes (actions_of (map action_view ys)) < 2 ^ 16 in
    let L : List Node → Type 0 = λ ys. length c0 + stmts_size (actions_of (map action_view ys)) ≤ 2 ^ 14 in
    let sound : S (item ∷ drop (i + 1) xs) = subst S d c.loop-action.invariant.sound in
    let few : F (item ∷ drop (i + 1) xs) = subst F d c.loop-action.invariant.few in
    let long : L (item ∷ drop (i + 1) xs) = subst L d c.loop-action.invariant.long in
    let inner = plan_of (length c0) v ++ plans_of (length c0 + stmt_size v) rest in (
      omega (arith, at_most size-Action xs i c.action-item.result s, ap size-Action c.action-item.is),
      (
        front_begins
            (plan_of (length c0) v) (plans_of (length c0 + stmt_size v) rest) l0 (left_now inner l0 all first begun),
        (sound.0, (omega (arith, few), omega (arith, long))),
      ),
    )

pub emit_list-loop-action-preserved : goal.emit_list-loop-action-preserved
emit_list-loop-action-preserved t c =
    let xs = c.args.list.now in
    let i = c.loop-action.action-index in
    let s : i < length xs = omega arith in
    let d = next_one xs i c.action-item.result s c.action-item.is in
    let v = action_view c.action-item.result in
    let rest = actions_of (map action_view (drop (i + 1) xs)) in
    let c0 = c.loop-action.code in
    let l0 = c.loop-action.plan.left.now in
    let first = c.args.plan.now.left.now in
    let all = plans_of (length c.args.code.now) (actions_of (map action_view xs)) in
    let P : List Node → Type 0 = λ ys. Left (plans_of (length c0) (actions_of (map action_view ys))) l0 all first in
    let begun : Left (plan_of (length c0) v ++ plans_of (length c0 + stmt_size v) rest) l0 all first = subst P d
    c.loop-action.invariant.plan in
    let nl = c.args.around.locals in
    let env = env_of c.args.scope.now in
    let c1 = c.emit_stmt.new.code in
    let e = c.in_ok-emit_stmt.ensures.code in
    let item = c.action-item.result in
    let S : List Node → Type 0 = λ ys. AreStmtsSound nl (actions_of (map action_view ys)) in
    let F : List Node → Type 0 = λ ys. stmts_nodes (actions_of (map action_view ys)) < 2 ^ 16 in
    let L : List Node → Type 0 = λ ys. length c0 + stmts_size (actions_of (map action_view ys)) ≤ 2 ^ 14 in
    let sound : S (item ∷ drop (i + 1) xs) = subst S d c.loop-action.invariant.sound in
    let few : F (item ∷ drop (i + 1) xs) = subst F d c.loop-action.invariant.few in
    let long : L (item ∷ drop (i + 1) xs) = subst L d c.loop-action.invariant.long in
    let n = stmt_place nl env env v c0 c1 e in
    record {
      code = sym (next_laid nl env v rest c0 c1 e) ∙ sym (ap (λ ys. c0
          ++ stmts_code nl env (length c0) (actions_of (map action_view ys))) d) ∙ c.loop-action.invariant.code;
      plan = next_left v rest (length c0) (length c1) l0 c.emit_stmt.new.plan.left.now all first begun
          c.in_ok-emit_stmt.ensures.plan n;
      sound = sound.1;
      few = omega (arith, few);
      long = omega (arith, long, n);
    }

pub emit_list-returns : goal.emit_list-returns
emit_list-returns t c =
    let xs = c.args.list.now in
    let i = c.loop-action.action-index in
    let nl = c.args.around.locals in
    let env = env_of c.args.scope.now in
    let last = c.loop-action.code in
    let now = c.loop-action.plan.left.now in
    let first = c.args.plan.now.left.now in
    let whole = actions_of (map action_view xs) in
    let lines = c.args.code.now ++ stmts_code nl env (length c.args.code.now) whole in
    let all = plans_of (length c.args.code.now) whole in
    let C : List Node → Type 0 = λ ys. last ++ stmts_code nl env (length last) (actions_of (map action_view ys))
    ≡ lines in
    let P : List Node → Type 0 = λ ys. Left (plans_of (length last) (actions_of (map action_view ys))) now all first in
    let done : drop i xs ≡ [] = drop_all i xs (omega arith) in
    record {
      code = sym (append-nil last) ∙ subst C done c.loop-action.invariant.code;
      plan = at_last now all first (subst P done c.loop-action.invariant.plan);
    }

pub emit_inside-returns : goal.emit_inside-returns
emit_inside-returns t c =
    let list = map action_view c.args.list.now in
    let pc = length c.args.code.now in
    record {
      code = c.in_ok-emit_list.ensures.code ∙ ap (λ e. c.args.code.now
          ++ stmts_code c.args.around.locals e pc (actions_of list)) (inside (env_of c.args.scope.now) pc list
          c.args.own.now c.requires.own);
      plan = c.in_ok-emit_list.ensures.plan;
    }

pub emit_block-plan_labels-requires : goal.emit_block-plan_labels-requires
emit_block-plan_labels-requires t c =
    let list = map action_view c.args.list.now in
    let c0 = c.args.code.now in
    let l0 = c.args.plan.now.left.now in
    let from = length c0 + length (block_locals list) in
    let front = places_of (list_labels from list) in
    let inner = plans_of from (actions_of list) in
    let same = block_plan_is c.args.pos nowhere list (length c0) in
    let begun : Begins (front ++ inner) l0 = begins_as _ (front ++ inner) l0 same c.requires.plan in
    let h = front_long front inner l0 begun in
    let k = labels_long list from in
    omega (arith, h, k)

pub emit_block-emit_inside-requires : goal.emit_block-emit_inside-requires
emit_block-emit_inside-requires t c =
    let list = map action_view c.args.list.now in
    let c0 = c.args.code.now in
    let l0 = c.args.plan.now.left.now in
    let from = length c0 + length (block_locals list) in
    let front = places_of (list_labels from list) in
    let inner = plans_of from (actions_of list) in
    let same = block_plan_is c.args.pos nowhere list (length c0) in
    let begun : Begins (front ++ inner) l0 = begins_as _ (front ++ inner) l0 same c.requires.plan in
    let own = c.in_ok-own.own.items in
    let l1 = c.plan_labels.new.plan.left.now in
    let c1 = c.emit_unsets.new.code in
    let known = labels_known own list from inner l0 l1 begun c.in_ok-own.ensures.places c.in_ok-own.ensures.names in
    let n : length c1 ≡ from = grown c0 c1 (unset_code c.args.pos (block_locals list)) (length (block_locals list))
    c.in_ok-emit_unsets.ensures (unset_long (block_locals list) c.args.pos) in
    let plan = begins_at (λ i. plans_of i (actions_of list)) from (length c1) l1
    (labels_left own list from inner l0 l1 begun c.in_ok-own.ensures.places known) n in (
      omega arith,
      (
        plan,
        (
          c.as_slice.ensures.value ∙ known ∙ ap (λ i. list_labels i list) (sym n),
          (
            c.requires.sound,
            (
              omega (arith, c.requires.few),
              omega
                  (arith, n, block_is c.args.pos nowhere list, c.requires.long),
            ),
          ),
        ),
      ),
    )

pub emit_block-returns : goal.emit_block-returns
emit_block-returns t c =
    let list = map action_view c.args.list.now in
    let c0 = c.args.code.now in
    let l0 = c.args.plan.now.left.now in
    let from = length c0 + length (block_locals list) in
    let front = places_of (list_labels from list) in
    let inner = plans_of from (actions_of list) in
    let same = block_plan_is c.args.pos nowhere list (length c0) in
    let begun : Begins (front ++ inner) l0 = begins_as _ (front ++ inner) l0 same c.requires.plan in
    let own = c.in_ok-own.own.items in
    let l1 = c.plan_labels.new.plan.left.now in
    let c1 = c.emit_unsets.new.code in
    let known = labels_known own list from inner l0 l1 begun c.in_ok-own.ensures.places c.in_ok-own.ensures.names in
    let n : length c1 ≡ from = grown c0 c1 (unset_code c.args.pos (block_locals list)) (length (block_locals list))
    c.in_ok-emit_unsets.ensures (unset_long (block_locals list) c.args.pos) in
    let l2 = c.emit_inside.new.plan.left.now in
    let s = c.in_ok-own.ensures.places ∙ ap (λ ms. places_of ms ++ l1) known in
    let u = c.in_ok-emit_inside.ensures.plan ∙ ap (λ i. plans_of i (actions_of list) ++ l2) n in
    record {
      code = block_laid c.args.around.locals (env_of c.args.scope.now) c.args.pos nowhere
          (map action_view c.args.list.now) c.args.code.now c.emit_unsets.new.code c.emit_inside.new.code
          c.in_ok-emit_unsets.ensures c.in_ok-emit_inside.ensures.code;
      plan = both_through front inner l0 l1 l2 s u ∙ ap (λ x. x ++ l2) (sym same);
    }

pub emit_while-emit_stmt-requires : goal.emit_while-emit_stmt-requires
emit_while-emit_stmt-requires t c =
    let v = value_view c.args.c.now in
    let a = action_view c.args.body.now in
    let go = length c.args.code.now + (expr_size v + 1) in
    let k = test_place c.args.around.locals (env_of c.args.scope.now) v
    (length c.args.code.now + expr_size v + 1) (c.next_planned-again.result + 1) c.args.code.now c.emit_test.new.code
    c.in_ok-emit_test.ensures in
    let n : length c.emit_test.new.code ≡ go = omega (arith, k) in (
      omega arith,
      (
        part_begins a go (length c.emit_test.new.code) (go + stmt_size a) c.next_planned-again.result
            c.args.plan.now.left.now c.next_planned-again.new.plan.left.now c.requires.plan c.next_planned-again.ensures
            n,
        (c.requires.sound.1, (omega (arith, c.requires.few), omega (arith, n, c.requires.long))),
      ),
    )

pub emit_while-returns : goal.emit_while-returns
emit_while-returns t c =
    let v = value_view c.args.c.now in
    let a = action_view c.args.body.now in
    let go = length c.args.code.now + (expr_size v + 1) in
    let o = one_place (plan_of go a) c.args.plan.now.left.now c.next_planned-again.new.plan.left.now
    (go + stmt_size a) c.next_planned-again.result c.requires.plan c.next_planned-again.ensures in
    let k = test_place c.args.around.locals (env_of c.args.scope.now) v
    (length c.args.code.now + expr_size v + 1) (c.next_planned-again.result + 1) c.args.code.now c.emit_test.new.code
    c.in_ok-emit_test.ensures in
    let n : length c.emit_test.new.code ≡ go = omega (arith, k) in
    record {
      code = while_laid c.args.around.locals (env_of c.args.scope.now) c.args.pos v a c.next_place-head.result
          c.next_planned-again.result (c.next_planned-again.result + 1) c.args.code.now c.emit_test.new.code
          c.emit_stmt.new.code
          c.put.new.code c.next_place-head.ensures refl c.in_ok-emit_test.ensures
          c.in_ok-emit_stmt.ensures.code o c.in_ok-put.ensures;
      plan = part_through a go (length c.emit_test.new.code) (go + stmt_size a) c.next_planned-again.result
          c.args.plan.now.left.now c.next_planned-again.new.plan.left.now c.emit_stmt.new.plan.left.now
          c.requires.plan c.next_planned-again.ensures n c.in_ok-emit_stmt.ensures.plan;
    }

pub emit_until-emit_stmt-requires : goal.emit_until-emit_stmt-requires
emit_until-emit_stmt-requires t c =
    let v = value_view c.args.c.now in
    let a = action_view c.args.body.now in
    let go = length c.args.code.now + 1 + (expr_size v + 1) in
    let n = until_place c.args.around.locals (env_of c.args.scope.now) c.args.pos v c.next_planned-go.result
    (c.next_planned-again.result + 1) c.args.code.now c.put.new.code c.emit_test.new.code c.in_ok-put.ensures
    c.in_ok-emit_test.ensures in (
      omega arith,
      (
        loop_begins a go (length c.emit_test.new.code) go (go + stmt_size a) c.next_planned-go.result
            c.next_planned-again.result c.args.plan.now.left.now c.next_planned-go.new.plan.left.now
            c.next_planned-again.new.plan.left.now c.requires.plan c.next_planned-go.ensures
            c.next_planned-again.ensures
            n,
        (c.requires.sound.1, (omega (arith, c.requires.few), omega (arith, n, c.requires.long))),
      ),
    )

pub emit_until-returns : goal.emit_until-returns
emit_until-returns t c =
    let v = value_view c.args.c.now in
    let a = action_view c.args.body.now in
    let go = length c.args.code.now + 1 + (expr_size v + 1) in
    let o = two_first (plan_of go a) c.args.plan.now.left.now c.next_planned-go.new.plan.left.now go
    (go + stmt_size a) c.next_planned-go.result c.requires.plan c.next_planned-go.ensures in
    let q = two_second (plan_of go a) c.args.plan.now.left.now c.next_planned-go.new.plan.left.now
    c.next_planned-again.new.plan.left.now go (go + stmt_size a) c.next_planned-go.result
    c.next_planned-again.result c.requires.plan c.next_planned-go.ensures c.next_planned-again.ensures in
    let n = until_place c.args.around.locals (env_of c.args.scope.now) c.args.pos v c.next_planned-go.result
    (c.next_planned-again.result + 1) c.args.code.now c.put.new.code c.emit_test.new.code c.in_ok-put.ensures
    c.in_ok-emit_test.ensures in
    record {
      code = until_laid c.args.around.locals (env_of c.args.scope.now) c.args.pos v a c.next_place-head.result
          c.next_planned-go.result c.next_planned-again.result (c.next_planned-again.result + 1) c.args.code.now
          c.put.new.code
          c.emit_test.new.code c.emit_stmt.new.code c.put-2.new.code refl c.in_ok-put.ensures
          c.next_place-head.ensures c.in_ok-emit_test.ensures o c.in_ok-emit_stmt.ensures.code q
          c.in_ok-put-2.ensures;
      plan = loop_through a go (length c.emit_test.new.code) go (go + stmt_size a) c.next_planned-go.result
          c.next_planned-again.result c.args.plan.now.left.now c.next_planned-go.new.plan.left.now
          c.next_planned-again.new.plan.left.now c.emit_stmt.new.plan.left.now c.requires.plan
          c.next_planned-go.ensures c.next_planned-again.ensures n c.in_ok-emit_stmt.ensures.plan;
    }

pub emit_for-emit_stmt-requires : goal.emit_for-emit_stmt-requires
emit_for-emit_stmt-requires t c =
    let rs = map declared_view c.args.reached.now in
    let u = optional_view c.args.first.now in
    let v = optional_view c.args.c.now in
    let w = optional_view c.args.last.now in
    let a = action_view c.args.body.now in
    let go = for_head (length c.args.code.now) rs u + test_size v in
    let last = go + stmt_size a in
    let n = for_body c.args.around.locals (env_of c.args.scope.now) c.args.pos rs u v c.next_planned-end.result
    c.args.code.now c.emit_unset.new.code c.emit_declared.new.code c.emit_option.new.code c.emit_tested.new.code
    c.in_ok-emit_unset.ensures c.in_ok-emit_declared.ensures c.in_ok-emit_option.ensures
    c.in_ok-emit_tested.ensures in (
      omega arith,
      (
        loop_begins a go (length c.emit_tested.new.code) last (last + option_size w + 1)
            c.next_planned-again.result c.next_planned-end.result c.args.plan.now.left.now
            c.next_planned-again.new.plan.left.now c.next_planned-end.new.plan.left.now c.requires.plan
            c.next_planned-again.ensures c.next_planned-end.ensures n,
        (c.requires.sound.4, (omega (arith, c.requires.few), omega (arith, n, c.requires.long))),
      ),
    )

pub emit_for-returns : goal.emit_for-returns
emit_for-returns t c =
    let rs = map declared_view c.args.reached.now in
    let u = optional_view c.args.first.now in
    let v = optional_view c.args.c.now in
    let w = optional_view c.args.last.now in
    let a = action_view c.args.body.now in
    let go = for_head (length c.args.code.now) rs u + test_size v in
    let last = go + stmt_size a in
    let o = two_first (plan_of go a) c.args.plan.now.left.now c.next_planned-again.new.plan.left.now last
    (last + option_size w + 1) c.next_planned-again.result c.requires.plan c.next_planned-again.ensures in
    let q = two_second (plan_of go a) c.args.plan.now.left.now c.next_planned-again.new.plan.left.now
    c.next_planned-end.new.plan.left.now last (last + option_size w + 1) c.next_planned-again.result
    c.next_planned-end.result c.requires.plan c.next_planned-again.ensures c.next_planned-end.ensures in
    let n = for_body c.args.around.locals (env_of c.args.scope.now) c.args.pos rs u v c.next_planned-end.result
    c.args.code.now c.emit_unset.new.code c.emit_declared.new.code c.emit_option.new.code c.emit_tested.new.code
    c.in_ok-emit_unset.ensures c.in_ok-emit_declared.ensures c.in_ok-emit_option.ensures
    c.in_ok-emit_tested.ensures in
    record {
      code = for_laid c.args.around.locals (env_of c.args.scope.now) c.args.pos rs u v w a c.next_place-head.result
          c.next_planned-again.result c.next_planned-end.result c.args.code.now c.emit_unset.new.code
          c.emit_declared.new.code c.emit_option.new.code c.emit_tested.new.code c.emit_stmt.new.code
          c.emit_option-2.new.code c.put.new.code c.in_ok-emit_unset.ensures c.in_ok-emit_declared.ensures
          c.in_ok-emit_option.ensures c.next_place-head.ensures c.in_ok-emit_tested.ensures
          c.in_ok-emit_stmt.ensures.code o c.in_ok-emit_option-2.ensures c.in_ok-put.ensures q;
      plan = loop_through a go (length c.emit_tested.new.code) last (last + option_size w + 1)
          c.next_planned-again.result c.next_planned-end.result c.args.plan.now.left.now
          c.next_planned-again.new.plan.left.now c.next_planned-end.new.plan.left.now c.emit_stmt.new.plan.left.now
          c.requires.plan c.next_planned-again.ensures c.next_planned-end.ensures n c.in_ok-emit_stmt.ensures.plan;
    }

pub emit_until-next_place-head-requires : goal.emit_until-next_place-head-requires
emit_until-next_place-head-requires t c =
    let n = put_grown _ c.args.code.now c.put.new.code c.in_ok-put.ensures in omega (arith, n, c.requires.long)

pub emit_until-emit_test-requires : goal.emit_until-emit_test-requires
emit_until-emit_test-requires t c =
    let n = put_grown _ c.args.code.now c.put.new.code c.in_ok-put.ensures in
    record {
      sound = c.requires.sound.0.1;
      few = omega (arith, c.requires.few);
      long = omega
          (arith, n, c.requires.long);
    }

pub emit_for-emit_declared-requires : goal.emit_for-emit_declared-requires
emit_for-emit_declared-requires t c =
    let rs = map declared_view c.args.reached.now in
    let n = unset_grown c.args.pos rs c.args.code.now c.emit_unset.new.code c.in_ok-emit_unset.ensures in
    record { sound = c.requires.sound.0; few = omega (arith, c.requires.few); long = omega (arith, n, c.requires.long) }

pub emit_for-emit_option-requires : goal.emit_for-emit_option-requires
emit_for-emit_option-requires t c =
    let nl = c.args.around.locals in
    let rs = map declared_view c.args.reached.now in
    let n = unset_grown c.args.pos rs c.args.code.now c.emit_unset.new.code c.in_ok-emit_unset.ensures in
    let m = declare_grown nl rs c.emit_unset.new.code c.emit_declared.new.code c.in_ok-emit_declared.ensures in
    record {
      sound = c.requires.sound.1;
      few = omega (arith, c.requires.few);
      long = omega
          (arith, n, m, c.requires.long);
    }

pub emit_for-next_place-head-requires : goal.emit_for-next_place-head-requires
emit_for-next_place-head-requires t c =
    let nl = c.args.around.locals in
    let rs = map declared_view c.args.reached.now in
    let n = unset_grown c.args.pos rs c.args.code.now c.emit_unset.new.code c.in_ok-emit_unset.ensures in
    let m = declare_grown nl rs c.emit_unset.new.code c.emit_declared.new.code c.in_ok-emit_declared.ensures in
    let k = option_grown nl (optional_view c.args.first.now) c.emit_declared.new.code c.emit_option.new.code
    c.in_ok-emit_option.ensures in
    omega (arith, n, m, k, c.requires.long)

pub emit_for-emit_tested-requires : goal.emit_for-emit_tested-requires
emit_for-emit_tested-requires t c =
    let nl = c.args.around.locals in
    let rs = map declared_view c.args.reached.now in
    let n = unset_grown c.args.pos rs c.args.code.now c.emit_unset.new.code c.in_ok-emit_unset.ensures in
    let m = declare_grown nl rs c.emit_unset.new.code c.emit_declared.new.code c.in_ok-emit_declared.ensures in
    let k = option_grown nl (optional_view c.args.first.now) c.emit_declared.new.code c.emit_option.new.code
    c.in_ok-emit_option.ensures in record {
      sound = wanted_sound nl (optional_view c.args.c.now) c.requires.sound.2;
      few = omega (arith, c.requires.few);
      long = omega (arith, n, m, k, c.requires.long);
    }

pub emit_for-emit_option-requires-2 : goal.emit_for-emit_option-requires-2
emit_for-emit_option-requires-2 t c =
    let nl = c.args.around.locals in
    let env = env_of c.args.scope.now in
    let n = for_body nl env c.args.pos (map declared_view c.args.reached.now) (optional_view c.args.first.now)
    (optional_view c.args.c.now) c.next_planned-end.result c.args.code.now c.emit_unset.new.code
    c.emit_declared.new.code c.emit_option.new.code c.emit_tested.new.code c.in_ok-emit_unset.ensures
    c.in_ok-emit_declared.ensures c.in_ok-emit_option.ensures c.in_ok-emit_tested.ensures in
    let m = stmt_place nl env _ (action_view c.args.body.now) c.emit_tested.new.code c.emit_stmt.new.code
    c.in_ok-emit_stmt.ensures.code in
    record {
      sound = c.requires.sound.3;
      few = omega (arith, c.requires.few);
      long = omega
          (arith, n, m, c.requires.long);
    }

pub emit_switched-emit_cases-requires : goal.emit_switched-emit_cases-requires
emit_switched-emit_cases-requires t c =
    let list = map action_view c.args.list.now in
    let v = value_view c.args.node.now in
    let from = switch_from (length c.args.code.now + expr_size v) list in
    let n1 = grown c.args.code.now c.emit_alone.new.code
    (value_code c.args.around.locals (length c.args.code.now) v) (expr_size v) c.in_ok-value.ensures.code
    (value_long v c.args.around.locals (length c.args.code.now)) in
    let n2 = grown c.emit_alone.new.code c.emit_unsets.new.code (unset_code c.args.pos (block_locals list))
    (length (block_locals list)) c.in_ok-emit_unsets.ensures (unset_long (block_locals list) c.args.pos) in
    let m = cases_are list from c.args.starts.now c.requires.starts in
    record {
      starts = sym (length-map c.args.list.now action_view) ∙ sym (starts_long list from)
          ∙ sym (ap length c.requires.starts);
      long = omega (arith, n1, n2, m, switch_is c.args.pos nowhere nowhere v list, c.requires.long);
    }

pub emit_switched-default_or-other-requires : goal.emit_switched-default_or-other-requires
emit_switched-default_or-other-requires t c =
    let list = map action_view c.args.list.now in
    let from = switch_from (length c.args.code.now + expr_size (value_view c.args.node.now)) list in
    sym (length-map c.args.list.now action_view) ∙ sym (starts_long list from) ∙ sym (ap length c.requires.starts)

pub emit_switched-emit_inside-requires : goal.emit_switched-emit_inside-requires
emit_switched-emit_inside-requires t c =
    let v = value_view c.args.node.now in
    let list = map action_view c.args.list.now in
    let from = switch_from (length c.args.code.now + expr_size v) list in
    let n = switch_place c.args.around.locals (env_of c.args.scope.now) c.args.pos v list c.in_ok-value.value
    c.temp_in-outcome.result c.args.starts.now _ c.args.code.now c.emit_alone.new.code c.emit_unsets.new.code
    c.emit_cases.new.code c.put.new.code c.in_ok-value.ensures.code c.in_ok-emit_unsets.ensures
    c.in_ok-emit_cases.ensures c.in_ok-put.ensures c.requires.starts in
    let plan = begins_at (λ i. plans_of i (actions_of list)) from (length c.put.new.code) c.args.plan.now.left.now
    c.requires.plan n in (
      omega arith,
      (
        plan,
        (
          c.requires.own ∙ ap (λ i. list_labels i list) (sym n),
          (
            c.requires.sound.1,
            (
              omega (arith, c.requires.few),
              omega
                  (arith, n, switch_is c.args.pos nowhere nowhere v list, c.requires.long),
            ),
          ),
        ),
      ),
    )

pub emit_switched-returns : goal.emit_switched-returns
emit_switched-returns t c =
    let v = value_view c.args.node.now in
    let list = map action_view c.args.list.now in
    let e4 = rw c.default_or-other.ensures at c.in_ok-put.ensures in
    let from = switch_from (length c.args.code.now + expr_size v) list in
    let n = switch_place c.args.around.locals (env_of c.args.scope.now) c.args.pos v list c.in_ok-value.value
    c.temp_in-outcome.result c.args.starts.now _ c.args.code.now c.emit_alone.new.code c.emit_unsets.new.code
    c.emit_cases.new.code c.put.new.code c.in_ok-value.ensures.code c.in_ok-emit_unsets.ensures
    c.in_ok-emit_cases.ensures c.in_ok-put.ensures c.requires.starts in
    record {
      code = switch_laid c.args.around.locals (env_of c.args.scope.now) c.args.pos nowhere nowhere v list
          c.in_ok-value.value c.temp_in-outcome.result c.args.end c.args.starts.now c.args.code.now
          c.emit_alone.new.code c.emit_unsets.new.code c.emit_cases.new.code c.put.new.code c.emit_inside.new.code
          c.in_ok-value.ensures.var c.temp_in-outcome.ensures c.in_ok-value.ensures.code c.in_ok-emit_unsets.ensures
          c.in_ok-emit_cases.ensures e4 c.in_ok-emit_inside.ensures.code c.requires.starts c.requires.end;
      plan = c.in_ok-emit_inside.ensures.plan ∙ ap (λ i. plans_of i (actions_of list)
          ++ c.emit_inside.new.plan.left.now) n;
    }

pub emit_switch-planned_all-starts-requires : goal.emit_switch-planned_all-starts-requires
emit_switch-planned_all-starts-requires t c =
    let list = map action_view c.args.list.now in
    let place = length c.args.code.now + expr_size (value_view c.args.node.now) in
    let from = switch_from place list in
    let last = from + stmts_size (actions_of list) in
    let begin = list_starts from list in
    let front = places_of (list_labels from list) in
    let inner = plans_of from (actions_of list) in
    let l0 = c.args.plan.now.left.now in
    let l1 = c.next_planned-end.new.plan.left.now in
    let same = switch_plan_is nowhere nowhere list place in
    let whole : Begins (last ∷ (begin ++ (front ++ inner))) l0 = begins_as _ (last ∷ (begin ++ (front ++ inner))) l0
    same c.requires.plan in
    let b1 = one_begins (begin ++ (front ++ inner)) l0 l1 last c.next_planned-end.result whole
    c.next_planned-end.ensures in
    let long : length begin ≡ length c.args.list.now = starts_long list from ∙ length-map c.args.list.now action_view in
    let h = front_long begin (front ++ inner) l1 b1 in
    omega (arith, h, long)

pub emit_switch-plan_labels-requires : goal.emit_switch-plan_labels-requires
emit_switch-plan_labels-requires t c =
    let list = map action_view c.args.list.now in
    let place = length c.args.code.now + expr_size (value_view c.args.node.now) in
    let from = switch_from place list in
    let last = from + stmts_size (actions_of list) in
    let begin = list_starts from list in
    let front = places_of (list_labels from list) in
    let inner = plans_of from (actions_of list) in
    let l0 = c.args.plan.now.left.now in
    let l1 = c.next_planned-end.new.plan.left.now in
    let same = switch_plan_is nowhere nowhere list place in
    let whole : Begins (last ∷ (begin ++ (front ++ inner))) l0 = begins_as _ (last ∷ (begin ++ (front ++ inner))) l0
    same c.requires.plan in
    let b1 = one_begins (begin ++ (front ++ inner)) l0 l1 last c.next_planned-end.result whole
    c.next_planned-end.ensures in
    let long : length begin ≡ length c.args.list.now = starts_long list from ∙ length-map c.args.list.now action_view in
    let starts = c.planned_all-starts.result.now in
    let l2 = c.planned_all-starts.new.plan.left.now in
    let e = c.planned_all-starts.ensures.count in
    let count : length starts ≡ length begin = omega (arith, long, e) in
    let b2 = back_known starts begin (front ++ inner) l1 l2 b1 c.planned_all-starts.ensures.left count in
    let h = front_long front inner l2 b2 in
    let k = labels_long list from in
    omega (arith, h, k)

pub emit_switch-emit_switched-requires : goal.emit_switch-emit_switched-requires
emit_switch-emit_switched-requires t c =
    let list = map action_view c.args.list.now in
    let place = length c.args.code.now + expr_size (value_view c.args.node.now) in
    let from = switch_from place list in
    let last = from + stmts_size (actions_of list) in
    let begin = list_starts from list in
    let front = places_of (list_labels from list) in
    let inner = plans_of from (actions_of list) in
    let l0 = c.args.plan.now.left.now in
    let l1 = c.next_planned-end.new.plan.left.now in
    let same = switch_plan_is nowhere nowhere list place in
    let whole : Begins (last ∷ (begin ++ (front ++ inner))) l0 = begins_as _ (last ∷ (begin ++ (front ++ inner))) l0
    same c.requires.plan in
    let b1 = one_begins (begin ++ (front ++ inner)) l0 l1 last c.next_planned-end.result whole
    c.next_planned-end.ensures in
    let long : length begin ≡ length c.args.list.now = starts_long list from ∙ length-map c.args.list.now action_view in
    let starts = c.planned_all-starts.result.now in
    let l2 = c.planned_all-starts.new.plan.left.now in
    let e = c.planned_all-starts.ensures.count in
    let count : length starts ≡ length begin = omega (arith, long, e) in
    let b2 = back_known starts begin (front ++ inner) l1 l2 b1 c.planned_all-starts.ensures.left count in
    let own = c.in_ok-own.own.items in
    let l3 = c.plan_labels.new.plan.left.now in
    let o = one_place (begin ++ (front ++ inner)) l0 l1 last c.next_planned-end.result whole
    c.next_planned-end.ensures in
    let begun = front_known starts begin (front ++ inner) l1 l2 b1 c.planned_all-starts.ensures.left count in
    let known = labels_known own list from inner l2 l3 b2 c.in_ok-own.ensures.places c.in_ok-own.ensures.names in (
      omega arith,
      (
        labels_left own list from inner l2 l3 b2 c.in_ok-own.ensures.places known,
        (begun, (c.as_slice-labels.ensures.value ∙ known, (o, (c.requires.sound, (c.requires.few, c.requires.long))))),
      ),
    )

pub emit_switch-returns : goal.emit_switch-returns
emit_switch-returns t c =
    let list = map action_view c.args.list.now in
    let place = length c.args.code.now + expr_size (value_view c.args.node.now) in
    let from = switch_from place list in
    let last = from + stmts_size (actions_of list) in
    let begin = list_starts from list in
    let front = places_of (list_labels from list) in
    let inner = plans_of from (actions_of list) in
    let l0 = c.args.plan.now.left.now in
    let l1 = c.next_planned-end.new.plan.left.now in
    let same = switch_plan_is nowhere nowhere list place in
    let whole : Begins (last ∷ (begin ++ (front ++ inner))) l0 = begins_as _ (last ∷ (begin ++ (front ++ inner))) l0
    same c.requires.plan in
    let b1 = one_begins (begin ++ (front ++ inner)) l0 l1 last c.next_planned-end.result whole
    c.next_planned-end.ensures in
    let long : length begin ≡ length c.args.list.now = starts_long list from ∙ length-map c.args.list.now action_view in
    let starts = c.planned_all-starts.result.now in
    let l2 = c.planned_all-starts.new.plan.left.now in
    let e = c.planned_all-starts.ensures.count in
    let count : length starts ≡ length begin = omega (arith, long, e) in
    let b2 = back_known starts begin (front ++ inner) l1 l2 b1 c.planned_all-starts.ensures.left count in
    let own = c.in_ok-own.own.items in
    let l3 = c.plan_labels.new.plan.left.now in
    let o = one_place (begin ++ (front ++ inner)) l0 l1 last c.next_planned-end.result whole
    c.next_planned-end.ensures in
    let begun = front_known starts begin (front ++ inner) l1 l2 b1 c.planned_all-starts.ensures.left count in
    let known = labels_known own list from inner l2 l3 b2 c.in_ok-own.ensures.places c.in_ok-own.ensures.names in
    let l4 = c.emit_switched.new.plan.left.now in
    let s = c.planned_all-starts.ensures.left ∙ ap (λ x. x ++ l2) begun in
    let u = c.in_ok-own.ensures.places ∙ ap (λ ms. places_of ms ++ l3) known in
    let behind = both_through begin (front ++ inner) l1 l2 l4 s (both_through front inner l2 l3 l4 u
    c.in_ok-emit_switched.ensures.plan) in
    record {
      code = c.in_ok-emit_switched.ensures.code;
      plan = one_through (begin ++ (front ++ inner)) l0 l1 l4 last c.next_planned-end.result
          c.next_planned-end.ensures o behind ∙ ap (λ x. x ++ l4) (sym same);
    }

pub emit_skipped-emit_stmt-requires : goal.emit_skipped-emit_stmt-requires
emit_skipped-emit_stmt-requires t c =
    let v = value_view c.args.node.now in
    let a = action_view c.args.body.now in
    let at = length c.args.code.now + expr_size v + 1 in
    let n = skipped_place c.args.around.locals (env_of c.args.scope.now) c.args.pos v c.next_planned-end.result
    c.args.code.now c.emit_alone.new.code c.put.new.code c.in_ok-_value.ensures.code c.in_ok-put.ensures in (
      omega arith,
      (
        part_begins a at (length c.put.new.code) (at + stmt_size a) c.next_planned-end.result
            c.args.plan.now.left.now c.next_planned-end.new.plan.left.now c.requires.plan c.next_planned-end.ensures n,
        (c.requires.sound.1, (omega (arith, c.requires.few), omega (arith, n, c.requires.long))),
      ),
    )

pub emit_skipped-returns : goal.emit_skipped-returns
emit_skipped-returns t c =
    let v = value_view c.args.node.now in
    let a = action_view c.args.body.now in
    let at = length c.args.code.now + expr_size v + 1 in
    let o = one_place (plan_of at a) c.args.plan.now.left.now c.next_planned-end.new.plan.left.now
    (at + stmt_size a) c.next_planned-end.result c.requires.plan c.next_planned-end.ensures in
    let n = skipped_place c.args.around.locals (env_of c.args.scope.now) c.args.pos v c.next_planned-end.result
    c.args.code.now c.emit_alone.new.code c.put.new.code c.in_ok-_value.ensures.code c.in_ok-put.ensures in
    record {
      code = skipped_laid c.args.around.locals (env_of c.args.scope.now) c.args.pos v a c.next_planned-end.result
          c.args.code.now c.emit_alone.new.code c.put.new.code c.emit_stmt.new.code c.in_ok-_value.ensures.code
          c.in_ok-put.ensures c.in_ok-emit_stmt.ensures.code o;
      plan = part_through a at (length c.put.new.code) (at + stmt_size a) c.next_planned-end.result
          c.args.plan.now.left.now c.next_planned-end.new.plan.left.now c.emit_stmt.new.plan.left.now c.requires.plan
          c.next_planned-end.ensures n c.in_ok-emit_stmt.ensures.plan;
    }

pub emit_choice-emit_skipped-requires : goal.emit_choice-emit_skipped-requires
emit_choice-emit_skipped-requires t c =
    let h = sym c.is_block.ensures ∙ c.if-is_block.false in (
      omega arith,
      (
        begins_as _ _ c.args.plan.now.left.now (skipped_plan_is c.args.pos (value_view c.args.node.now)
            (action_view c.args.body.now) (length c.args.code.now) h) c.requires.plan,
        (
          c.requires.sound,
          (
            c.requires.few,
            omega (
              arith,
              skipped_size c.args.pos (value_view c.args.node.now) (action_view c.args.body.now) h,
              c.requires.long,
            ),
          ),
        ),
      ),
    )

pub emit_choice-returns-in_ok-emit_skipped : goal.emit_choice-returns-in_ok-emit_skipped
emit_choice-returns-in_ok-emit_skipped t c =
    let h = sym c.is_block.ensures ∙ c.if-is_block.false in
    record {
      code = c.in_ok-emit_skipped.ensures.code ∙ ap (λ l. c.args.code.now ++ l)
          (sym (skipped_is c.args.around.locals (env_of c.args.scope.now) (length c.args.code.now) c.args.pos
          (value_view c.args.node.now) (action_view c.args.body.now) h));
      plan = c.in_ok-emit_skipped.ensures.plan ∙ ap (λ x. x ++ c.emit_skipped.new.plan.left.now)
          (sym (skipped_plan_is c.args.pos (value_view c.args.node.now) (action_view c.args.body.now)
          (length c.args.code.now) h));
    }

pub emit_body-emit_switch-requires : goal.emit_body-emit_switch-requires
emit_body-emit_switch-requires t c =
    let body = c.args.body.now in
    let pc = length c.args.code.now in
    let v = value_view c.args.node.now in
    let l0 = c.args.plan.now.left.now in
    let P : Action → Type 0 = λ a. Begins (plan_of pc (switch c.args.pos v a)) l0 in
    let Q : List Node → Type 0 = λ ys. Begins (plan_of pc (switch c.args.pos v
    (block nowhere (actions_of (map action_view ys)) nowhere))) l0 in
    let nl = c.args.around.locals in
    let R : Action → Type 0 = λ a. Room nl pc (switch c.args.pos v a) in
    let T : List Node → Type 0 = λ ys. Room nl pc (switch c.args.pos v
    (block nowhere (actions_of (map action_view ys)) nowhere)) in
    let room : T c.deref.result.now = subst T (sym c.deref.ensures.value) (subst R
    (block_view body c.in-Block.list c.in-Block.field-1 c.in-Block.is)
    (c.requires.sound, c.requires.few, c.requires.long)) in
    let smaller = block_size body c.in-Block.list c.in-Block.field-1 c.in-Block.is in (
      omega (arith, smaller, ap (λ ys. most size-Action ys) c.deref.ensures.value),
      (
        subst Q
            (sym c.deref.ensures.value) (subst P (block_view body c.in-Block.list c.in-Block.field-1 c.in-Block.is)
            c.requires.plan),
        (room.0, (room.1, room.2)),
      ),
    )

pub emit_body-returns : goal.emit_body-returns
emit_body-returns t c =
    let body = c.args.body.now in
    let nl = c.args.around.locals in
    let env = env_of c.args.scope.now in
    let v = value_view c.args.node.now in
    let items = c.in-Block.list.items in
    let P : Action → Type 0 = λ a. EmitsStmt nl env (switch c.args.pos v a) c.args.code.now c.emit_switch.new.code
    c.args.plan.now.left.now c.emit_switch.new.plan.left.now in
    let h : P (block body.pos (actions_of (map action_view items)) c.in-Block.field-1) = rw c.deref.ensures.value at
    c.in_ok-emit_switch-in-Block.ensures in
    subst P (sym (block_view body c.in-Block.list c.in-Block.field-1 c.in-Block.is)) h
