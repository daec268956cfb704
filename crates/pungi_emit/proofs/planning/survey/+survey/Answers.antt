use Rattle.std.proofs.Common.{◌≡◌, ◌+◌, ◌<◌, List, [], ◌++◌, length, map, drop, refl, ap, sym, ◌∙◌, subst, arith}
use Rattle.std.proofs.Common.{append_assoc, append-nil}
use Rattle.std.proofs.lemmas.List.{length-map, drop_all}
use Rattle.pungi_resolved.specs.ActionView.{declared_view, action_view, actions_of}
use Rattle.pungi_resolved.specs.declared.action.Action.{Action as Node}
use Rattle.pungi_resolved.specs.ValueView.{value_view, optional_view}
use Rattle.pungi_meaning.specs.Run.{nowhere}
use Rattle.pungi_layout.specs.code.Heads.{head_at, stmt_marks, stmts_marks, switch_marks}
use Rattle.pungi_layout.specs.code.Sizes.{expr_size, option_size, test_size, stmt_size, stmts_size}
use Rattle.pungi_layout.specs.code.Sizes.{switch_size}
use Rattle.pungi_layout.specs.code.Scopes.{for_head}
use Rattle.pungi_emit.specs.planning.LabelPlaces.{stmt_labels, list_labels, list_starts}
use Rattle.pungi_emit.specs.planning.Plans.{places_of, switch_from, plan_of, plans_of, switch_plan}
use Rattle.pungi_emit.proofs.code.Lists.{next_one}
use Rattle.pungi_emit.proofs.stmt.Room.{block_is, switched_is}
use Rattle.pungi_emit.proofs.stmt.StmtCode.{next_start}
use Rattle.pungi_emit.proofs.planning.PlanLists.{room_is_there, filled, one_filled, two_filled}
use Rattle.pungi_emit.proofs.planning.Plans.{labels_long, starts_long, block_plan_is, choice_plan}
use Rattle.pungi_emit.proofs.planning.Surveys.{next_marks, next_size, next_labels, next_places, loop_marks, label_marks}
use Rattle.pungi_emit.proofs.planning.Surveys.{one_more_label, else_marks, else_labels, else_places, block_size}
use Rattle.pungi_emit.proofs.planning.Surveys.{block_marks, switched_size, switched_marks, begun_filled}
use Rattle.pungi_emit.proofs.planning.Surveys.{switched_places, choice_size, choice_marks}
use Rattle.pungi_emit.proofs.planning.survey.+survey.Goals as goal

pub survey_else-fill-requires : goal.survey_else-fill-requires
survey_else-fill-requires t c =
    let xs = plan_of c.after_test-go.result (action_view c.args.a.now) in
    let ys = plan_of (c.in_ok-last.last + 1) (action_view c.args.b.now) in
    let e : c.survey_stmt-2.new.places ≡ c.hold.new.places ++ (xs ++ ys) = c.in_ok-next.ensures.places
    ∙ ap (λ l. l ++ ys) c.in_ok-last.ensures.places ∙ append_assoc c.hold.new.places xs ys in
    room_is_there c.args.places.now c.hold.new.places c.survey_stmt-2.new.places (xs ++ ys) c.in_ok-room.room 2 2
    c.in_ok-room.ensures.places c.in_ok-room.ensures.room e refl

pub survey_else-returns : goal.survey_else-returns
survey_else-returns t c =
    let v = value_view c.args.c.now in
    let a = action_view c.args.a.now in
    let b = action_view c.args.b.now in
    let g = c.after_test-go.ensures in
    let h = c.in_ok-last.ensures in
    let k : c.in_ok-last.last + 1 ≡ c.in_ok-last.last + 1 = refl in
    let e = c.in_ok-next.ensures in
    let last = h.next in
    let next = e.next in
    record {
      next = omega (arith, g, last, next);
      marks = else_marks c.args.pos v a b c.args.pc c.after_test-go.result c.in_ok-last.last (c.in_ok-last.last + 1)
          c.args.marks.now c.survey_stmt.new.marks c.survey_stmt-2.new.marks g last k h.marks e.marks;
      labels = else_labels c.args.pos v a b c.args.pc c.after_test-go.result c.in_ok-last.last (c.in_ok-last.last + 1)
          c.args.labels.now c.survey_stmt.new.labels c.survey_stmt-2.new.labels g last k h.labels e.labels;
      places = else_places c.args.pos v a b c.args.pc c.after_test-go.result c.in_ok-last.last (c.in_ok-last.last + 1)
          c.in_ok-next.next c.in_ok-room.room c.args.places.now c.hold.new.places c.survey_stmt.new.places
          c.survey_stmt-2.new.places c.fill.new.places g last k next c.in_ok-room.ensures.places
          c.in_ok-room.ensures.room h.places e.places c.fill.ensures;
    }

pub survey_if-fill-requires : goal.survey_if-fill-requires
survey_if-fill-requires t c =
    room_is_there c.args.places.now c.hold.new.places c.survey_stmt.new.places
    (plan_of c.after_test-go.result (action_view c.args.body.now)) c.in_ok-room.room 1 1 c.in_ok-room.ensures.places
    c.in_ok-room.ensures.room c.in_ok-next.ensures.places refl

pub survey_if-returns : goal.survey_if-returns
survey_if-returns t c =
    let a = action_view c.args.body.now in
    let at = c.args.pc + expr_size (value_view c.args.c.now) + 1 in
    let e = c.in_ok-next.ensures in
    let s = e.next in
    let g : c.after_test-go.result ≡ at = c.after_test-go.ensures in
    let n : c.in_ok-next.next ≡ at + stmt_size a = omega (arith, s, g) in
    record {
      next = omega (arith, n);
      marks = e.marks ∙ ap (λ i. c.args.marks.now ++ stmt_marks i a) g;
      labels = e.labels ∙ ap (λ i. c.args.labels.now ++ places_of (stmt_labels i a)) g;
      places = one_filled (λ i. plan_of i a) c.args.places.now c.hold.new.places c.survey_stmt.new.places
          c.fill.new.places c.in_ok-room.room c.in_ok-next.next (at + stmt_size a) c.after_test-go.result at
          c.in_ok-room.ensures.places c.in_ok-room.ensures.room e.places c.fill.ensures n g;
    }

pub survey_while-fill-requires : goal.survey_while-fill-requires
survey_while-fill-requires t c =
    room_is_there c.args.places.now c.hold.new.places c.survey_stmt.new.places
    (plan_of c.after_test-go.result (action_view c.args.body.now)) c.in_ok-room.room 1 1 c.in_ok-room.ensures.places
    c.in_ok-room.ensures.room c.in_ok-next.ensures.places refl

pub survey_while-returns : goal.survey_while-returns
survey_while-returns t c =
    let a = action_view c.args.body.now in
    let at = c.args.pc + (expr_size (value_view c.args.c.now) + 1) in
    let e = c.in_ok-next.ensures in
    let s = e.next in
    let h = c.after_test-go.ensures in
    let g : c.after_test-go.result ≡ at = omega (arith, h) in
    let n : c.in_ok-next.next ≡ at + stmt_size a = omega (arith, s, g) in
    record {
      next = omega (arith, n);
      marks = loop_marks a c.after_test-go.result at c.args.pc c.args.pos c.head.result c.args.marks.now c.push.new.self
          c.survey_stmt.new.marks c.head.ensures c.in_ok-push.ensures.ok e.marks g;
      labels = e.labels ∙ ap (λ i. c.args.labels.now ++ places_of (stmt_labels i a)) g;
      places = one_filled (λ i. plan_of i a) c.args.places.now c.hold.new.places c.survey_stmt.new.places
          c.fill.new.places c.in_ok-room.room c.in_ok-next.next (at + stmt_size a) c.after_test-go.result at
          c.in_ok-room.ensures.places c.in_ok-room.ensures.room e.places c.fill.ensures n g;
    }

pub survey_until-fill-requires : goal.survey_until-fill-requires
survey_until-fill-requires t c =
    room_is_there c.args.places.now c.hold.new.places c.survey_stmt.new.places
    (plan_of c.after_test-go.result (action_view c.args.body.now)) c.in_ok-room.room 2 2 c.in_ok-room.ensures.places
    c.in_ok-room.ensures.room c.in_ok-next.ensures.places refl

pub survey_until-returns : goal.survey_until-returns
survey_until-returns t c =
    let a = action_view c.args.body.now in
    let at = c.args.pc + 1 + (expr_size (value_view c.args.c.now) + 1) in
    let e = c.in_ok-next.ensures in
    let s = e.next in
    let h = c.after_test-go.ensures in
    let g : c.after_test-go.result ≡ at = omega (arith, h) in
    let n : c.in_ok-next.next ≡ at + stmt_size a = omega (arith, s, g) in
    record {
      next = omega (arith, n);
      marks = loop_marks a c.after_test-go.result at (c.args.pc + 1) c.args.pos c.head.result c.args.marks.now
          c.push.new.self c.survey_stmt.new.marks c.head.ensures
          c.in_ok-push.ensures.ok e.marks g;
      labels = e.labels ∙ ap (λ i. c.args.labels.now ++ places_of (stmt_labels i a)) g;
      places = two_filled (plan_of c.after_test-go.result a) (plan_of at a) c.args.places.now c.hold.new.places
          c.survey_stmt.new.places c.fill.new.places c.in_ok-room.room c.after_test-go.result at c.in_ok-next.next
          (at + stmt_size a) c.in_ok-room.ensures.places c.in_ok-room.ensures.room e.places c.fill.ensures g n
          (ap (λ i. plan_of i a) g);
    }

pub survey_for-fill-requires : goal.survey_for-fill-requires
survey_for-fill-requires t c =
    room_is_there c.args.places.now c.hold.new.places c.survey_stmt.new.places
    (plan_of c.after_tested-go.result (action_view c.args.body.now)) c.in_ok-room.room 2 2 c.in_ok-room.ensures.places
    c.in_ok-room.ensures.room c.in_ok-next.ensures.places refl

pub survey_for-returns : goal.survey_for-returns
survey_for-returns t c =
    let a = action_view c.args.body.now in
    let rs = map declared_view c.args.reached.now in
    let w = optional_view c.args.last.now in
    let top = for_head c.args.pc rs (optional_view c.args.first.now) in
    let at = top + test_size (optional_view c.args.test.now) in
    let e = c.in_ok-next.ensures in
    let s = e.next in
    let t0 = c.for_head-top.ensures in
    let f = c.after_tested-go.ensures in
    let g : c.after_tested-go.result ≡ at = omega (arith, t0, f) in
    let n : c.in_ok-next.next ≡ at + stmt_size a = omega (arith, s, g) in
    let h = c.after_option-turned.ensures in
    let q : c.after_option-turned.result + 1 ≡ at + stmt_size a + option_size w + 1 = omega (arith, n, h) in
    record {
      next = omega (arith, q);
      marks = loop_marks a c.after_tested-go.result at top c.args.pos c.head.result c.args.marks.now c.push.new.self
          c.survey_stmt.new.marks (c.head.ensures ∙ ap (λ i. head_at i c.args.pos) {y = top} t0)
          c.in_ok-push.ensures.ok e.marks g;
      labels = e.labels ∙ ap (λ i. c.args.labels.now ++ places_of (stmt_labels i a)) g;
      places = two_filled (plan_of c.after_tested-go.result a) (plan_of at a) c.args.places.now c.hold.new.places
          c.survey_stmt.new.places c.fill.new.places c.in_ok-room.room c.in_ok-next.next (at + stmt_size a)
          (c.after_option-turned.result + 1) (at + stmt_size a + option_size w + 1) c.in_ok-room.ensures.places
          c.in_ok-room.ensures.room e.places c.fill.ensures n q (ap (λ i. plan_of i a) g);
    }

pub survey_label-returns : goal.survey_label-returns
survey_label-returns t c =
    let a = action_view c.args.body.now in
    let e = c.in_ok-next.ensures in
    record {
      next = e.next;
      marks = label_marks a c.args.pc c.args.pos c.head.result c.args.marks.now c.push-2.new.self
          c.survey_stmt.new.marks c.head.ensures c.in_ok-push-2.ensures.ok e.marks;
      labels = one_more_label (places_of (stmt_labels c.args.pc a)) c.args.labels.now c.push.new.self
          c.survey_stmt.new.labels c.args.pc c.in_ok-push.ensures.ok e.labels;
      places = e.places;
    }

pub survey_skipped-fill-requires : goal.survey_skipped-fill-requires
survey_skipped-fill-requires t c =
    room_is_there c.args.places.now c.hold.new.places c.survey_stmt.new.places
    (plan_of (c.args.place + 1) (action_view c.args.body.now)) c.in_ok-end.end 1 1 c.in_ok-end.ensures.places
    c.in_ok-end.ensures.room c.in_ok-next.ensures.places refl

pub survey_skipped-returns : goal.survey_skipped-returns
survey_skipped-returns t c =
    let a = action_view c.args.body.now in
    let at = c.args.place + 1 in
    let e = c.in_ok-next.ensures in
    let s = e.next in
    let g : c.args.place + 1 ≡ at = refl in
    let n : c.in_ok-next.next ≡ at + stmt_size a = omega (arith, s, g) in
    record {
      next = omega (arith, n);
      marks = e.marks ∙ ap (λ i. c.args.marks.now ++ stmt_marks i a) g;
      labels = e.labels ∙ ap (λ i. c.args.labels.now ++ places_of (stmt_labels i a)) g;
      places = one_filled (λ i. plan_of i a) c.args.places.now c.hold.new.places c.survey_stmt.new.places
          c.fill.new.places c.in_ok-end.end c.in_ok-next.next (at + stmt_size a) (c.args.place + 1) at
          c.in_ok-end.ensures.places c.in_ok-end.ensures.room e.places c.fill.ensures n g;
    }

pub survey_inside-fill-requires : goal.survey_inside-fill-requires
survey_inside-fill-requires t c =
    let list = map action_view c.args.list.now in
    let from = c.args.from in
    let front = places_of (list_labels from list) in
    let inner = plans_of from (actions_of list) in
    let known : c.as_slice.result.now ≡ front = c.as_slice.ensures ∙ c.in_ok-next.ensures.found.labels
    ∙ ap (λ l. l ++ front) (c.new-labels.ensures ∙ c.new.ensures.items) in
    let long : length c.as_slice.result.now ≡ c.len.result = ap length known ∙ sym (labels_long list from)
    ∙ sym (c.len.ensures ∙ ap length c.in_ok-names.ensures) in
    room_is_there c.args.places.now c.hold.new.places c.survey_list.new.places inner c.in_ok-room.room c.len.result
    (length c.as_slice.result.now) c.in_ok-room.ensures.places c.in_ok-room.ensures.room
    c.in_ok-next.ensures.found.places long

pub survey_inside-returns : goal.survey_inside-returns
survey_inside-returns t c =
    let list = map action_view c.args.list.now in
    let from = c.args.from in
    let front = places_of (list_labels from list) in
    let inner = plans_of from (actions_of list) in
    let e = c.in_ok-next.ensures.found in
    let known : c.as_slice.result.now ≡ front = c.as_slice.ensures ∙ e.labels
    ∙ ap (λ l. l ++ front) (c.new-labels.ensures ∙ c.new.ensures.items) in
    let long : length c.as_slice.result.now ≡ c.len.result = ap length known ∙ sym (labels_long list from)
    ∙ sym (c.len.ensures ∙ ap length c.in_ok-names.ensures) in
    record {
      found = record {
        next = e.next;
        marks = e.marks;
        labels = refl;
        places =
            filled c.args.places.now c.hold.new.places c.survey_list.new.places c.fill.new.places
            c.as_slice.result.now inner c.in_ok-room.room c.len.result c.in_ok-room.ensures.places
            c.in_ok-room.ensures.room e.places long c.fill.ensures
            ∙ ap (λ l. c.args.places.now ++ (l ++ inner)) known;
      };
      starts = c.in_ok-next.ensures.starts;
    }

pub survey_inner-returns : goal.survey_inner-returns
survey_inner-returns t c =
    let list = map action_view c.args.list.now in
    let from = c.args.pc + c.declared_count-own.result in
    let g = ap (λ n. c.args.pc + n) c.declared_count-own.ensures in
    let e = c.in_ok-next.ensures.found in
    record {
      next = block_size nowhere nowhere list c.args.pc c.declared_count-own.result from c.in_ok-next.next
          c.declared_count-own.ensures refl e.next;
      marks = block_marks nowhere nowhere list c.args.pc c.declared_count-own.result from c.args.marks.now
          c.survey_inside.new.marks c.declared_count-own.ensures refl e.marks;
      labels = refl;
      places =
          e.places
          ∙ ap (λ i. c.args.places.now ++ (places_of (list_labels i list) ++ plans_of i (actions_of list))) g
          ∙ ap (λ l. c.args.places.now ++ l) (sym (block_plan_is nowhere nowhere list c.args.pc));
    }

pub survey_switched-fill-requires : goal.survey_switched-fill-requires
survey_switched-fill-requires t c =
    let list = map action_view c.args.list.now in
    let from = c.args.place + c.declared_count-own.result + c.cases_count-cases.result
    + c.cases_count-cases.result + 1 in
    let inner = places_of (list_labels from list) ++ plans_of from (actions_of list) in
    let begin = c.as_slice.result.now in
    let known : begin ≡ list_starts from list = c.as_slice.ensures ∙ c.in_ok-next.ensures.starts
    ∙ ap (λ l. l ++ list_starts from list) (c.new-starts.ensures ∙ c.new.ensures.items) in
    let count : length c.args.list.now ≡ length list = sym (length-map c.args.list.now action_view) in
    let long : length begin ≡ length c.args.list.now = ap length known ∙ starts_long list from ∙ sym count in
    room_is_there c.hold.new.places c.hold-2.new.places c.survey_inside.new.places inner c.in_ok-begun.begun
    (length c.args.list.now) (length begin) c.in_ok-begun.ensures.places c.in_ok-begun.ensures.room
    c.in_ok-next.ensures.found.places long

pub survey_switched-fill-requires-2 : goal.survey_switched-fill-requires-2
survey_switched-fill-requires-2 t c =
    let list = map action_view c.args.list.now in
    let from = c.args.place + c.declared_count-own.result + c.cases_count-cases.result
    + c.cases_count-cases.result + 1 in
    let inner = places_of (list_labels from list) ++ plans_of from (actions_of list) in
    let begin = c.as_slice.result.now in
    let known : begin ≡ list_starts from list = c.as_slice.ensures ∙ c.in_ok-next.ensures.starts
    ∙ ap (λ l. l ++ list_starts from list) (c.new-starts.ensures ∙ c.new.ensures.items) in
    let count : length c.args.list.now ≡ length list = sym (length-map c.args.list.now action_view) in
    let p4 = begun_filled list from c.in_ok-begun.begun (length c.args.list.now) begin inner c.hold.new.places
    c.hold-2.new.places c.survey_inside.new.places c.fill.new.places c.in_ok-begun.ensures.places
    c.in_ok-begun.ensures.room c.in_ok-next.ensures.found.places count known c.fill.ensures in
    room_is_there c.args.places.now c.hold.new.places c.fill.new.places (list_starts from list ++ inner)
    c.in_ok-end.end 1 1 c.in_ok-end.ensures.places c.in_ok-end.ensures.room p4 refl

pub survey_switched-returns : goal.survey_switched-returns
survey_switched-returns t c =
    let list = map action_view c.args.list.now in
    let from = c.args.place + c.declared_count-own.result + c.cases_count-cases.result
    + c.cases_count-cases.result + 1 in
    let inner = places_of (list_labels from list) ++ plans_of from (actions_of list) in
    let begin = c.as_slice.result.now in
    let known : begin ≡ list_starts from list = c.as_slice.ensures ∙ c.in_ok-next.ensures.starts
    ∙ ap (λ l. l ++ list_starts from list) (c.new-starts.ensures ∙ c.new.ensures.items) in
    let count : length c.args.list.now ≡ length list = sym (length-map c.args.list.now action_view) in
    let p4 = begun_filled list from c.in_ok-begun.begun (length c.args.list.now) begin inner c.hold.new.places
    c.hold-2.new.places c.survey_inside.new.places c.fill.new.places c.in_ok-begun.ensures.places
    c.in_ok-begun.ensures.room c.in_ok-next.ensures.found.places count known c.fill.ensures in
    let own = c.declared_count-own.result in
    let cases = c.cases_count-cases.result in
    let h1 = c.declared_count-own.ensures in
    let h2 = c.cases_count-cases.ensures in
    let unset = c.args.place + own in
    let compared = unset + cases in
    let branched = compared + cases in
    let at : from ≡ switch_from c.args.place list = omega (arith, h1, h2) in
    record {
      next = switched_size nowhere nowhere (map action_view c.args.list.now) c.args.place own
          cases unset compared branched
          from c.in_ok-next.next h1 h2 refl refl refl refl c.in_ok-next.ensures.found.next;
      marks = switched_marks nowhere nowhere (map action_view c.args.list.now) c.args.place own
          cases unset compared branched
          from c.args.marks.now c.survey_inside.new.marks h1 h2 refl refl refl refl
          c.in_ok-next.ensures.found.marks;
      labels = refl;
      places = switched_places list c.args.place from c.in_ok-next.next c.in_ok-end.end c.args.places.now
          c.hold.new.places c.fill.new.places c.fill-2.new.places at c.in_ok-next.ensures.found.next
          c.in_ok-end.ensures.places c.in_ok-end.ensures.room p4 c.fill-2.ensures;
    }

pub survey_switch-returns : goal.survey_switch-returns
survey_switch-returns t c =
    let v = value_view c.args.node.now in
    let a = action_view c.args.body.now in
    let place = c.after_value-place.ensures in
    let e = c.in_ok-next.ensures in
    record {
      next = choice_size c.args.pos v a c.args.pc c.after_value-place.result c.in_ok-next.next place e.next;
      marks = e.marks ∙ ap (λ n. c.args.marks.now ++ switch_marks n a) place
          ∙ ap (λ l. c.args.marks.now ++ l) (sym (choice_marks c.args.pos v a c.args.pc));
      labels = e.labels ∙ ap (λ n. c.args.labels.now ++ places_of (stmt_labels (n + 1) a)) place;
      places = e.places ∙ ap (λ n. c.args.places.now ++ switch_plan n a) place
          ∙ ap (λ l. c.args.places.now ++ l) (sym (choice_plan c.args.pos v a c.args.pc));
    }

pub survey_list-loop-action-preserved : goal.survey_list-loop-action-preserved
survey_list-loop-action-preserved t c =
    let xs = c.args.list.now in
    let i = c.loop-action.action-index in
    let s : i < length xs = omega arith in
    let d = next_one xs i c.action-item.result s c.action-item.is in
    let v = action_view c.action-item.result in
    let rest = map action_view (drop (i + 1) xs) in
    let pc = c.loop-action.place in
    let n = c.in_ok-place.place in
    let e = c.in_ok-place.ensures in
    let h : n ≡ pc + stmt_size v = e.next in
    record {
      place = next_size v (actions_of rest) pc n h ∙ sym (ap (λ ys. pc
          + stmts_size (actions_of (map action_view ys))) d) ∙ c.loop-action.invariant.place;
      marks = sym (next_marks v (actions_of rest) pc n c.loop-action.marks c.survey_stmt.new.marks e.marks h)
          ∙ sym (ap (λ ys. c.loop-action.marks ++ stmts_marks pc (actions_of (map action_view ys))) d)
          ∙ c.loop-action.invariant.marks;
      labels = sym (next_labels v rest pc n c.loop-action.labels c.survey_stmt.new.labels e.labels h)
          ∙ sym (ap (λ ys. c.loop-action.labels ++ places_of (list_labels pc (map action_view ys))) d)
          ∙ c.loop-action.invariant.labels;
      starts = sym (next_start v rest pc n c.loop-action.starts c.push.new.self c.in_ok-push.ensures.ok h)
          ∙ sym (ap (λ ys. c.loop-action.starts ++ list_starts pc (map action_view ys)) d)
          ∙ c.loop-action.invariant.starts;
      places = sym (next_places v (actions_of rest) pc n c.loop-action.places c.survey_stmt.new.places e.places h)
          ∙ sym (ap (λ ys. c.loop-action.places ++ plans_of pc (actions_of (map action_view ys))) d)
          ∙ c.loop-action.invariant.places;
    }

pub survey_list-returns : goal.survey_list-returns
survey_list-returns t c =
    let xs = c.args.list.now in
    let i = c.loop-action.action-index in
    let pc = c.args.from in
    let list = map action_view xs in
    let last = c.loop-action.place in
    let h = c.loop-action.invariant in
    let done : drop i xs ≡ [] = drop_all i xs (omega arith) in
    let N : List Node → Type 0 = λ ys. last + stmts_size (actions_of (map action_view ys))
    ≡ pc + stmts_size (actions_of list) in
    let M : List Node → Type 0 = λ ys. c.loop-action.marks ++ stmts_marks last (actions_of (map action_view ys))
    ≡ c.args.marks.now ++ stmts_marks pc (actions_of list) in
    let L : List Node → Type 0 = λ ys. c.loop-action.labels ++ places_of (list_labels last (map action_view ys))
    ≡ c.args.labels.now ++ places_of (list_labels pc list) in
    let S : List Node → Type 0 = λ ys. c.loop-action.starts ++ list_starts last (map action_view ys)
    ≡ c.args.starts.now ++ list_starts pc list in
    let P : List Node → Type 0 = λ ys. c.loop-action.places ++ plans_of last (actions_of (map action_view ys))
    ≡ c.args.places.now ++ plans_of pc (actions_of list) in
    let next : last + 0 ≡ pc + stmts_size (actions_of list) = subst N done h.place in
    record {
      found = record {
        next = omega (arith, next);
        marks = sym (append-nil c.loop-action.marks) ∙ subst M done h.marks;
        labels = sym (append-nil c.loop-action.labels) ∙ subst L done h.labels;
        places = sym (append-nil c.loop-action.places) ∙ subst P done h.places;
      };
      starts = sym (append-nil c.loop-action.starts) ∙ subst S done h.starts;
    }

pub survey_switch-survey_choice-requires : goal.survey_switch-survey_choice-requires
survey_switch-survey_choice-requires t c =
    let v = value_view c.args.node.now in
    let a = action_view c.args.body.now in
    let place = c.after_value-place.ensures in
    let e = choice_size c.args.pos v a c.args.pc c.after_value-place.result (c.after_value-place.result
    + switch_size a) place refl in
    (omega arith, omega (arith, e, c.requires))

pub survey_inner-declared_count-own-requires : goal.survey_inner-declared_count-own-requires
survey_inner-declared_count-own-requires t c =
    omega (arith, block_is nowhere nowhere (map action_view c.args.list.now), c.requires)

pub survey_inner-overflow_add-from : goal.survey_inner-overflow_add-from
survey_inner-overflow_add-from t c =
    omega (arith, block_is nowhere nowhere (map action_view c.args.list.now), c.declared_count-own.ensures, c.requires)

pub survey_inner-survey_inside-requires : goal.survey_inner-survey_inside-requires
survey_inner-survey_inside-requires t c = (
  omega arith,
  omega (arith, block_is nowhere nowhere (map action_view c.args.list.now), c.declared_count-own.ensures, c.requires),
)

pub survey_switched-declared_count-own-requires : goal.survey_switched-declared_count-own-requires
survey_switched-declared_count-own-requires t c =
    let e = switched_is nowhere nowhere (map action_view c.args.list.now) in
    omega (arith, e, c.requires)

pub survey_switched-cases_count-cases-requires : goal.survey_switched-cases_count-cases-requires
survey_switched-cases_count-cases-requires t c =
    let e = switched_is nowhere nowhere (map action_view c.args.list.now) in
    omega (arith, e, c.requires)

pub survey_switched-overflow_add-unset : goal.survey_switched-overflow_add-unset
survey_switched-overflow_add-unset t c =
    let e = switched_is nowhere nowhere (map action_view c.args.list.now) in
    omega (arith, e, c.declared_count-own.ensures, c.requires)

pub survey_switched-overflow_add-compared : goal.survey_switched-overflow_add-compared
survey_switched-overflow_add-compared t c =
    let e = switched_is nowhere nowhere (map action_view c.args.list.now) in
    omega (arith, e, c.declared_count-own.ensures, c.cases_count-cases.ensures, c.requires)

pub survey_switched-overflow_add-branched : goal.survey_switched-overflow_add-branched
survey_switched-overflow_add-branched t c =
    let e = switched_is nowhere nowhere (map action_view c.args.list.now) in
    omega (arith, e, c.declared_count-own.ensures, c.cases_count-cases.ensures, c.requires)

pub survey_switched-overflow_add-from : goal.survey_switched-overflow_add-from
survey_switched-overflow_add-from t c =
    let e = switched_is nowhere nowhere (map action_view c.args.list.now) in
    omega (arith, e, c.declared_count-own.ensures, c.cases_count-cases.ensures, c.requires)

pub survey_switched-survey_inside-requires : goal.survey_switched-survey_inside-requires
survey_switched-survey_inside-requires t c =
    let e = switched_is nowhere nowhere (map action_view c.args.list.now) in
    (omega arith, omega (arith, e, c.declared_count-own.ensures, c.cases_count-cases.ensures, c.requires))
