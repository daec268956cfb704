use Rattle.std.proofs.Common.{◌∙◌, ◌+◌, [], map, sym, ap}
use Rattle.std.proofs.lemmas.Result.{IfOk-equal}
use Rattle.pungi_tree.specs.ExprView.{optional_view}
use Rattle.pungi_tree.specs.StmtView.{stmt_view, stmts_of, for_start_view}
use Rattle.pungi_tree.specs.Syntax as plain
use Rattle.pungi_tree.specs.declared.stmt.ForHead.{ForHead}
use Rattle.pungi_tree.specs.declared.stmt.Stmt.{Stmt}
use Rattle.pungi_types.specs.Labels.{stmt_locals, stmts_locals}
use Rattle.pungi_types.specs.Stmts.{Frame, in_block, stmt_findings, stmts_findings}
use Rattle.pungi_types.specs.Findings.{least_from}
use Rattle.pungi_scope.specs.Frames.{frame_of}
use Rattle.pungi_scope.specs.declared.walk.Walk.{Walk}
use Rattle.pungi_scope.proofs.FrameLemmas.{left_list, left_for, entered_block, after_of, after_split, findings_of}
use Rattle.pungi_scope.proofs.FrameLemmas.{findings_split}
use Rattle.pungi_scope.proofs.StmtViews.{stmt_view-for}
use Rattle.pungi_scope.proofs.stmt.+stmt.Goals as goal

pub check_inside-returns : goal.check_inside-returns
check_inside-returns g t c =
    left_list c.check_list-result.result (g.N.Lookup.env c.args.names.now) c.args.walk.now
    c.check_list-result.new.walk c.leave.new.self c.new-block.result.keys
    c.check_list-result.new.block.keys c.args.around.now (stmts_of (map stmt_view c.args.list.now.items))
    c.len-kept.result c.new-block.ensures.empty c.len-kept.ensures
    c.check_list-result.ensures.frame c.check_list-result.ensures.found c.leave.ensures

pub check_block-returns : goal.check_block-returns
check_block-returns g t c =
    let env = g.N.Lookup.env c.args.names.now in
    let old = c.args.walk.now in
    let ss = stmts_of (map stmt_view c.args.list.now.items) in
    let inner = c.in_block_with.result in
    let at : Frame → Walk = λ f. record old {
      first = least_from old.first (stmts_findings f ss);
      next = old.next
          + stmts_locals ss;
    } in
    IfOk-equal c.check_inside.result c.check_inside.new.walk (at (frame_of env old [] inner))
    (at (in_block (frame_of env old [] c.args.around.now) ss)) c.check_inside.ensures
    (ap at (entered_block env old c.args.around.now inner c.in_ok-labels.labels.keys [] ss c.in_ok-labels.ensures
    c.in_block_with.ensures.result c.in_block_with.ensures.labels
    c.in_block_with.ensures.breaks c.in_block_with.ensures.continues c.in_block_with.ensures.cases
    c.in_block_with.ensures.switched))

pub check_for-returns : goal.check_for-returns
check_for-returns g t c =
    left_for c.check_part-result.result (g.N.Lookup.env c.args.names.now) c.args.walk.now c.check_head.new.walk
    c.check_part-result.new.walk c.leave.new.self
    c.args.around.now c.in_loop.result c.args.pos (for_start_view c.args.start.now) (optional_view c.args.test.now)
    (optional_view c.args.step.now) (stmt_view c.args.body.now)
    c.len-kept.result c.len-kept.ensures c.in_ok-check_head.ensures.found c.in_ok-check_head.ensures.frame
    c.in_loop.ensures c.check_part-result.ensures c.leave.ensures

pub check_part-returns-in-For : goal.check_part-returns-in-For
check_part-returns-in-For g t c =
    let old = c.args.walk.now in
    let F = frame_of (g.N.Lookup.env c.args.names.now) old [] c.args.around.now in
    let at : plain.Stmt → Walk = λ s. record old {
      first = least_from old.first (stmt_findings F s);
      next = old.next
          + stmt_locals s;
    } in
    let from : ForHead → ForHead → ForHead → Stmt
    → plain.Stmt = λ x y z s. plain.for c.args.s.now.pos (for_start_view x.start) (optional_view y.test)
    (optional_view z.step) (stmt_view s) in
    let head = c.in-For.head.value in
    let body = c.deref-in-For.result.now in
    let test = c.deref-in-For-3.result.now in
    let step = c.deref-in-For-4.result.now in
    IfOk-equal c.check_for.result c.check_for.new.walk (at (from c.deref-in-For-2.result.now test step body))
    (at (stmt_view c.args.s.now)) c.check_for.ensures
    (ap (λ (x : ForHead). at (from x test step body)) c.deref-in-For-2.ensures
    ∙ ap (λ (y : ForHead). at (from head y step body)) c.deref-in-For-3.ensures
    ∙ ap (λ (z : ForHead). at (from head head z body)) c.deref-in-For-4.ensures
    ∙ ap (λ (s : Stmt). at (from head head head s)) c.deref-in-For.ensures
    ∙ sym (ap at (stmt_view-for c.args.s.now c.in-For.head c.in-For.body c.in-For.is)))

pub check_stmt-returns-in_ok-check_decl-in-Some-clause-found :
    goal.check_stmt-returns-in_ok-check_decl-in-Some-clause-found
check_stmt-returns-in_ok-check_decl-in-Some-clause-found g t c =
    let old = c.args.walk.now in
    let s = stmt_view c.args.s.now in
    let F = frame_of (g.N.Lookup.env c.args.names.now) old c.args.block.now.keys c.args.around.now in
    c.in_ok-check_decl-in-Some.ensures.found ∙ ap (λ o. least_from old.first (findings_of F s o)) c.in-Some.ensures
    ∙ ap (least_from old.first) (findings_split F s)

pub check_stmt-returns-in_ok-check_decl-in-Some-clause-frame :
    goal.check_stmt-returns-in_ok-check_decl-in-Some-clause-frame
check_stmt-returns-in_ok-check_decl-in-Some-clause-frame g t c =
    let s = stmt_view c.args.s.now in
    let F = frame_of (g.N.Lookup.env c.args.names.now) c.args.walk.now c.args.block.now.keys c.args.around.now in
    c.in_ok-check_decl-in-Some.ensures.frame ∙ ap (after_of F (stmt_locals s)) c.in-Some.ensures ∙ after_split F s

pub check_stmt-returns-in_ok-check_part-in-None-clause-found :
    goal.check_stmt-returns-in_ok-check_part-in-None-clause-found
check_stmt-returns-in_ok-check_part-in-None-clause-found g t c =
    let old = c.args.walk.now in
    let s = stmt_view c.args.s.now in
    let F = frame_of (g.N.Lookup.env c.args.names.now) old c.args.block.now.keys c.args.around.now in
    ap (λ (w : Walk). w.first) c.in_ok-check_part-in-None.ensures
    ∙ ap (λ o. least_from old.first (findings_of F s o)) c.in-None.ensures
    ∙ ap (least_from old.first) (findings_split F s)

pub check_stmt-returns-in_ok-check_part-in-None-clause-frame :
    goal.check_stmt-returns-in_ok-check_part-in-None-clause-frame
check_stmt-returns-in_ok-check_part-in-None-clause-frame g t c =
    let env = g.N.Lookup.env c.args.names.now in
    let block = c.args.block.now.keys in
    let s = stmt_view c.args.s.now in
    let F = frame_of env c.args.walk.now block c.args.around.now in
    ap (λ (w : Walk). frame_of env w block c.args.around.now) c.in_ok-check_part-in-None.ensures
    ∙ ap (after_of F (stmt_locals s)) c.in-None.ensures ∙ after_split F s
