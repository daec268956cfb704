use Rattle.std.proofs.Common.{◌≡◌, ◌∙◌, ◌<◌, ◌≤◌, ◌+◌, List, length, get_or, drop, map, sym, ap, subst, arith}
use Rattle.std.proofs.lemmas.List.{drop_all}
use Rattle.pungi_tree.specs.StmtView.{stmt_view, stmts_of, for_start_view}
use Rattle.pungi_tree.specs.declared.stmt.Stmt.{Stmt}
use Rattle.pungi_types.specs.Labels.{stmt_locals}
use Rattle.pungi_resolve.specs.Stmts.{Site, action, actions as actions_in, site_after}
use Rattle.pungi_resolved.specs.Actions.{action_and}
use Rattle.pungi_resolved.specs.ActionView.{action_view}
use Rattle.pungi_resolve.specs.Sites.{site_of, after_all}
use Rattle.pungi_resolve.specs.SoundActions.{IsSoundAction, AreSoundActions}
use Rattle.pungi_resolve.specs.declared.walk.Walk.{Walk}
use Rattle.pungi_resolve.proofs.ListLemmas.{actions_before, actions_before-one, actions_before-all, next_one}
use Rattle.pungi_resolve.proofs.SiteLemmas.{left_part, left_block, left_for}
use Rattle.pungi_resolve.proofs.stmt.+stmt.Goals as goal

pub resolve_part-returns-clause-walk : goal.resolve_part-returns-clause-walk
resolve_part-returns-clause-walk g t c =
    left_part (g.N.Lookup.env c.args.names.now) c.args.walk.now c.resolve_stmt.new.walk c.leave.new.self
    c.args.around.result (stmt_view c.args.s.now) c.len-kept.result
    c.len-kept.ensures c.in_ok-part.ensures.after c.leave.ensures

pub resolve_block-returns-clause-walk : goal.resolve_block-returns-clause-walk
resolve_block-returns-clause-walk g t c =
    left_block (g.N.Lookup.env c.args.names.now) c.args.walk.now c.resolve_list.new.walk c.leave.new.self
    c.args.around.result (stmts_of (map stmt_view c.args.list.now.items)) c.len-kept.result
    c.len-kept.ensures c.in_ok-found.ensures.after c.leave.ensures

pub resolve_list-returns-clause-actions : goal.resolve_list-returns-clause-actions
resolve_list-returns-clause-actions g t c =
    let env = g.N.Lookup.env c.args.names.now in
    let xs = c.args.list.now.items in
    let i = c.loop-s.s-index in
    let F = site_of env c.loop-s.walk c.args.around.result in
    let s : length xs ≤ i = omega (arith, ap length c.deref-s-items.ensures.value) in
    let done = map action_view c.loop-s.found.items in
    sym (actions_before-all done)
    ∙ ap (λ ys. actions_before done (actions_in F (stmts_of (map stmt_view ys)))) (sym (drop_all i xs s))
    ∙ c.loop-s.invariant.actions

pub resolve_list-loop-s-preserved : goal.resolve_list-loop-s-preserved
resolve_list-loop-s-preserved g t c =
    let env = g.N.Lookup.env c.args.names.now in
    let xs = c.args.list.now.items in
    let i = c.loop-s.s-index in
    let F = site_of env c.loop-s.walk c.args.around.result in
    let G = site_of env c.resolve_stmt.new.walk c.args.around.result in
    let one = stmt_view c.s-item.result in
    let s : i < length xs = omega (arith, ap length c.deref-s-items.ensures.value) in
    let r : c.s-item.result ≡ get_or xs i c.s-item.result = cc in
    let d = next_one xs i c.s-item.result s r in
    let left = stmts_of (map stmt_view (drop (i + 1) xs)) in
    let P : List Stmt → Type 0 = λ ys. AreSoundActions (actions_in F (stmts_of (map stmt_view ys))) in
    let k : IsSoundAction (action F one) × AreSoundActions (actions_in (site_after F one) left) = subst P d
    c.loop-s.invariant.sound in
    let Q : Site → Type 0 = λ h. AreSoundActions (actions_in h left) in
    let done = c.loop-s.found.items in
    let there : G ≡ site_after F one = c.in_ok-one.ensures.after in
    record {
      actions =
          ap (λ ys. actions_before (map action_view ys) (actions_in G left)) c.in_ok-push.ensures.items
          ∙ actions_before-one action_view done c.in_ok-one.one (actions_in G left)
          ∙ ap (λ a. actions_before (map action_view done) (action_and a (actions_in G left)))
          c.in_ok-one.ensures.action
          ∙ ap (λ (h : Site). actions_before (map action_view done) (action_and (action F one) (actions_in h left)))
          there
          ∙ ap (λ ys. actions_before (map action_view done) (actions_in F (stmts_of (map stmt_view ys)))) (sym d)
          ∙ c.loop-s.invariant.actions;
      sound = subst Q (sym there) k.1;
      after = ap (λ (h : Site). after_all h left) there ∙ ap (λ ys. after_all F (stmts_of (map stmt_view ys)))
          (sym d) ∙ c.loop-s.invariant.after;
    }

pub resolve_for-returns-clause-after : goal.resolve_for-returns-clause-after
resolve_for-returns-clause-after g t c =
    let env = g.N.Lookup.env c.args.names.now in
    ap (λ (w : Walk). site_of env w c.args.around.result)
    (left_for env c.args.walk.now c.resolve_head.new.walk c.resolve_part.new.walk c.leave.new.self
    c.args.around.result (for_start_view c.args.start.now) (stmt_locals (stmt_view c.args.body.now))
    c.len-kept.result c.len-kept.ensures c.in_ok-head.ensures.after c.in_ok-body.ensures.walk c.leave.ensures)
