use Rattle.std.proofs.Common.{◌≡◌, ◌∙◌, [], ap}
use Rattle.pungi_tree.specs.ExprView.{optional_view}
use Rattle.pungi_tree.specs.StmtView.{for_start_view}
use Rattle.pungi_types.specs.Findings.{least_from}
use Rattle.pungi_types.specs.Names.{Env}
use Rattle.pungi_types.specs.Stmts.{Frame, start_frame, option_condition, option_findings}
use Rattle.pungi_types.specs.declared.finding.Finding.{Finding}
use Rattle.std.specs.Prelude.{Option}
use Rattle.pungi_scope.specs.Frames.{frame_of}
use Rattle.pungi_scope.specs.ScopeEnv.{inner_env}
use Rattle.pungi_scope.specs.declared.walk.Walk.{Walk}
use Rattle.pungi_scope.proofs.stmt.check_head.Goals as goal

pub returns-clause-found : goal.returns-clause-found
returns-clause-found g c =
    let env = g.N.Lookup.env c.args.names.now in
    let one = c.check_start.new.walk in
    let test = optional_view c.args.test.now in
    let step = optional_view c.args.step.now in
    let E = (start_frame (frame_of env c.args.walk.now [] c.args.around.now) (for_start_view c.args.start.now)).env in
    let there : inner_env env one.locals ≡ E = ap (λ (f : Frame). f.env) c.in_ok-check_start.ensures.frame in
    ap (λ (w : Walk). w.first) c.in_ok-visit_optional.ensures
    ∙ ap (λ (w : Walk). least_from w.first (option_findings (inner_env env w.locals) step))
    c.in_ok-visit_optional_condition.ensures
    ∙ ap (λ (e : Env). least_from (least_from one.first (option_condition e c.args.pos test))
    (option_findings e step)) there
    ∙ ap (λ (x : Option Finding). least_from (least_from x (option_condition E c.args.pos test))
    (option_findings E step)) c.in_ok-check_start.ensures.found

pub returns-clause-frame : goal.returns-clause-frame
returns-clause-frame g c =
    let env = g.N.Lookup.env c.args.names.now in
    ap (λ (w : Walk). frame_of env w [] c.args.around.now) c.in_ok-visit_optional.ensures
    ∙ ap (λ (w : Walk). frame_of env w [] c.args.around.now) c.in_ok-visit_optional_condition.ensures
    ∙ c.in_ok-check_start.ensures.frame
