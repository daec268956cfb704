use Rattle.std.proofs.Common.{◌∙◌, ◌+◌, ap}
use Rattle.pungi_tree.specs.ExprView.{params_view}
use Rattle.pungi_tree.specs.StmtView.{stmt_view}
use Rattle.pungi_types.specs.Functions.{body_locals}
use Rattle.pungi_types.specs.Stmts.{Frame}
use Rattle.pungi_scope.specs.Frames.{frame_of}
use Rattle.pungi_scope.proofs.FrameLemmas.{params_counted}
use Rattle.pungi_scope.proofs.function.check_parts.Goals as goal

pub returns-clause-next : goal.returns-clause-next
returns-clause-next g c =
    c.number.ensures ∙ c.in_ok-check_body.ensures.next
    ∙ ap (λ n. n + body_locals (stmt_view c.args.f.now.body))
    (ap (λ (f : Frame). f.next) c.in_ok-check_params.ensures.frame
    ∙ params_counted (frame_of (g.N.Lookup.env c.args.names.now) c.args.walk.now c.args.block.now.keys
    c.args.around.now) (params_view c.args.f.now.params))
