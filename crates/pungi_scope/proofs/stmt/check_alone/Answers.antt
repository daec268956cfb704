use Rattle.pungi_tree.specs.StmtView.{decl_view}
use Rattle.pungi_tree.specs.Syntax as plain
use Rattle.pungi_scope.proofs.FrameLemmas.{left_part}
use Rattle.pungi_scope.proofs.stmt.check_alone.Goals as goal

pub returns : goal.returns
returns g c =
    left_part c.check_decl-result.result (g.N.Lookup.env c.args.names.now) c.args.walk.now
    c.check_decl-result.new.walk c.leave.new.self c.new-block.result.keys
    c.check_decl-result.new.block.keys c.args.around.now (plain.declare c.args.d.now.type_name.pos
    (decl_view c.args.d.now)) c.len-kept.result c.new-block.ensures.empty c.len-kept.ensures
    c.check_decl-result.ensures.frame c.check_decl-result.ensures.found c.leave.ensures
