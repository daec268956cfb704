use Rattle.std.proofs.Common.{map, ap}
use Rattle.std.proofs.lemmas.Result.{IfOk-equal}
use Rattle.pungi_tree.specs.StmtView.{stmt_view, stmts_of}
use Rattle.pungi_types.specs.Findings.{least_from}
use Rattle.pungi_types.specs.Stmts.{Frame, in_block, stmts_findings}
use Rattle.pungi_types.specs.declared.finding.Finding.{Finding}
use Rattle.std.specs.Prelude.{Option}
use Rattle.pungi_scope.specs.Frames.{frame_of}
use Rattle.pungi_scope.proofs.FrameLemmas.{counted, entered_block}
use Rattle.pungi_scope.proofs.function.check_statements.Goals as goal

pub returns-clause-found : goal.returns-clause-found
returns-clause-found g c =
    let env = g.N.Lookup.env c.args.names.now in
    let old = c.args.walk.now in
    let block = c.args.block.now.keys in
    let ss = stmts_of (map stmt_view c.args.list.now.items) in
    let inner = c.in_block_with.result in
    let at : Frame → Option Finding = λ f. least_from old.first (stmts_findings f ss) in
    IfOk-equal c.check_list.result c.check_list.new.walk.first (at (frame_of env old block inner))
    (at (record (in_block (frame_of env old block c.args.around.now) ss) { block = block }))
    c.check_list.ensures.found
    (ap at (entered_block env old c.args.around.now inner c.in_ok-labels.labels.keys block ss c.in_ok-labels.ensures
    c.in_block_with.ensures.result c.in_block_with.ensures.labels
    c.in_block_with.ensures.breaks c.in_block_with.ensures.continues c.in_block_with.ensures.cases
    c.in_block_with.ensures.switched))

pub returns-clause-next : goal.returns-clause-next
returns-clause-next g c =
    counted c.check_list.result (g.N.Lookup.env c.args.names.now) c.args.walk.now c.check_list.new.walk
    c.args.block.now.keys c.check_list.new.block.keys c.in_block_with.result
    (stmts_of (map stmt_view c.args.list.now.items)) c.check_list.ensures.frame
