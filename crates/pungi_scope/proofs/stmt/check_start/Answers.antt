use Rattle.std.proofs.Common.{◌≡◌, ◌∙◌, [], ap, sym}
use Rattle.std.proofs.lemmas.Result.{IfOk-equal, on_ok_weaker}
use Rattle.pungi_tree.specs.StmtView.{decl_view, for_start_view}
use Rattle.pungi_types.specs.Findings.{least_from}
use Rattle.pungi_types.specs.Stmts.{Frame, after_decl, decl_findings, start_frame, start_findings}
use Rattle.pungi_scope.specs.Frames.{frame_of}
use Rattle.pungi_scope.proofs.stmt.check_start.Goals as goal

pub returns-in-Decl-clause-found : goal.returns-in-Decl-clause-found
returns-in-Decl-clause-found g c =
    let env = g.N.Lookup.env c.args.names.now in
    let old = c.args.walk.now in
    let around = c.args.around.now in
    let d = decl_view c.in-Decl.d in
    IfOk-equal c.check_decl.result c.check_decl.new.walk.first (least_from old.first
    (decl_findings (frame_of env old c.new-block.result.keys around) d))
    (least_from old.first (start_findings (frame_of env old [] around) (for_start_view c.args.start.now)))
    c.check_decl.ensures.found
    (ap (λ ks. least_from old.first (decl_findings (frame_of env old ks around) d)) c.new-block.ensures.empty
    ∙ sym (ap (λ a. least_from old.first (start_findings (frame_of env old [] around) (for_start_view a)))
    c.in-Decl.is))

pub returns-in-Decl-clause-frame : goal.returns-in-Decl-clause-frame
returns-in-Decl-clause-frame g c =
    let env = g.N.Lookup.env c.args.names.now in
    let old = c.args.walk.now in
    let around = c.args.around.now in
    let d = decl_view c.in-Decl.d in
    on_ok_weaker c.check_decl.result
    (λ (h : frame_of env c.check_decl.new.walk c.check_decl.new.block.keys around
    ≡ after_decl (frame_of env old c.new-block.result.keys around) d).
    ap (λ (f : Frame). record f { block = [] }) (h ∙ ap (λ ks. after_decl (frame_of env old ks around) d)
    c.new-block.ensures.empty)
    ∙ sym (ap (λ a. record (start_frame (frame_of env old [] around) (for_start_view a)) { block = [] }) c.in-Decl.is))
    c.check_decl.ensures.frame
