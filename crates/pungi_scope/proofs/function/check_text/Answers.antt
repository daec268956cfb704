use Rattle.std.proofs.Common.{◌∙◌, ap}
use Rattle.std.proofs.lemmas.Result.{IfOk-equal}
use Rattle.pungi_types.specs.Findings.{least_from}
use Rattle.pungi_types.specs.Functions.{parts_findings, first_frame}
use Rattle.pungi_types.specs.TypesView.{definition_view}
use Rattle.pungi_scope.proofs.FrameLemmas.{begins}
use Rattle.pungi_scope.proofs.function.check_text.Goals as goal

pub returns-clause-found : goal.returns-clause-found
returns-clause-found g c =
    let env = g.N.Lookup.env c.args.names.now in
    let d = definition_view c.args.f.now in
    let start = begins env d c.args.alloc c.new.result c.new-2.result c.new-block.result.keys
    c.note_result-kind.new.first c.note_result-kind.result c.new.ensures c.new-2.ensures c.new-block.ensures.empty
    c.note_result-kind.ensures.kind in
    IfOk-equal c.check_parts-locals.result _ _ _ c.check_parts-locals.ensures.found
    (ap (λ f. least_from c.note_result-kind.new.first (parts_findings f d)) start
    ∙ ap (λ x. least_from x (parts_findings (first_frame env d) d)) c.note_result-kind.ensures.found)
