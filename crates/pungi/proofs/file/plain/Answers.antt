use Rattle.std.proofs.lemmas.Result.{IfErr-weaker, IfOk-weaker}
use Rattle.pungi.proofs.Statuses.{api_of_manual, both, opened_file, opened_plain, plain_answers}
use Rattle.pungi.specs.Shelves.{stand_of}
use Rattle.pungi.proofs.file.plain.Goals as goal

pub returns-clause-answer : goal.returns-clause-answer
returns-clause-answer g c =
    IfOk-weaker c.answer_on.result _ _ (λ a h.
    plain_answers
    (stand_of g.F.Shelf.texts g.F.Shelf.opened g.F.Shelf.names_opened g.F.Shelf.faults c.args.shelf.now)
    (stand_of g.F.Shelf.texts g.F.Shelf.opened g.F.Shelf.names_opened g.F.Shelf.faults c.answer_on.new.shelf) _
    c.args.file.now a.status a.text.items
    (api_of_manual c.in_ok-names.names c.in_ok-table.table c.manual-terms.result c.in_ok-names.ensures
    c.in_ok-table.ensures c.manual-terms.ensures) h.1 h.0)
    (both c.answer_on.result _ _ c.answer_on.ensures.answer c.answer_on.ensures.names_opened)

pub returns-clause-asked : goal.returns-clause-asked
returns-clause-asked g c =
    IfOk-weaker c.answer_on.result _ _ (λ a h. opened_file c.args.file.now a.status _ _ h) c.answer_on.ensures.names_opened

pub returns-clause-unasked : goal.returns-clause-unasked
returns-clause-unasked g c =
    IfErr-weaker c.answer_on.result _ _ (λ e h. opened_plain c.args.file.now _ _ h) c.answer_on.ensures.memory
