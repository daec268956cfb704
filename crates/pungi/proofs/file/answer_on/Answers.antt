use Rattle.std.proofs.lemmas.Result.{IfOk-weaker}
use Rattle.pungi.proofs.Statuses.{long_answer, text_answer}
use Rattle.pungi.specs.Shelves.{stand_of}
use Rattle.pungi.proofs.file.answer_on.Goals as goal

pub returns-in-Text-clause-answer : goal.returns-in-Text-clause-answer
returns-in-Text-clause-answer g c =
    let loaded = rw c.in-Text.is at c.in_ok-text.ensures.loaded in
    IfOk-weaker c.answer_to.result _ _ (λ a h.
    text_answer (record { names = c.args.names.now; rows = c.args.rows.now; terms = c.args.terms.now }) c.args.file.now
    (stand_of g.F.Shelf.texts g.F.Shelf.opened g.F.Shelf.names_opened g.F.Shelf.faults c.args.shelf.now)
    (stand_of g.F.Shelf.texts g.F.Shelf.opened g.F.Shelf.names_opened g.F.Shelf.faults c.load.new.shelf)
    c.in-Text.text.items c.deref.result.now a.status a.text.items loaded c.deref.ensures.value h) c.answer_to.ensures

pub returns-in-Long-clause-answer : goal.returns-in-Long-clause-answer
returns-in-Long-clause-answer g c =
    let loaded = rw c.in-Long.is at c.in_ok-text.ensures.loaded in
    IfOk-weaker c.message.result _ _ (λ a h.
    long_answer (record { names = c.args.names.now; rows = c.args.rows.now; terms = c.args.terms.now }) c.args.file.now
    (stand_of g.F.Shelf.texts g.F.Shelf.opened g.F.Shelf.names_opened g.F.Shelf.faults c.args.shelf.now)
    (stand_of g.F.Shelf.texts g.F.Shelf.opened g.F.Shelf.names_opened g.F.Shelf.faults c.load.new.shelf)
    a.status a.text.items loaded h.0 h.1) c.message.ensures
