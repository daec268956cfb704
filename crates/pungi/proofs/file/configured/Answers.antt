use Rattle.std.proofs.Common.{arith, ◌∙◌}
use Rattle.std.proofs.lemmas.Result.{IfOk-weaker}
use Rattle.pungi.proofs.Statuses.{config_answers, long_answers, on_err, opened_before, opened_config, opened_for_config}
use Rattle.pungi.specs.Shelves.{stand_of}
use Rattle.pungi.specs.Status.{memory_wanted}
use Rattle.pungi.proofs.file.configured.Goals as goal

pub returns-in_err-text-clause-unasked : goal.returns-in_err-text-clause-unasked
returns-in_err-text-clause-unasked g c =
    on_err c.from_residual.result _
    (opened_before c.args.file.now c.args.config.now (g.F.Shelf.names_opened c.args.shelf.now)
    (g.F.Shelf.names_opened c.load.new.shelf) c.in_err-text.ensures.memory)

pub returns-in-Text-clause-answer : goal.returns-in-Text-clause-answer
returns-in-Text-clause-answer g c =
    let loaded = rw c.in-Text.is at c.in_ok-text.ensures.loaded in
    IfOk-weaker c.with_config.result _ _ (λ a h.
    config_answers (stand_of g.F.Shelf.texts g.F.Shelf.opened g.F.Shelf.names_opened g.F.Shelf.faults c.args.shelf.now)
    (stand_of g.F.Shelf.texts g.F.Shelf.opened g.F.Shelf.names_opened g.F.Shelf.faults c.load.new.shelf)
    (stand_of g.F.Shelf.texts g.F.Shelf.opened g.F.Shelf.names_opened g.F.Shelf.faults c.with_config.new.shelf)
    c.args.file.now c.args.config.now c.deref.result.now a.status a.text.items c.in_ok-text.ensures.texts
    (loaded.0, loaded.1, loaded.2, c.deref.ensures.value ∙ loaded.3, loaded.4) h) c.with_config.ensures.answer

pub returns-in-Text-clause-asked : goal.returns-in-Text-clause-asked
returns-in-Text-clause-asked g c =
    IfOk-weaker c.with_config.result _ _ (λ a h.
    opened_for_config c.deref.result.now c.args.file.now c.args.config.now
    (stand_of g.F.Shelf.texts g.F.Shelf.opened g.F.Shelf.names_opened g.F.Shelf.faults c.load.new.shelf)
    (stand_of g.F.Shelf.texts g.F.Shelf.opened g.F.Shelf.names_opened g.F.Shelf.faults c.with_config.new.shelf)
    (g.F.Shelf.names_opened c.args.shelf.now) a.status a.text.items c.in_ok-text.ensures.names_opened h)
    c.with_config.ensures.answer

pub returns-in-Long-clause-answer : goal.returns-in-Long-clause-answer
returns-in-Long-clause-answer g c =
    let loaded = rw c.in-Long.is at c.in_ok-text.ensures.loaded in
    IfOk-weaker c.wrong_answer.result _ _ (λ a h.
    long_answers (stand_of g.F.Shelf.texts g.F.Shelf.opened g.F.Shelf.names_opened g.F.Shelf.faults c.args.shelf.now)
    (stand_of g.F.Shelf.texts g.F.Shelf.opened g.F.Shelf.names_opened g.F.Shelf.faults c.load.new.shelf)
    c.args.file.now c.args.config.now a.status a.text.items h.0 loaded h.1) c.wrong_answer.ensures

pub returns-in-Long-clause-asked : goal.returns-in-Long-clause-asked
returns-in-Long-clause-asked g c =
    IfOk-weaker c.wrong_answer.result _ _ (λ a h.
    let is = h.0 in
    opened_config c.args.file.now c.args.config.now a.status (g.F.Shelf.names_opened c.args.shelf.now)
    (g.F.Shelf.names_opened c.load.new.shelf) c.in_ok-text.ensures.names_opened (omega (arith, is)) (λ k. omega (arith, is, k)))
    c.wrong_answer.ensures

pub returns-in-Long-clause-unasked : goal.returns-in-Long-clause-unasked
returns-in-Long-clause-unasked g c =
    on_err c.wrong_answer.result _
    (opened_config c.args.file.now c.args.config.now memory_wanted (g.F.Shelf.names_opened c.args.shelf.now)
    (g.F.Shelf.names_opened c.load.new.shelf) c.in_ok-text.ensures.names_opened (omega arith) (λ k. omega (arith, k)))

pub returns-in-Unread-clause-asked : goal.returns-in-Unread-clause-asked
returns-in-Unread-clause-asked g c =
    let loaded = rw c.in-Unread.is at c.in_ok-text.ensures.loaded in
    let is = loaded.0 in
    opened_config c.args.file.now c.args.config.now c.in-Unread.answer.status (g.F.Shelf.names_opened c.args.shelf.now)
    (g.F.Shelf.names_opened c.load.new.shelf) c.in_ok-text.ensures.names_opened (omega (arith, is)) (λ k. omega (arith, is, k))
