use Rattle.std.proofs.Common.{None, map, string_bytes}
use Rattle.std.proofs.lemmas.Result.{IfOk-weaker}
use Rattle.pungi.proofs.Asked.{answers_as, plainly_asked, trial_asked, trial_opened}
use Rattle.pungi.specs.Answer.{asked_file}
use Rattle.pungi_config.specs.Command.{asked_of}
use Rattle.pungi.specs.Shelves.{stand_of}
use Rattle.pungi.proofs.top.decide.Goals as goal

pub returns-in-None-clause-answer : goal.returns-in-None-clause-answer
returns-in-None-clause-answer g c =
    let same =
    plainly_asked (asked_of (map string_bytes c.args.words.now)) c.in-Ok-File.field-0 c.in-Ok-File.file
    c.in-Ok-File.config c.as_str.result.now c.in-Ok-File.ensures c.in-Ok-File.field-0-is c.in-None.is
    c.as_str.ensures.value in
    IfOk-weaker c.plain.result _ _ (λ a h.
    answers_as (stand_of g.F.Shelf.texts g.F.Shelf.opened g.F.Shelf.names_opened g.F.Shelf.faults c.args.shelf.now)
    (stand_of g.F.Shelf.texts g.F.Shelf.opened g.F.Shelf.names_opened g.F.Shelf.faults c.plain.new.shelf)
    (asked_of (map string_bytes c.args.words.now)) (asked_file c.as_str.result.now None) a.status a.text.items same h)
    c.plain.ensures.answer

pub returns-in-Ok-Trial-clause-asked : goal.returns-in-Ok-Trial-clause-asked
returns-in-Ok-Trial-clause-asked g c =
    let same =
    trial_asked (asked_of (map string_bytes c.args.words.now)) c.in-Ok-Trial.field-0 c.in-Ok-Trial.n
    c.in-Ok-Trial.ensures c.in-Ok-Trial.field-0-is in
    IfOk-weaker c.trial.result _ _ (λ a h.
    trial_opened (asked_of (map string_bytes c.args.words.now)) c.in-Ok-Trial.n a.status a.text.items
    (g.F.Shelf.names_opened c.args.shelf.now) same h) c.trial.ensures
