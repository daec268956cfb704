use Rattle.std.proofs.Common.{map, ℕ, List, ◌++◌, ap, ◌∙◌}
use Rattle.std.specs.Prelude.{string_bytes}
use Rattle.pungi_config.specs.Command.{asked_of}
use Rattle.pungi.proofs.Causes.{config_is_refused, file_is_refused, file_judged, words_are_refused}
use Rattle.pungi.proofs.Sound.{sound_answer}
use Rattle.pungi.specs.Shelves.{stand_of}
use Rattle.pungi.proofs.top.pungi.Goals as goal

pub returns-in-Ok-write_all-clause-config : goal.returns-in-Ok-write_all-clause-config
returns-in-Ok-write_all-clause-config g c = λ opened grew text told refused read cut memory.
    config_is_refused _ _ (asked_of (map string_bytes c.args.words.now)) c.in-Ok.answer.status
    c.in-Ok.answer.text.items c.in-Ok.ensures.answer opened grew text told refused read

pub returns-in-Ok-write_all-clause-file : goal.returns-in-Ok-write_all-clause-file
returns-in-Ok-write_all-clause-file g c = λ opened grew api known text told refused read cut memory.
    file_is_refused _ _ (asked_of (map string_bytes c.args.words.now)) c.in-Ok.answer.status
    c.in-Ok.answer.text.items c.in-Ok.ensures.answer opened grew api known text told refused read

pub returns-in-Ok-write_all-clause-judged : goal.returns-in-Ok-write_all-clause-judged
returns-in-Ok-write_all-clause-judged g c = λ opened grew api known text told within names items file read cut memory.
    file_judged _ _ (asked_of (map string_bytes c.args.words.now)) c.in-Ok.answer.status
    c.in-Ok.answer.text.items c.in-Ok.ensures.answer opened grew api known text told within names items file read

pub returns-in-Ok-write_all-clause-words : goal.returns-in-Ok-write_all-clause-words
returns-in-Ok-write_all-clause-words g c = λ none cut memory.
    words_are_refused _ _ (asked_of (map string_bytes c.args.words.now)) c.in-Ok.answer.status
    c.in-Ok.answer.text.items _ _ c.in-Ok.ensures.answer c.in-Ok.ensures.asked none

pub returns-in-Ok-write_all-clause-sound : goal.returns-in-Ok-write_all-clause-sound
returns-in-Ok-write_all-clause-sound g c = λ reported. (
  c.in-Ok.answer.text.items,
  sound_answer (stand_of g.F.Shelf.texts g.F.Shelf.opened g.F.Shelf.names_opened g.F.Shelf.faults c.args.shelf.now)
      (stand_of g.F.Shelf.texts g.F.Shelf.opened g.F.Shelf.names_opened g.F.Shelf.faults c.decide.new.shelf)
      (asked_of (map string_bytes c.args.words.now)) c.in-Ok.answer.status c.in-Ok.answer.text.items
      (c.in-Ok.ensures.answer.report reported),
  c.in-Ok-write_all.ensures.ok
      ∙ ap (λ (text : List ℕ). g.O.Sink.bytes_written c.args.out.now ++ text) c.deref.ensures.value,
)

pub returns-in-Ok-write_all-clause-answer : goal.returns-in-Ok-write_all-clause-answer
returns-in-Ok-write_all-clause-answer g c = λ cut memory. (
  c.in-Ok.answer.text.items,
  c.in-Ok.ensures.answer,
  c.in-Ok-write_all.ensures.ok
      ∙ ap (λ (text : List ℕ). g.O.Sink.bytes_written c.args.out.now ++ text) c.deref.ensures.value,
)
