-- What the program returns: its status, and the text that goes with it. The words of a call ask for a file, with a
-- configuration or without one, or for a trial. A call begins where its shelf stands first, and ends where it stands
-- last.
--   asked_file name config       what asks for a file, with a configuration or without one
--   usage_text, long_text        texts of one line
--   IsApiFor texts config earlier api
--                                where a configuration is named, it alone was opened earlier and read whole, and this is
--                                the API that it makes known; without one nothing was, and it is that of the manual
--   IsOpenedOver first last config api t
--                                this text was opened last in the call, and this is the API that is known for it by
--                                what was opened earlier
--   IsReportFor P first last asked status answer
--                                the report on the file that is asked for, which was read whole, or the line of the
--                                trial, with verdicts of which P holds, and the status that goes with them
--   IsTextRefusal api text answer     a text is refused, and the line that says why
--   IsFileRefusal texts api name t answer     the file of this name is refused, by what was read of it, and the line
--   IsRefusalFor first last asked answer    the file that is asked for is refused, or the text of the trial
--   IsConfigRefusal first last config answer     the configuration of this name alone was opened, and is refused by
--                                what was read of it, and the line
--   IsLast names name            the name is the last of these
--   IsReported status            one of the statuses of a report
--   Answers first last asked status answer
--                                a status other than the two of a cut answer and of want of memory, with the text that
--                                goes with it. Each status has its cause, and none but that of a file that can't be
--                                read comes with a fault
--   files asked                  the names of the files that are asked for, in the order of reading
--   IsOpened asked status before after
--                                the names that `open` was given are a front of these: none where the words are
--                                refused, the configuration's where that is refused, at least one where a file can't
--                                be read, and all where a report is written or the file is refused
use Rattle.std.specs.Prelude.{◌≡◌, ◌≢◌, ◌⊎◌, ℕ, ◌≤◌, ◌<◌, List, [], ◌∷◌, ◌++◌, length, Option, None, Some, codes}
use Rattle.pungi_io.specs.OpenedText.{Opened}
use Rattle.pungi_io.specs.Shelf.{Rose}
use Rattle.pungi_base.specs.Witness.{line_end}
use Rattle.pungi_base.specs.declared.names.Name.{Name}
use Rattle.pungi_base.specs.declared.verdict.Verdict.{Verdict}
use Rattle.pungi_config.specs.Command.{Asked, file, trial}
use Rattle.pungi_config.specs.Limits.{config_limit}
use Rattle.pungi_trial.specs.Text.{trial_text}
use Rattle.pungi_types.specs.Files.{Definition}
use Rattle.pungi_types.specs.Refused.{CheckedFile}
use Rattle.pungi_verdict.specs.Verdicts.{IsJudged}
use Rattle.pungi.specs.Api.{Api, builtin_api, IsConfigured, IsWrong, wrong_text, long_reason}
use Rattle.pungi.specs.Examine.{IsReportOf, IsTrialOf}
use Rattle.pungi.specs.Front.{IsRefusedAs}
use Rattle.pungi.specs.Limits.{file_limit}
use Rattle.pungi.specs.Load.{unread_text}
use Rattle.pungi.specs.Read.{IsLong, IsRead}
use Rattle.pungi.specs.Shelves.{Stand}
use Rattle.pungi.specs.Status.{all_clean, some_faulty, some_open, words_refused, file_unread, file_refused}
use Rattle.pungi.specs.Status.{config_refused}

abbrev pub asked_file : List ℕ → Option (List ℕ) → Option Asked
asked_file name config = Some (file name config)

abbrev pub usage_text : List ℕ
usage_text = codes "usage: pungi [--config FILE] FILE.c, or pungi --trial N" ++ line_end

abbrev pub long_text : List ℕ
long_text = codes "file refused over 1048576 bytes" ++ line_end

abbrev pub IsApiFor : Option (List ℕ → Option (List ℕ)) → Option (List ℕ) → List Opened → Api → Type 0
IsApiFor texts None earlier api = (earlier ≡ []) × (api ≡ builtin_api)
IsApiFor texts (Some config) earlier api =
    (c : Opened) × (earlier ≡ c ∷ []) × IsRead texts config config_limit c × IsConfigured c.bytes api

pub record IsOpenedOver (first last : Stand) (config : Option (List ℕ)) (api : Api) (t : Opened) : Type 0 where
  pub earlier : List Opened
  pub opened : last.opened ≡ first.opened ++ (earlier ++ t ∷ [])
  pub known : IsApiFor first.texts config earlier api

abbrev pub IsReportFor : (CheckedFile → Definition → Name × Verdict → Type 0) → Stand → Stand → Option Asked → ℕ
    → List ℕ → Type 0
IsReportFor P first last None status answer = ⊥
IsReportFor P first last (Some (file name config)) status answer =
    (api : Api) × (t : Opened) × IsOpenedOver first last config api t × IsRead first.texts name file_limit t
    × IsReportOf P api t.bytes status answer
IsReportFor P first last (Some (trial n)) status answer =
    (length (trial_text n) ≤ file_limit) × IsTrialOf P n status answer

abbrev pub IsTextRefusal : Api → List ℕ → List ℕ → Type 0
IsTextRefusal api text answer =
    ((file_limit < length text) × (answer ≡ long_text))
    ⊎ ((length text ≤ file_limit) × IsRefusedAs api text answer)

abbrev pub IsFileRefusal : Option (List ℕ → Option (List ℕ)) → Api → List ℕ → Opened → List ℕ → Type 0
IsFileRefusal texts api name t answer =
    (IsLong texts name file_limit t × (answer ≡ long_text))
    ⊎ (IsRead texts name file_limit t × IsRefusedAs api t.bytes answer)

abbrev pub IsRefusalFor : Stand → Stand → Option Asked → List ℕ → Type 0
IsRefusalFor first last None answer = ⊥
IsRefusalFor first last (Some (file name config)) answer =
    (api : Api) × (t : Opened) × IsOpenedOver first last config api t × IsFileRefusal first.texts api name t answer
IsRefusalFor first last (Some (trial n)) answer = IsTextRefusal builtin_api (trial_text n) answer

abbrev pub IsConfigRefusal : Stand → Stand → List ℕ → List ℕ → Type 0
IsConfigRefusal first last config answer =
    (c : Opened) × (last.opened ≡ first.opened ++ c ∷ [])
    × ((IsLong first.texts config config_limit c × (answer ≡ wrong_text long_reason))
    ⊎ (IsRead first.texts config config_limit c
    × ((reason : List ℕ) × IsWrong c.bytes reason × (answer ≡ wrong_text reason))))

abbrev pub IsLast : List (List ℕ) → List ℕ → Type 0
IsLast names name = (earlier : List (List ℕ)) × (names ≡ earlier ++ name ∷ [])

abbrev pub IsReported : ℕ → Type 0
IsReported status = (status ≡ all_clean) ⊎ (status ≡ some_faulty) ⊎ (status ≡ some_open)

pub record Answers (first last : Stand) (asked : Option Asked) (status : ℕ) (answer : List ℕ) : Type 0 where
  pub one : (status ≡ all_clean) ⊎ (status ≡ some_faulty) ⊎ (status ≡ some_open) ⊎ (status ≡ words_refused)
      ⊎ (status ≡ file_unread) ⊎ (status ≡ file_refused) ⊎ (status ≡ config_refused)
  pub report : IsReported status → IsReportFor IsJudged first last asked status answer
  pub usage : status ≡ words_refused → (asked ≡ None) × (answer ≡ usage_text)
  pub failed : status ≡ file_unread → Rose first.faults last.faults
      × ((name : List ℕ) × IsLast last.names_opened name × (answer ≡ unread_text name))
  pub refused : status ≡ file_refused → IsRefusalFor first last asked answer
  pub unconfigured : status ≡ config_refused → (name : List ℕ) × (config : List ℕ)
      × (asked ≡ Some (file name (Some config))) × IsConfigRefusal first last config answer
  pub steady : status ≢ file_unread → last.faults ≡ first.faults

abbrev pub files : Option Asked → List (List ℕ)
files None = []
files (Some (file name None)) = name ∷ []
files (Some (file name (Some config))) = config ∷ name ∷ []
files (Some (trial n)) = []

pub record IsOpened (asked : Option Asked) (status : ℕ) (before after : List (List ℕ)) : Type 0 where
  pub opened : List (List ℕ)
  pub grew : after ≡ before ++ opened
  pub front : (others : List (List ℕ)) × (files asked ≡ opened ++ others)
  pub unread : status ≡ file_unread → 0 < length opened
  pub config : status ≡ config_refused → length opened ≡ 1
  pub all : IsReported status ⊎ (status ≡ file_refused) → opened ≡ files asked
