-- What is said of each line of a report.
use Rattle.std.proofs.Common.{ℕ, ◌≤◌, Bool, true, false, List, [], ◌∷◌, Option, Some, None, if◌then◌else◌, arith}
use Rattle.std.specs.List.{AllZip, list_any}
use Rattle.pungi_base.specs.declared.names.Name.{Name}
use Rattle.pungi_base.specs.declared.verdict.Verdict.{Verdict}
use Rattle.pungi_types.specs.Files.{Definition}
use Rattle.pungi_types.specs.Refused.{CheckedFile}
use Rattle.pungi_verdict.specs.Causes.{IsCaused}
use Rattle.pungi_verdict.specs.Refusals.{IsRefused}
use Rattle.pungi_verdict.specs.Sound.{IsSound}
use Rattle.pungi_verdict.specs.Verdicts.{IsJudged}
use Rattle.pungi_config.specs.Command.{Asked, file, trial}
use Rattle.pungi_trial.specs.Text.{trial_text}
use Rattle.pungi.specs.Answer.{IsReportFor}
use Rattle.pungi.specs.Api.{Api, builtin_api}
use Rattle.pungi.specs.Examine.{AreVerdicts, IsReportOf, IsTrialOf, is_faulty, is_open, status_of}
use Rattle.pungi.specs.Shelves.{Stand}
use Rattle.pungi.specs.Status.{all_clean, some_faulty, some_open}

low_open : (b : Bool) → (if b then some_open else all_clean) ≤ some_open
low_open true = omega arith
low_open false = omega arith

low_faulty : (a b : Bool) → (if a then some_faulty else (if b then some_open else all_clean)) ≤ some_open
low_faulty true b = omega arith
low_faulty false b = low_open b

-- the status of lines is one of a report
pub low_status : (lines : List (Name × Verdict)) → status_of lines ≤ some_open
low_status lines =
    low_faulty (list_any (λ line. is_faulty line.1) lines) (list_any (λ line. is_open line.1) lines)

-- lines that are sound, refused where a rule holds, and come for their cause, are right
pub all_judged : (c : CheckedFile) (ds : List Definition) (lines : List (Name × Verdict))
    → AllZip (IsSound c) ds lines → AllZip (IsRefused c) ds lines → AllZip (IsCaused c) ds lines
    → AllZip (IsJudged c) ds lines
all_judged c [] [] sound refused caused = tt
all_judged c [] (line ∷ lines) sound refused caused = absurd sound
all_judged c (d ∷ ds) [] sound refused caused = absurd sound
all_judged c (d ∷ ds) (line ∷ lines) sound refused caused = (
  record { sound = sound.0; refused = refused.0; caused = caused.0 },
  all_judged c ds lines sound.1 refused.1
      caused.1,
)

all_sound : (c : CheckedFile) (ds : List Definition) (lines : List (Name × Verdict)) → AllZip (IsJudged c) ds lines
    → AllZip (IsSound c) ds lines
all_sound c [] [] judged = tt
all_sound c [] (line ∷ lines) judged = absurd judged
all_sound c (d ∷ ds) [] judged = absurd judged
all_sound c (d ∷ ds) (line ∷ lines) judged = (judged.0.sound, all_sound c ds lines judged.1)

sound_verdicts : (api : Api) (text : List ℕ) (names : List (List ℕ)) (lines : List (Name × Verdict))
    → AreVerdicts IsJudged api text names lines → AreVerdicts IsSound api text names lines
sound_verdicts api text names lines is = record {
  items = is.items;
  file = is.file;
  refused = is.refused;
  least = is.least;
  judged = all_sound _ _ lines is.judged;
}

sound_report : (api : Api) (text : List ℕ) (status : ℕ) (bytes : List ℕ) → IsReportOf IsJudged api text status bytes
    → IsReportOf IsSound api text status bytes
sound_report api text status bytes is = record {
  names = is.names;
  lines = is.lines;
  verdicts = sound_verdicts api text is.names is.lines is.verdicts;
  report = is.report;
}

sound_trial : (n status : ℕ) (line : List ℕ) → IsTrialOf IsJudged n status line → IsTrialOf IsSound n status line
sound_trial n status line is = record {
  names = is.names;
  lines = is.lines;
  verdicts = sound_verdicts builtin_api (trial_text n) is.names is.lines is.verdicts;
  counted = is.counted;
  printed = is.printed;
}

pub sound_answer : (first last : Stand) (asked : Option Asked) (status : ℕ) (answer : List ℕ)
    → IsReportFor IsJudged first last asked status answer → IsReportFor IsSound first last asked status answer
sound_answer first last None status answer is = absurd is
sound_answer first last (Some (file name config)) status answer (api, t, over, read, is) =
    (api, t, over, read, sound_report api t.bytes status answer is)
sound_answer first last (Some (trial n)) status answer (short, is) = (short, sound_trial n status answer is)
