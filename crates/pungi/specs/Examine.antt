-- The report on the text of a file.
--   checked_file api names items refused    what is known of a file, where these functions are refused
--   is_faulty, is_open, status_of the status that goes with verdicts: whether one is faulty, or else one is neither
--                                 clean nor faulty
--   AreVerdicts P api text names lines    the names and verdicts of the functions that the file defines which the text
--                                 is, in its order, of each of which P holds; and the names that are known then
--   IsReportOn names lines status bytes    a report: a block for each of these verdicts, and the status that goes with
--                                 them. No other lines print so: whatever lines print so, under whatever names, say
--                                 the same
--   IsReportOf P api text status bytes    the report on the file that the text is
--   IsReport api text status bytes    the report on it, with right lines
--   is_clean, is_unknown, is_refused    the other verdicts
--   count test lines              how many verdicts pass a test
--   trial_report n lines          the line of a trial of n functions
--   IsTrialOf P n status line     the line of a trial on the text of that trial, and the status that goes with the
--                                 verdicts
use Rattle.std.specs.Prelude.{◌≡◌, ℕ, Bool, true, false, List, ◌++◌, codes, count_by, if◌then◌else◌}
use Rattle.std.specs.List.{All, AllZip, list_any}
use Rattle.std.specs.Fmt.{decimal}
use Rattle.pungi_base.specs.declared.names.Name.{Name}
use Rattle.pungi_base.specs.declared.verdict.Verdict.{Verdict}
use Rattle.pungi_base.specs.declared.verdict.Verdict.TheVariants as verdict
use Rattle.pungi_tree.specs.Syntax.{Item}
use Rattle.pungi_types.specs.Files.{Definition, definitions, source_file}
use Rattle.pungi_types.specs.Refused.{CheckedFile, IsRefusedSet}
use Rattle.pungi_report.specs.Text.{report_text, IsLine}
use Rattle.pungi_report.specs.Fits.{FitsLine}
use Rattle.pungi_report.specs.Same.{IsSameLine}
use Rattle.pungi_verdict.specs.Verdicts.{IsJudged}
use Rattle.pungi_base.specs.Witness.{line_end}
use Rattle.pungi_trial.specs.Text.{trial_text}
use Rattle.pungi.specs.Api.{Api, builtin_api}
use Rattle.pungi.specs.Front.{IsFile}
use Rattle.pungi.specs.Status.{all_clean, some_faulty, some_open}

abbrev pub checked_file : Api → List (List ℕ) → List Item → List ℕ → CheckedFile
checked_file api names items refused = record { file = source_file names items api.rows api.terms; refused = refused }

abbrev pub is_faulty : Verdict → Bool
is_faulty (verdict.Faulty fault) = true
is_faulty verdict.Clean = false
is_faulty (verdict.Unknown why) = false
is_faulty (verdict.Refused at rule) = false

abbrev pub is_open : Verdict → Bool
is_open (verdict.Faulty fault) = false
is_open verdict.Clean = false
is_open (verdict.Unknown why) = true
is_open (verdict.Refused at rule) = true

abbrev pub status_of : List (Name × Verdict) → ℕ
status_of lines =
    if list_any (λ line. is_faulty line.1) lines then some_faulty else (if list_any (λ line. is_open line.1) lines
    then some_open else all_clean)

pub record AreVerdicts (P : CheckedFile → Definition → Name × Verdict → Type 0) (api : Api) (text : List ℕ)
    (names : List (List ℕ)) (lines : List (Name × Verdict)) : Type 0 where
  pub items : List Item
  pub file : IsFile api text names items
  pub refused : List ℕ
  pub least : IsRefusedSet (source_file names items api.rows api.terms) refused
  pub judged : AllZip (P (checked_file api names items refused)) (definitions items) lines

pub record IsReportOn (names : List (List ℕ)) (lines : List (Name × Verdict)) (status : ℕ) (bytes : List ℕ) : Type
    0 where
  pub counted : status ≡ status_of lines
  pub printed : bytes ≡ report_text names lines
  pub readable : All (IsLine names) lines
  pub fits : All FitsLine lines
  pub only : (others : List (List ℕ)) (more : List (Name × Verdict)) → All (IsLine others) more → All FitsLine more
      → bytes ≡ report_text others more
      → AllZip (IsSameLine names others) lines more

pub record IsReportOf (P : CheckedFile → Definition → Name × Verdict → Type 0) (api : Api) (text : List ℕ)
    (status : ℕ) (bytes : List ℕ) : Type 0 where
  pub names : List (List ℕ)
  pub lines : List (Name × Verdict)
  pub verdicts : AreVerdicts P api text names lines
  pub report : IsReportOn names lines status bytes

abbrev pub IsReport : Api → List ℕ → ℕ → List ℕ → Type 0
IsReport api text status bytes = IsReportOf IsJudged api text status bytes

abbrev pub is_clean : Verdict → Bool
is_clean verdict.Clean = true
is_clean (verdict.Faulty fault) = false
is_clean (verdict.Unknown why) = false
is_clean (verdict.Refused at rule) = false

abbrev pub is_unknown : Verdict → Bool
is_unknown verdict.Clean = false
is_unknown (verdict.Faulty fault) = false
is_unknown (verdict.Unknown why) = true
is_unknown (verdict.Refused at rule) = false

abbrev pub is_refused : Verdict → Bool
is_refused verdict.Clean = false
is_refused (verdict.Faulty fault) = false
is_refused (verdict.Unknown why) = false
is_refused (verdict.Refused at rule) = true

abbrev pub count : (Verdict → Bool) → List (Name × Verdict) → ℕ
count test lines = count_by (λ line. test line.1) lines

abbrev pub trial_report : ℕ → List (Name × Verdict) → List ℕ
trial_report n lines =
    codes "trial " ++ decimal n ++ codes " clean " ++ decimal (count is_clean lines) ++ codes " faulty "
    ++ decimal (count is_faulty lines) ++ codes " unknown " ++ decimal (count is_unknown lines)
    ++ codes " refused " ++ decimal (count is_refused lines) ++ line_end

pub record IsTrialOf (P : CheckedFile → Definition → Name × Verdict → Type 0) (n : ℕ) (status : ℕ) (line : List ℕ)
    : Type 0 where
  pub names : List (List ℕ)
  pub lines : List (Name × Verdict)
  pub verdicts : AreVerdicts P builtin_api (trial_text n) names lines
  pub counted : status ≡ status_of lines
  pub printed : line ≡ trial_report n lines
