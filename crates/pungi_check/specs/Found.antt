-- What is found of a file and its functions.
--   is_sound_function o     each word and operator of a function has a meaning, if there is one
--   IsFound file names refused refusals resolved statics
--                       the file has no fault; the names of its functions, which of them are refused, the finding of
--                       each, what each does in which no rule holds, where each word and operator has a meaning, and
--                       how many static objects there are
--   checked_view c      the file that a checked unit of the program is, with its refused functions
--   IsChecked c         what a checked unit holds is what is found of its file
use Rattle.std.specs.Prelude.{◌≡◌, ℕ, ◌≤◌, List, length, map, Option, None, IsTrue, Bool, true, Some}
use Rattle.std.specs.List.{list_all}
use Rattle.pungi_base.specs.declared.names.Name.{Name}
use Rattle.pungi_api.specs.Rows.{are_rows}
use Rattle.pungi_tree.specs.UnitView.{unit_view}
use Rattle.pungi_types.specs.Files.{SourceFile, source_file, definitions, AreOwn}
use Rattle.pungi_types.specs.Findings.{least}
use Rattle.pungi_types.specs.Functions.{refusal}
use Rattle.pungi_types.specs.Limits.{most_functions, most_statics}
use Rattle.pungi_types.specs.Names.{statics_in}
use Rattle.pungi_types.specs.Refused.{CheckedFile, IsRefusedSet}
use Rattle.pungi_types.specs.declared.finding.Finding.{Finding}
use Rattle.pungi_resolved.specs.Functions.{ResolvedFunction}
use Rattle.pungi_resolve.specs.Resolutions.{resolution_of, resolution_view}
use Rattle.pungi_resolve.specs.Sound.{is_sound_action}
use Rattle.pungi_check.specs.Duplicates.{faults}
use Rattle.pungi_check.specs.declared.checked.Checked.{Checked}

abbrev pub is_sound_function : Option ResolvedFunction → Bool
is_sound_function None = true
is_sound_function (Some f) = is_sound_action f.body

pub record IsFound (file : SourceFile) (names : List Name) (refused : List ℕ) (refusals : List (Option Finding))
    (resolved : List (Option ResolvedFunction)) (statics : ℕ) : Type 0 where
  pub none : least (faults file) ≡ None
  pub few : length (definitions file.items) ≤ most_functions
  pub own : AreOwn (definitions file.items) (definitions file.items)
  pub set : IsRefusedSet file refused
  pub names_are : names ≡ map (λ d. d.name) (definitions file.items)
  pub refusals_are : refusals ≡ map (refusal file refused) (definitions file.items)
  pub resolved_are : resolved ≡ map (resolution_of file refused) (definitions file.items)
  pub sound : list_all is_sound_function resolved ≡ true
  pub rows : IsTrue (are_rows file.rows)
  pub statics_are : statics ≡ statics_in file.items
  pub few_statics : statics ≤ most_statics

abbrev pub checked_view : Checked → CheckedFile
checked_view c =
    record { file = source_file c.texts.now (unit_view c.unit.now) c.rows.now c.terms.now; refused = c.refused.keys }

abbrev pub IsChecked : Checked → Type 0
IsChecked c =
    IsFound (checked_view c).file c.names c.refused.keys c.refusals.items (map resolution_view c.resolved.items)
    c.statics
