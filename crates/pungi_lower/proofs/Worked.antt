-- What the definitions say of small functions, by computing: the words of the tables of Worked*, which hold functions
-- and how their runs end.
use Rattle.std.proofs.Common.{ℕ, List, [], ◌∷◌, map, Option, Some, None}
use Rattle.pungi_base.specs.declared.choice.Choice.{Choice}
use Rattle.pungi_base.specs.declared.entry.Entry.{Entry}
use Rattle.pungi_base.specs.declared.names.Name.{Name}
use Rattle.pungi_base.specs.declared.pos.Pos.{Pos}
use Rattle.pungi_base.specs.declared.value.Value.{Value}
use Rattle.pungi_tree.specs.Syntax as plain
use Rattle.pungi_api.specs.Rows.{builtin_rows}
use Rattle.pungi_api.specs.Terms.{manual_terms}
use Rattle.pungi_types.specs.Files.{source_file, Definition, definitions}
use Rattle.pungi_resolve.specs.Functions.{resolved}
use Rattle.pungi_resolved.specs.Functions.{ResolvedFunction}
use Rattle.pungi_meaning.specs.Run.{End, Returned, Stopped, NeedsChoice, OutOfFuel, Run, end_at_once, run_of}
use Rattle.pungi_meaning.specs.Todo.{Operation}

abbrev pub at : ℕ → ℕ → Pos
at l c = record { line = l; col = c }

abbrev pub name : ℕ → Name
name n = record { 0 = n }

pub data Told : Type 0 where
  gives : Option Value → Pos → List Pos → Told
  stops : Pos → Told
  wants : Told
  goes_on : Told

abbrev pub told : End → Told
told (Returned w v p used) = gives v p used
told (Stopped p) = stops p
told NeedsChoice = wants
told OutOfFuel = goes_on

-- a file's last function, with its names resolved, where names have these texts
abbrev last_of : List (List ℕ) → List plain.Item → List Definition → Option ResolvedFunction
last_of texts file [] = None
last_of texts file (d ∷ []) = Some (resolved (source_file texts file builtin_rows manual_terms) [] d)
last_of texts file (d ∷ ds) = last_of texts file ds

abbrev pub last_function_with : List (List ℕ) → List plain.Item → Option ResolvedFunction
last_function_with texts file = last_of texts file (definitions file)

-- what each of its functions does
abbrev pub all_functions_with : List (List ℕ) → List plain.Item → List (Option ResolvedFunction)
all_functions_with texts file =
    map (λ (d : Definition). Some (resolved (source_file texts file builtin_rows manual_terms) [] d)) (definitions file)

abbrev run_of_last : List (Option ResolvedFunction) → Option ResolvedFunction → Entry → List Choice → ℕ → Run
run_of_last fs None entry choices fuel = end_at_once OutOfFuel
run_of_last fs (Some f) entry choices fuel = run_of fs f entry choices fuel

abbrev whole_run : List (List ℕ) → List plain.Item → ℕ → List Value → List Choice → ℕ → Run
whole_run texts file objects args choices fuel =
    run_of_last (all_functions_with texts file) (last_function_with texts file) (record
    { objects = objects; args = args }) choices fuel

-- how a run of it ends, and what it does before
abbrev pub last_run_with : List (List ℕ) → List plain.Item → ℕ → List Value → List Choice → ℕ → End
last_run_with texts file objects args choices fuel = (whole_run texts file objects args choices fuel).end

abbrev pub last_run : List plain.Item → ℕ → List Value → List Choice → ℕ → End
last_run file objects args choices fuel = last_run_with [] file objects args choices fuel

abbrev pub last_operations : List plain.Item → ℕ → List Value → List Choice → ℕ → List Operation
last_operations file objects args choices fuel = (whole_run [] file objects args choices fuel).ops
