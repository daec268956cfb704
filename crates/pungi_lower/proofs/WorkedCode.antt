-- What the definitions say of the code of small functions, by computing: it ends as the functions do (Worked*).
use Rattle.std.proofs.Common.{ℕ, List, [], map, Option, Some, None}
use Rattle.pungi_base.specs.declared.choice.Choice.{Choice}
use Rattle.pungi_base.specs.declared.entry.Entry.{Entry}
use Rattle.pungi_base.specs.declared.value.Value.{Value}
use Rattle.pungi_tree.specs.Syntax.{Item}
use Rattle.pungi_resolved.specs.Functions.{ResolvedFunction}
use Rattle.pungi_meaning.specs.Run.{End, OutOfFuel, Run, end_at_once}
use Rattle.pungi_meaning.specs.Todo.{Operation}
use Rattle.pungi_code.specs.declared.code.Code.{Code}
use Rattle.pungi_lower.proofs.Worked.{all_functions_with, last_function_with}
use Rattle.pungi_layout.specs.alike.Correct.{target}
use Rattle.pungi_layout.specs.code.Codes.{code_for}
use Rattle.pungi_layout.specs.code.FunctionCode.{code_of}

abbrev run_of_last : List (Option Code) → Option ResolvedFunction → Entry → List Choice → ℕ → Run
run_of_last codes None entry choices fuel = end_at_once OutOfFuel
run_of_last codes (Some f) entry choices fuel = target codes (code_of f) entry choices fuel

abbrev whole_run : List (List ℕ) → List Item → ℕ → List Value → List Choice → ℕ → Run
whole_run texts file objects args choices fuel =
    run_of_last (map code_for (all_functions_with texts file)) (last_function_with texts file) (record
    { objects = objects; args = args }) choices fuel

-- how a run of the code of the file's last function ends, among the codes of the file, and what it does before, where
-- names have these texts
abbrev pub last_run_with : List (List ℕ) → List Item → ℕ → List Value → List Choice → ℕ → End
last_run_with texts file objects args choices fuel = (whole_run texts file objects args choices fuel).end

abbrev pub last_run : List Item → ℕ → List Value → List Choice → ℕ → End
last_run file objects args choices fuel = last_run_with [] file objects args choices fuel

abbrev pub last_operations : List Item → ℕ → List Value → List Choice → ℕ → List Operation
last_operations file objects args choices fuel = (whole_run [] file objects args choices fuel).ops
