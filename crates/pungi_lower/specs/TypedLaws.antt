-- What the layout makes of the functions of a file in which no rule holds.
--   IsSoundIfPassed f        its locals are there, each operand has a value, and each place is one
--   IsSmallIfPassed f        its tree and its code are within the limits: at most four instructions for a node of the
--                            text
--   functions_in env         what the functions of a file do in which no rule holds
--   IsWellFormedIfPassed f   its code is well-formed among theirs, returns what its result is, and names only static
--                            objects that are there
--   AgreeIfPassed f g        two of one file read and write each slot with one kind
use Rattle.std.specs.Prelude.{◌≡◌, ◌*◌, ◌≤◌, true, List, length, map, Option}
use Rattle.pungi_api.specs.Rows.{are_rows}
use Rattle.pungi_types.specs.Files.{Definition, definitions}
use Rattle.pungi_types.specs.Names.{Env, statics_in}
use Rattle.pungi_types.specs.Nodes.{function_nodes}
use Rattle.pungi_resolve.specs.Functions.{resolved_in}
use Rattle.pungi_resolved.specs.Functions.{ResolvedFunction}
use Rattle.pungi_code.specs.Limits.{most_instructions, steps_an_instruction}
use Rattle.pungi_code.specs.WellFormed.{IsWellFormedAmong, AgreeOnKinds, has_statics}
use Rattle.pungi_resolve.specs.Passed.{IsPassed}
use Rattle.pungi_resolve.specs.Resolutions.{resolution_of}
use Rattle.pungi_layout.specs.code.Sound.{IsStmtSound, stmt_nodes}
use Rattle.pungi_layout.specs.code.StmtCode.{body_code}
use Rattle.pungi_layout.specs.code.FunctionCode.{code_of, callees_of}
use Rattle.pungi_layout.specs.kinds.Laws.{ReturnsWell}

abbrev pub IsSoundIfPassed : ResolvedFunction → Type 0
IsSoundIfPassed f = (env : Env) (d : Definition) → IsPassed env d → f ≡ resolved_in env d → IsStmtSound f.locals f.body

abbrev pub IsSmallIfPassed : ResolvedFunction → Type 0
IsSmallIfPassed f = (env : Env) (d : Definition) → IsPassed env d → f ≡ resolved_in env d
    → (length f.params ≤ f.locals) × (5 * stmt_nodes f.body ≤ steps_an_instruction)
    × (length (body_code f) ≤ 4 * function_nodes d) × (length (body_code f) ≤ most_instructions)

abbrev pub functions_in : Env → List (Option ResolvedFunction)
functions_in env = map (resolution_of env.file env.refused) (definitions env.file.items)

abbrev pub IsWellFormedIfPassed : ResolvedFunction → Type 0
IsWellFormedIfPassed f =
    (env : Env) (d : Definition) → IsPassed env d → are_rows env.file.rows ≡ true → f ≡ resolved_in env d
    → IsWellFormedAmong (callees_of (functions_in env)) (code_of f)
    × (ReturnsWell (code_of f) × (has_statics (statics_in env.file.items) (code_of f) ≡ true))

abbrev pub AgreeIfPassed : ResolvedFunction → ResolvedFunction → Type 0
AgreeIfPassed f g =
    (env other : Env) (d e : Definition) → env.file ≡ other.file → IsPassed env d → IsPassed other e
    → are_rows env.file.rows ≡ true → are_rows other.file.rows ≡ true
    → f ≡ resolved_in env d → g ≡ resolved_in other e
    → AgreeOnKinds (code_of f) (code_of g)
