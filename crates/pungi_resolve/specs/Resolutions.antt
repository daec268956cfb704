-- What the functions of a file do in which no rule holds.
--   resolution_of file refused d   what a function does, or none where a rule holds in it
--   resolutions c                  what each function of a checked file does, where no rule holds in it
--   file_functions c               what each does, also where a rule holds in it
--   resolution_view r              the same of the program
--   IsResolved c functions         these are what the functions of a checked file do, and what the code that is made of
--                                  them rests on
use Rattle.std.specs.Prelude.{◌≡◌, ℕ, ◌≤◌, List, length, map, Option, Some, None, is_some, option_map, IsTrue}
use Rattle.std.specs.Prelude.{if◌then◌else◌}
use Rattle.pungi_api.specs.Rows.{are_rows}
use Rattle.pungi_types.specs.Files.{SourceFile, Definition, definitions, AreOwn}
use Rattle.pungi_types.specs.Functions.{refusal}
use Rattle.pungi_types.specs.Limits.{most_functions}
use Rattle.pungi_types.specs.Refused.{CheckedFile, IsRefusedSet}
use Rattle.pungi_resolved.specs.ActionView.{function_view}
use Rattle.pungi_resolved.specs.Functions.{ResolvedFunction}
use Rattle.pungi_resolved.specs.declared.function.Function.{Function}
use Rattle.pungi_resolve.specs.Functions.{resolved}

abbrev pub resolution_of : SourceFile → List ℕ → Definition → Option ResolvedFunction
resolution_of file refused d = (if is_some (refusal file refused d) then None else Some (resolved file refused d))

abbrev pub resolutions : CheckedFile → List (Option ResolvedFunction)
resolutions c = map (resolution_of c.file c.refused) (definitions c.file.items)

abbrev pub file_functions : CheckedFile → List (Option ResolvedFunction)
file_functions c = map (λ d. Some (resolved c.file c.refused d)) (definitions c.file.items)

abbrev pub resolution_view : Option Function → Option ResolvedFunction
resolution_view r = option_map function_view r

-- each function is the one of its name, the refused ones are the least set that holds each in which a rule holds, the
-- rows are well-formed, and there are no more functions than a file may have
pub record IsResolved (c : CheckedFile) (functions : List (Option ResolvedFunction)) : Type 0 where
  pub are : functions ≡ resolutions c
  pub own : AreOwn (definitions c.file.items) (definitions c.file.items)
  pub set : IsRefusedSet c.file c.refused
  pub rows : IsTrue (are_rows c.file.rows)
  pub few : length (definitions c.file.items) ≤ most_functions
