-- What the emitters need of a function: so the numbers of its variables and places have 32 bits.
--   IsWithinLimits f    its places are there, the first of its locals are its parameters, and its code has at most
--                       most_instructions instructions and fewer than most_variables variables
--   IsWithinAny o       the same of a function that may be refused
use Rattle.std.specs.Prelude.{◌+◌, ◌*◌, ◌<◌, ◌≤◌, length, Option, Some, None}
use Rattle.pungi_code.specs.Limits.{most_instructions, most_variables}
use Rattle.pungi_resolved.specs.Functions.{ResolvedFunction}
use Rattle.pungi_layout.specs.code.Sizes.{stmt_size}
use Rattle.pungi_layout.specs.code.Sound.{IsStmtSound, stmt_nodes}

-- the last of the instructions is the end of the function
pub record IsWithinLimits (f : ResolvedFunction) : Type 0 where
  pub sound : IsStmtSound f.locals f.body
  pub params : length f.params ≤ f.locals
  pub variables : f.locals + 5 * stmt_nodes f.body < most_variables
  pub instructions : stmt_size f.body + 1 ≤ most_instructions

abbrev pub IsWithinAny : Option ResolvedFunction → Type 0
IsWithinAny None = Unit {0}
IsWithinAny (Some f) = IsWithinLimits f
