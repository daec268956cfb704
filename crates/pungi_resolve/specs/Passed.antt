-- A function that is resolved: no rule holds in it, where the names of its file are in force.
--   IsPassed env d     what is known of such a function
use Rattle.std.specs.Prelude.{◌≡◌, [], Some, None}
use Rattle.pungi_types.specs.Files.{Definition, definitions, definition_in}
use Rattle.pungi_types.specs.Names.{Env}
use Rattle.pungi_types.specs.Functions.{refusal_in}
use Rattle.pungi_types.specs.Refused.{Holds}

-- no locals are in force around a function, it is the one of its name, each function in which a rule holds is among
-- those that are refused, and no rule holds in this one
pub record IsPassed (env : Env) (d : Definition) : Type 0 where
  pub outside : env.locals ≡ []
  pub own : definition_in (definitions env.file.items) env.self ≡ Some d
  pub others : Holds env.file env.refused
  pub passed : refusal_in env d ≡ None
