-- The functions that wait while one that they called runs (C11 6.5.2.2).
--   Frame               a function that waits: the place of its call, whether the call has a value, what remains to be
--                       done afterwards, its locals, and the values that wait for their operator
--   waiting p b k s     the frame of a function that calls another at a place
--   flatten o, numbered fs n    the function of a number, where it is there and no rule holds in it
--   takes g args        as many arguments are there as the function has parameters
--   param_locals g args     the parameters hold the arguments, and the other locals hold nothing
--   with_params g args s    the state in which a called function begins
--   resumed c w used vs     the state in which a function goes on after its call, with these values
-- A function that is called sees the world and the choices of its caller, and nothing of its locals and values.
use Rattle.std.specs.Prelude.{ℕ, ◌-◌, ◌==◌, Bool, List, [], ◌++◌, length, map, replicate, slice_get, Option, Some}
use Rattle.std.specs.Prelude.{None}
use Rattle.pungi_base.specs.declared.pos.Pos.{Pos}
use Rattle.pungi_base.specs.declared.value.Value.{Value}
use Rattle.pungi_resolved.specs.Functions.{ResolvedFunction}
use Rattle.pungi_world.specs.declared.content.Content.{Content}
use Rattle.pungi_world.specs.declared.content.Content.TheVariants.{Unset, Holds}
use Rattle.pungi_world.specs.declared.world.World.{World}
use Rattle.pungi_meaning.specs.Todo.{Todo, State}

pub record Frame : Type 0 where
  pub call : Pos
  pub has_value : Bool
  pub todos : List Todo
  pub locals : List Content
  pub values : List Value

abbrev pub waiting : Pos → Bool → List Todo → State → Frame
waiting p b k s = record { call = p; has_value = b; todos = k; locals = s.locals; values = s.values }

abbrev pub flatten : Option (Option ResolvedFunction) → Option ResolvedFunction
flatten None = None
flatten (Some f) = f

abbrev pub numbered : List (Option ResolvedFunction) → ℕ → Option ResolvedFunction
numbered fs n = flatten (slice_get fs n)

abbrev pub takes : ResolvedFunction → List Value → Bool
takes g args = length args == length g.params

abbrev pub param_locals : ResolvedFunction → List Value → List Content
param_locals g args = map Holds args ++ replicate (g.locals - length args) Unset

abbrev pub with_params : ResolvedFunction → List Value → State → State
with_params g args s = record s { locals = param_locals g args; values = [] }

abbrev pub resumed : Frame → World → List Pos → List Value → State
resumed c w used vs = record { world = w; used = used; locals = c.locals; values = vs }
