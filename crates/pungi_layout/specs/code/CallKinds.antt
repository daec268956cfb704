-- What a call of a function of the file takes and gives.
--   held_kind k          what a variable of a kind of values holds
--   call_params f        what the parameters of a called function hold
--   returned_kind k      what a function returns whose result is of this kind; a void one returns nothing
use Rattle.std.specs.Prelude.{List, map, Option, Some, None}
use Rattle.pungi_api.specs.declared.param.Param.{Param}
use Rattle.pungi_api.specs.declared.param.Param.TheVariants as param
use Rattle.pungi_resolved.specs.declared.callee.CalledFunction.{CalledFunction}
use Rattle.pungi_types.specs.declared.kind.ValueKind.{ValueKind}
use Rattle.pungi_types.specs.declared.kind.ValueKind.TheVariants as kinds

-- no variable is of the last kinds
abbrev pub held_kind : Option ValueKind → Param
held_kind (Some kinds.Int) = param.Int
held_kind (Some kinds.Long) = param.Long
held_kind (Some kinds.Size) = param.Size
held_kind (Some kinds.Text) = param.TextOrNull
held_kind (Some (kinds.Object tag)) = param.ObjectOrNull
held_kind (Some kinds.Null) = param.ModuleDef
held_kind (Some kinds.Void) = param.ModuleDef
held_kind None = param.ModuleDef

abbrev pub call_params : CalledFunction → List Param
call_params f = map held_kind f.params

abbrev pub returned_kind : Option ValueKind → Option Param
returned_kind (Some kinds.Void) = None
returned_kind k = Some (held_kind k)
