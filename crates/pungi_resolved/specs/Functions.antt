-- A function with its names resolved.
--   ResolvedFunction    its name and place, the kinds of its parameters, how many locals it has, the kind of its
--                       result, the terms under which it is judged, and its body
use Rattle.std.specs.Prelude.{ℕ, List, Option}
use Rattle.pungi_base.specs.declared.names.Name.{Name}
use Rattle.pungi_base.specs.declared.pos.Pos.{Pos}
use Rattle.pungi_api.specs.declared.terms.Terms.{Terms}
use Rattle.pungi_resolved.specs.Actions.{Action}
use Rattle.pungi_types.specs.declared.kind.ValueKind.{ValueKind}

-- a function with its names resolved: the parameters are the first of its locals, and are counted among them
pub record ResolvedFunction : Type 0 where
  pub name : Name
  pub pos : Pos
  pub params : List (Option ValueKind)
  pub locals : ℕ
  pub result : Option ValueKind
  pub terms : Terms
  pub body : Action
