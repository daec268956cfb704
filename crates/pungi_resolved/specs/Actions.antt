-- What a statement of a resolved function does: locals by number, conversions written out.
--   DeclaredLocal       a local as it is reached
--   Action, Actions     what statements do
use Rattle.std.specs.Prelude.{ℕ, ℤ, List, Option}
use Rattle.pungi_base.specs.declared.names.Name.{Name}
use Rattle.pungi_base.specs.declared.pos.Pos.{Pos}
use Rattle.pungi_resolved.specs.Values.{Value}
use Rattle.pungi_types.specs.declared.kind.ValueKind.{ValueKind}

-- a local as it is reached: its number and place, and its value, if it has one; without one it becomes unset
pub record DeclaredLocal : Type 0 where
  pub number : ℕ
  pub at : Pos
  pub kind : Option ValueKind
  pub value : Option Value

mutual
  pub data Action : Type 0 where
    block : Pos → Actions → Pos → Action  -- the locals that it declares are unset as it is entered
    declare : Pos → List DeclaredLocal → Action
    do_expr : Pos → Option Value → Action
    if_only : Pos → Value → Action → Action
    if_else : Pos → Value → Action → Action → Action
    while : Pos → Value → Action → Action
    do_while : Pos → Action → Value → Action
    for : Pos → List DeclaredLocal → Option Value → Option Value → Option Value → Action → Action
    switch : Pos → Value → Action → Action
    case : Pos → ℤ → Action → Action
    default : Pos → Action → Action
    label : Pos → Name → Action → Action
    goto : Pos → Name → Action
    break : Pos → Action
    continue : Pos → Action
    return : Pos → Option ValueKind → Option Value → Action  -- the kind of the function's result, and the value

  pub data Actions : Type 0 where
    no_actions : Actions
    action_and : Action → Actions → Actions
