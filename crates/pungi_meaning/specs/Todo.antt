-- What remains to be done in a run, and where a run stands.
--   Loop                a loop's test, what it does after its body, and its body
--   Operation           what a step does that can be seen from outside: arithmetic and conversions with their operands,
--                       comparisons, loads and stores of slots, calls of the API and of functions of the file; each
--                       with its place in the text
--   Target              what is called: the API, or a function of the file
--   Todo                a node that is to be done, or the remainder of a node
--   State               the world, the places of the choices that were used, the locals, and the values that wait for
--                       their operator, the newest first
--   Step                a step goes on, calls a function of the file, returns, stops at a place, or needs a choice that
--                       isn't there or isn't accepted
--   listed, listed_values    the statements of a block, the arguments of a call
use Rattle.std.specs.Prelude.{ℕ, ℤ, Bool, List, [], ◌∷◌, Option}
use Rattle.pungi_base.specs.declared.kind.Kind.{Kind}
use Rattle.pungi_base.specs.declared.names.Name.{Name}
use Rattle.pungi_base.specs.declared.pos.Pos.{Pos}
use Rattle.pungi_base.specs.declared.value.Value.{Value}
use Rattle.pungi_api.specs.declared.signature.Signature.{Signature}
use Rattle.pungi_resolved.specs.declared.callee.CalledFunction.{CalledFunction}
use Rattle.pungi_resolved.specs.declared.output_step.OutputStep.{OutputStep}
use Rattle.pungi_resolved.specs.Values as expr
use Rattle.pungi_resolved.specs.Actions as stmt
use Rattle.pungi_types.specs.declared.kind.ValueKind.{ValueKind}
use Rattle.pungi_world.specs.declared.content.Content.{Content}
use Rattle.pungi_world.specs.declared.effect.Effect.{Effect}
use Rattle.pungi_world.specs.declared.slot.Slot.{Slot}
use Rattle.pungi_world.specs.declared.world.World.{World}
use Rattle.pungi_meaning.specs.declared.op.Op.{Op}
use Rattle.pungi_meaning.specs.declared.cmp.Cmp.{Cmp}

pub record Loop : Type 0 where
  pub test : Option expr.Value  -- none holds always
  pub increment : Option expr.Value
  pub body : stmt.Action

pub data Operation : Type 0 where
  Computed : Pos → Op → ValueKind → Value → Value → Operation
  Fitted : Pos → ValueKind → Value → Operation
  Compared : Pos → Cmp → Value → Value → Operation
  Loaded : Pos → Slot → Option Value → Operation
  Stored : Pos → Slot → Value → Operation
  Called : Pos → Signature → List Value → Effect → Operation
  Entered : Pos → ℕ → List Value → Operation  -- a function of the file is called, by its number

pub data Target : Type 0 where
  Row : Signature → Target
  UnlessNull : Signature → Target  -- NULL is returned where an argument that is an object is NULL
  WithOutputs : Signature → List OutputStep → Target  -- a number is returned, and then these steps come
  Defined : CalledFunction → Target

pub data Todo : Type 0 where
  -- expressions
  ToEval : expr.Value → Todo
  ToLoad : Pos → ValueKind → Name → Name → Todo  -- of `->`: its base waits
  ToOld : ValueKind → expr.Place → Todo
      -- what a place that is written afterwards holds; the base of a field waits and stays
  ToStep : Pos → Op → ValueKind → Todo  -- of `++` and `--`
  ToPostfix : Pos → Kind → ValueKind → expr.Place → Todo  -- of `++` and `--` after a place, whose old content waits
  ToEmpty : ValueKind → expr.Place → Todo  -- of a place that is to hold NULL, whose old content waits
  ToYield : Value → Todo  -- this value, in place of the newest one
  ToMinus : Pos → ValueKind → Todo
  ToCompute : Pos → Op → ValueKind → Todo
  ToFit : Pos → ValueKind → Todo
  ToCompare : Pos → Cmp → Todo
  ToNot : Todo
  ToRight : Bool → expr.Value → Todo  -- of `&&` and `||`: the right side is wanted where the left is so
  ToTruth : Todo
  ToPick : expr.Value → expr.Value → Todo
  ToStore : ValueKind → expr.Place → Todo
  ToArgs : Pos → Target → List expr.Value → ℕ → Todo  -- of a call: all arguments, and the place of the next one
  ToOutputs : Pos → List OutputStep → Todo  -- of a call that writes variables: its number waits, these steps are left
  -- statements
  ToExec : stmt.Action → Todo
  ToForget : Todo
  ToDeclare : List stmt.DeclaredLocal → Todo  -- of a declaration: the variables that are left
  ToBind : ℕ → Todo
  ToChoose : stmt.Action → Option stmt.Action → Todo
  ToRest : List stmt.Action → ℕ → Todo  -- of a block: all statements, and the place of the next one
  ToTest : Loop → Todo  -- in front of a further turn
  ToTurn : Loop → Todo  -- after the test
  ToAgain : Loop → Todo  -- after the body
  ToSwitch : Pos → stmt.Action → Todo
  ToSwitchEnd : Todo
  ToReturn : Pos → Todo
  ToEnd : Pos → Bool → Todo  -- the closing brace of a function, which is void or not

pub record State : Type 0 where
  pub world : World
  pub used : List Pos
  pub locals : List Content
  pub values : List Value

pub data Step : Type 0 where
  Goes : List Operation → List Todo → State → Step
  Calls : Pos → ℕ → Bool → List Value → List Todo → State
      → Step  -- its number, and whether it has a value; what remains afterwards, and the state without the arguments
  Returns : World → Option Value → Pos → List Pos → Step
  Stops : Pos → Step
  Wants : Step

abbrev pub listed : stmt.Actions → List stmt.Action
listed stmt.no_actions = []
listed (stmt.action_and a rest) = a ∷ listed rest

abbrev pub listed_values : expr.Values → List expr.Value
listed_values expr.no_values = []
listed_values (expr.value_and v rest) = v ∷ listed_values rest
