-- What an action of the program stands for.
--   declared_view       a local as it is reached
--   action_view         an action
--   actions_of as       a list of actions, as `ResolvedStmts` writes it
--   function_view       a function
--   Node, action_node_step, action_step    an action that waits for its place, and one level of it
use Rattle.std.specs.Prelude.{List, [], ◌∷◌, map}
use Rattle.pungi_base.specs.declared.pos.Pos.{Pos}
use Rattle.pungi_resolved.specs.Actions as plain
use Rattle.pungi_resolved.specs.Functions.{ResolvedFunction}
use Rattle.pungi_resolved.specs.ValueView.{boxed_view, optional_view}
use Rattle.pungi_resolved.specs.declared.action.DeclaredLocal.{DeclaredLocal}
use Rattle.pungi_resolved.specs.declared.action.ActionNode.TheOpen.{ActionNode-F, Action-F}
use Rattle.pungi_resolved.specs.declared.action.Action.{Action, fold-Action}
use Rattle.pungi_resolved.specs.declared.function.Function.{Function}

abbrev pub declared_view : DeclaredLocal → plain.DeclaredLocal
declared_view r = record { number = r.number; at = r.at; kind = r.kind; value = optional_view r.value }

abbrev pub actions_of : List plain.Action → plain.Actions
actions_of [] = plain.no_actions
actions_of (a ∷ rest) = plain.action_and a (actions_of rest)

abbrev pub Node : Type 0
Node = Pos → plain.Action

abbrev pub action_node_step : ActionNode-F Node plain.Action → Node
action_node_step (ActionNode-F.Block as' q) = λ p. plain.block p (actions_of as'.items) q
action_node_step (ActionNode-F.Declare rs) = λ p. plain.declare p (map declared_view rs.items)
action_node_step (ActionNode-F.Do v) = λ p. plain.do_expr p (optional_view v)
action_node_step (ActionNode-F.If c a) = λ p. plain.if_only p (boxed_view c) a.value
action_node_step (ActionNode-F.IfElse c a b) = λ p. plain.if_else p (boxed_view c) a.value b.value
action_node_step (ActionNode-F.While c a) = λ p. plain.while p (boxed_view c) a.value
action_node_step (ActionNode-F.DoWhile a c) = λ p. plain.do_while p a.value (boxed_view c)
action_node_step (ActionNode-F.For rs u c w a) =
    λ p. plain.for p (map declared_view rs.items) (optional_view u) (optional_view c) (optional_view w) a.value
action_node_step (ActionNode-F.Switch v a) = λ p. plain.switch p (boxed_view v) a.value
action_node_step (ActionNode-F.Case n a) = λ p. plain.case p n a.value
action_node_step (ActionNode-F.Default a) = λ p. plain.default p a.value
action_node_step (ActionNode-F.Label n a) = λ p. plain.label p n a.value
action_node_step (ActionNode-F.Goto n) = λ p. plain.goto p n
action_node_step ActionNode-F.Break = λ p. plain.break p
action_node_step ActionNode-F.Continue = λ p. plain.continue p
action_node_step (ActionNode-F.Return k v) = λ p. plain.return p k (optional_view v)

abbrev pub action_step : Action-F Node plain.Action → plain.Action
action_step a = a.node a.pos

abbrev pub action_view : Action → plain.Action
action_view = fold-Action Node plain.Action action_node_step action_step

abbrev pub function_view : Function → ResolvedFunction
function_view f =
    record {
      name = f.name;
      pos = f.pos;
      params = f.params;
      locals = f.locals;
      result = f.result;
      terms = f.terms;
      body = action_view
          f.body;
    }
