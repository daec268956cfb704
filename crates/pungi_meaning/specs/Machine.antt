-- The executor's machine as the meaning's state.
--   loop_of, todo_of t      what a task stands for
--   target_of t             what is called
--   todos tasks             what a stack of tasks stands for: the last task is the first thing to do
--   state_of m              the state of a machine
--   functions_of fs         the functions of a file; one in which a rule holds is none
--   frame_of w, frames_of ws    a function that waits, and all that wait; the last is the newest
--   Matches step halt m     what the machine did is this step
--   IfReady result P        an answer that isn't want of memory is so
use Rattle.std.specs.Prelude.{◌≡◌, List, Option, Some, None, option_map, map, drop, reverse}
use Rattle.pungi_resolved.specs.ValueView.{value_view, place_view}
use Rattle.pungi_resolved.specs.ActionView.{action_view, declared_view, function_view}
use Rattle.pungi_resolved.specs.Functions.{ResolvedFunction}
use Rattle.pungi_resolved.specs.declared.function.Function.{Function}
use Rattle.pungi_meaning.specs.declared.task.Task.{Task}
use Rattle.pungi_meaning.specs.declared.task.Task.TheVariants as tasks
use Rattle.pungi_meaning.specs.declared.task.Target as called
use Rattle.pungi_meaning.specs.declared.task.Target.TheVariants as targets
use Rattle.pungi_meaning.specs.declared.task.Turns.{Turns}
use Rattle.pungi_meaning.specs.declared.machine.Machine.{Machine}
use Rattle.pungi_meaning.specs.declared.machine.Waiting.{Waiting}
use Rattle.pungi_meaning.specs.declared.machine.Ending.{Ending}
use Rattle.pungi_meaning.specs.declared.machine.Ending.TheVariants as endings
use Rattle.pungi_meaning.specs.Frames.{Frame}
use Rattle.pungi_meaning.specs.Work.{newest}
use Rattle.pungi_meaning.specs.Todo.{UnlessNull, WithOutputs, ToPostfix}
use Rattle.pungi_meaning.specs.Todo.{Loop, Target, Row, Defined, Todo, ToEval, ToLoad, ToOld}
use Rattle.pungi_meaning.specs.Todo.{ToStep, ToMinus, ToCompute, ToFit}
use Rattle.pungi_meaning.specs.Todo.{ToCompare, ToNot, ToRight, ToTruth, ToPick, ToStore, ToArgs, ToOutputs, ToExec}
use Rattle.pungi_meaning.specs.Todo.{ToForget, ToDeclare, ToBind, ToChoose, ToRest, ToTest, ToTurn, ToAgain}
use Rattle.pungi_meaning.specs.Todo.{ToSwitch, ToSwitchEnd, ToReturn, ToEnd, State, Step, Goes, Calls, Returns}
use Rattle.pungi_meaning.specs.Todo.{Stops, Wants}
use Rattle.pungi_meaning.specs.Todo.{ToEmpty, ToYield}

abbrev pub loop_of : Turns → Loop
loop_of l =
    record {
      test = option_map (λ v. value_view v.now) l.test;
      increment = option_map (λ v. value_view v.now)
          l.increment;
      body = action_view l.body.now;
    }

abbrev pub target_of : called.Target → Target
target_of (targets.Row g) = Row g.now
target_of (targets.UnlessNull g) = UnlessNull g.now
target_of (targets.WithOutputs g steps) = WithOutputs g.now steps.now
target_of (targets.Defined f) = Defined f.now

abbrev pub todo_of : Task → Todo
todo_of (tasks.Eval v) = ToEval (value_view v.now)
todo_of (tasks.Load p kind tag field) = ToLoad p kind tag field
todo_of (tasks.Old kind place) = ToOld kind (place_view place.now)
todo_of (tasks.Step p o kind) = ToStep p o kind
todo_of (tasks.Postfix p m kind place) = ToPostfix p m kind (place_view place.now)
todo_of (tasks.Empty kind place) = ToEmpty kind (place_view place.now)
todo_of (tasks.Yield v) = ToYield v
todo_of (tasks.Minus p kind) = ToMinus p kind
todo_of (tasks.Compute p o kind) = ToCompute p o kind
todo_of (tasks.Fit p kind) = ToFit p kind
todo_of (tasks.Compare p c) = ToCompare p c
todo_of tasks.Negate = ToNot
todo_of (tasks.Right on v) = ToRight on (value_view v.now)
todo_of tasks.Truth = ToTruth
todo_of (tasks.Pick a b) = ToPick (value_view a.now) (value_view b.now)
todo_of (tasks.Store kind place) = ToStore kind (place_view place.now)
todo_of (tasks.Args p t args i) = ToArgs p (target_of t) (map value_view args.now) i
todo_of (tasks.Outputs p steps) = ToOutputs p steps.now
todo_of (tasks.Exec a) = ToExec (action_view a.now)
todo_of tasks.Forget = ToForget
todo_of (tasks.Declare rs) = ToDeclare (map declared_view rs.now)
todo_of (tasks.Bind x) = ToBind x
todo_of (tasks.Choose a b) = ToChoose (action_view a.now) (option_map (λ c. action_view c.now) b)
todo_of (tasks.Rest list i) = ToRest (map action_view list.now) i
todo_of (tasks.Test l) = ToTest (loop_of l)
todo_of (tasks.Turn l) = ToTurn (loop_of l)
todo_of (tasks.Again l) = ToAgain (loop_of l)
todo_of (tasks.Switch p a) = ToSwitch p (action_view a.now)
todo_of tasks.SwitchEnd = ToSwitchEnd
todo_of (tasks.Return p) = ToReturn p
todo_of (tasks.End p v) = ToEnd p v

abbrev pub todos : List Task → List Todo
todos ts = map todo_of (reverse ts)

abbrev pub state_of : Machine → State
state_of m = record { world = m.world; used = m.used.items; locals = m.locals.items; values = reverse m.values.items }

abbrev pub functions_of : List (Option Function) → List (Option ResolvedFunction)
functions_of fs = map (option_map function_view) fs

abbrev pub frame_of : Waiting → Frame
frame_of w =
    record {
      call = w.call;
      has_value = w.has_value;
      todos = todos w.tasks.items;
      locals = w.locals.items;
      values = reverse w.values.items;
    }

abbrev pub frames_of : List Waiting → List Frame
frames_of ws = map frame_of (reverse ws)

-- a call leaves its arguments where they wait
abbrev pub Matches : Step → Option Ending → Machine → Type 0
Matches (Goes os k s) None m = (todos m.tasks.items ≡ k) × (state_of m ≡ s)
Matches (Calls p f b args k s) (Some (endings.Call q g c n)) m =
    (q ≡ p) × (g ≡ f) × (c ≡ b) × (newest n (reverse m.values.items) ≡ args) × (todos m.tasks.items ≡ k)
    × (record (state_of m) { values = drop n (reverse m.values.items) } ≡ s)
Matches (Returns w v p used) (Some (endings.Leave q x)) m = (q ≡ p) × (x ≡ v) × (m.world ≡ w) × (m.used.items ≡ used)
Matches (Stops p) (Some (endings.Stop q)) m = q ≡ p
Matches Wants (Some endings.Want) m = Unit {0}
Matches step halt m = ⊥
