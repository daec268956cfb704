-- A run of a function: its steps, one after another, as long as there is fuel.
--   nowhere                       no place of a text
--   at_end                        the end of a function: one that is not void stops there
--   act choices k s               one step: the first thing that remains is done, or leaves its parts and its remainder
--   End                           how a run ends
--   Run                           a run: how it ends, and what it does before, in order
--   end_at_once, with_operations    a run that ends at once; with operations before it
--   entered               a function of the file is called; one that isn't there, and one that takes another number of
--                         arguments, stops at the call (C11 6.5.2.2)
--   with_value, after_call, after_return    where a function that waits goes on; the newest of these, if any. A call
--                         whose value is wanted stops where there is none (C11 6.9.1)
--   run_after             what a step makes of the rest
--   run_from fs choices fuel frames k s    a run of at most so many steps, in a file of these functions, where these
--                         wait
--   closing_brace body            the closing brace of a function's body
--   start, body_of                where the run of a function begins
--   run_of fs f entry choices fuel    the run of a function of a file from an entry
use Rattle.std.specs.Prelude.{ℕ, zero, suc, Bool, true, false, not, List, [], ◌∷◌, ◌++◌, slice_get, Option, Some}
use Rattle.std.specs.Prelude.{None, if◌then◌else◌}
use Rattle.pungi_base.specs.declared.choice.Choice.{Choice}
use Rattle.pungi_base.specs.declared.entry.Entry.{Entry}
use Rattle.pungi_base.specs.declared.pos.Pos.{Pos}
use Rattle.pungi_base.specs.declared.value.Value.{Value}
use Rattle.pungi_resolved.specs.Actions as stmt
use Rattle.pungi_resolved.specs.Functions.{ResolvedFunction}
use Rattle.pungi_types.specs.Operators.{is_void}
use Rattle.pungi_world.specs.declared.world.World.{World}
use Rattle.pungi_world.specs.World.{world_at}
use Rattle.pungi_meaning.specs.Values.{is_true, truth}
use Rattle.pungi_meaning.specs.Frames.{Frame, waiting, numbered, takes, param_locals, with_params, resumed}
use Rattle.pungi_meaning.specs.Todo.{Operation, Entered, Todo, ToEval, ToLoad, ToOld, ToStep, ToMinus, ToPostfix}
use Rattle.pungi_meaning.specs.Todo.{ToCompute, ToFit}
use Rattle.pungi_meaning.specs.Todo.{ToCompare, ToNot, ToRight, ToTruth, ToPick, ToStore, ToArgs, ToOutputs, ToExec}
use Rattle.pungi_meaning.specs.Todo.{ToForget, ToDeclare, ToBind, ToChoose, ToRest, ToTest, ToTurn, ToAgain}
use Rattle.pungi_meaning.specs.Todo.{ToSwitch, ToSwitchEnd, ToReturn, ToEnd, State, Step, Goes, Calls, Returns}
use Rattle.pungi_meaning.specs.Todo.{Stops, Wants}
use Rattle.pungi_meaning.specs.Todo.{ToEmpty, ToYield}
use Rattle.pungi_meaning.specs.Work.{replace_value, top, below, go_on, pop_value}
use Rattle.pungi_meaning.specs.Exprs.{evaluate, load_field, load_old, step_one, minus, compute, fit, compare}
use Rattle.pungi_meaning.specs.Exprs.{right_side, store, next_arg, next_output}
use Rattle.pungi_meaning.specs.Exprs.{step_after, empty_after}
use Rattle.pungi_meaning.specs.Stmts.{execute, declare_next, bind, else_part, test_loop, turn, evaluate_first, switch}
use Rattle.pungi_meaning.specs.Stmts.{next_stmt}

abbrev pub nowhere : Pos
nowhere = record { line = 0; col = 0 }

abbrev pub at_end : Pos → Bool → State → Step
at_end p true s = Returns s.world None p s.used
at_end p false s = Stops p

abbrev pub act : List Choice → List Todo → State → Step
act choices [] s = Stops nowhere
act choices (ToEval v ∷ k) s = evaluate choices v k s
act choices (ToLoad p kind tag field ∷ k) s =
    load_field choices p kind (top s.values) tag field k (record s { values = below s.values })
act choices (ToOld kind place ∷ k) s = load_old choices kind place k s
act choices (ToStep p o kind ∷ k) s = step_one p o kind (top s.values) k s
act choices (ToPostfix p m kind place ∷ k) s = step_after p m kind place (top s.values) k s
act choices (ToEmpty kind place ∷ k) s = empty_after kind place (top s.values) k s
act choices (ToYield v ∷ k) s = replace_value [] v k s
act choices (ToMinus p kind ∷ k) s = minus p kind (top s.values) k s
act choices (ToCompute p o kind ∷ k) s = compute p o kind (top (below s.values)) (top s.values) k s
act choices (ToFit p kind ∷ k) s = fit p kind (top s.values) k s
act choices (ToCompare p c ∷ k) s = compare p c (top (below s.values)) (top s.values) k s
act choices (ToNot ∷ k) s = replace_value [] (truth (not (is_true (top s.values)))) k s
act choices (ToRight on b ∷ k) s = right_side on (top s.values) b k s
act choices (ToTruth ∷ k) s = replace_value [] (truth (is_true (top s.values))) k s
act choices (ToPick a b ∷ k) s = pop_value (ToEval (if is_true (top s.values) then a else b) ∷ k) s
act choices (ToStore kind place ∷ k) s = store choices kind place k s
act choices (ToArgs p t args i ∷ k) s = next_arg choices p t args i (slice_get args i) k s
act choices (ToOutputs p steps ∷ k) s = next_output choices p steps k s
act choices (ToExec a ∷ k) s = execute a k s
act choices (ToForget ∷ k) s = go_on k (record s { values = [] })
act choices (ToDeclare rs ∷ k) s = declare_next rs k s
act choices (ToBind x ∷ k) s = bind x k s
act choices (ToChoose a b ∷ k) s = pop_value (if is_true (top s.values) then ToExec a ∷ k else else_part b k) s
act choices (ToRest list i ∷ k) s = next_stmt list i (slice_get list i) k s
act choices (ToTest loop ∷ k) s = go_on (test_loop loop k) s
act choices (ToTurn loop ∷ k) s = pop_value (turn (is_true (top s.values)) loop k) s
act choices (ToAgain loop ∷ k) s = go_on (evaluate_first loop.increment (ToTest loop ∷ k)) s
act choices (ToSwitch p a ∷ k) s = switch p (top s.values) a k s
act choices (ToSwitchEnd ∷ k) s = go_on k s
act choices (ToReturn p ∷ k) s = Returns s.world (Some (top s.values)) p s.used
act choices (ToEnd p v ∷ k) s = at_end p v s

-- ---- how a run ends

pub data End : Type 0 where
  Returned : World → Option Value → Pos → List Pos → End
  Stopped : Pos → End
  NeedsChoice : End
  OutOfFuel : End

pub record Run : Type 0 where
  pub end : End
  pub ops : List Operation

abbrev pub end_at_once : End → Run
end_at_once e = record { end = e; ops = [] }

abbrev pub with_operations : List Operation → Run → Run
with_operations os r = record { end = r.end; ops = os ++ r.ops }

-- ---- functions

abbrev pub closing_brace : stmt.Action → Pos
closing_brace (stmt.block p ss q) = q
closing_brace a = nowhere

abbrev pub body_of : ResolvedFunction → List Todo
body_of f = ToExec f.body ∷ ToEnd (closing_brace f.body) (is_void f.result) ∷ []

-- ---- calls and runs

-- what comes after a step: the functions that wait, what remains to be done, and the state
abbrev pub Rest : Type 0
Rest = List Frame → List Todo → State → Run

abbrev pub with_value : Rest → List Frame → Frame → World → List Pos → Option Value → Run
with_value go frames c w used None = end_at_once (Stopped c.call)
with_value go frames c w used (Some v) = go frames c.todos (resumed c w used (v ∷ c.values))

abbrev pub after_call : Rest → List Frame → Frame → World → List Pos → Option Value → Run
after_call go frames c w used v =
    if c.has_value then with_value go frames c w used v else go frames c.todos (resumed c w used c.values)

abbrev pub after_return : Rest → List Frame → World → Option Value → Pos → List Pos → Run
after_return go [] w v p used = end_at_once (Returned w v p used)
after_return go (c ∷ frames) w v p used = after_call go frames c w used v

abbrev pub entered : Rest → List Frame → Pos → ℕ → Bool → List Value → List Todo → State → Option ResolvedFunction
    → Run
entered go frames p n b args k s None = end_at_once (Stopped p)
entered go frames p n b args k s (Some g) =
    if takes g args then with_operations (Entered p n args ∷ [])
    (go (waiting p b k s ∷ frames) (body_of g) (with_params g args s)) else end_at_once (Stopped p)

abbrev pub run_after : List (Option ResolvedFunction) → Rest → List Frame → Step → Run
run_after fs go frames (Goes os k s) = with_operations os (go frames k s)
run_after fs go frames (Calls p n b args k s) = entered go frames p n b args k s (numbered fs n)
run_after fs go frames (Returns w v p used) = after_return go frames w v p used
run_after fs go frames (Stops p) = end_at_once (Stopped p)
run_after fs go frames Wants = end_at_once NeedsChoice

abbrev pub run_from : List (Option ResolvedFunction) → List Choice → ℕ → Rest
run_from fs choices zero frames k s = end_at_once OutOfFuel
run_from fs choices (suc fuel) frames k s = run_after fs (run_from fs choices fuel) frames (act choices k s)

abbrev pub start : ResolvedFunction → Entry → State
start f entry = record { world = world_at entry; used = []; locals = param_locals f entry.args; values = [] }

abbrev pub run_of : List (Option ResolvedFunction) → ResolvedFunction → Entry → List Choice → ℕ → Run
run_of fs f entry choices fuel = run_from fs choices fuel [] (body_of f) (start f entry)
