-- The traces of runs. A trace is the list of the answers that a run gives to the questions that it asks, the newest
-- first. Quiet, with which an instruction is done that asks nothing more, is no answer. A run counts here in which a
-- computation that is no sum of a token and a constant may give any number.
--   Trace                    a list of answers
--   add_answer d ds          one more answer; Quiet adds none
--   trace_in ds              the answers among decisions
--   IsIn x xs                an element of a list
--   AreDifferent xs          no two elements of a list are equal
--   HasEnded s               a symbolic state has returned or stopped, or its path isn't followed
--   IsTrace statics f code ds    the trace of some run of a code to its end, or to where its path isn't followed
--   states_after code s      the states after the answers that its next question still has
use Rattle.std.specs.Prelude.{◌≡◌, ℕ, ℤ, ◌⊎◌, List, [], ◌∷◌, map}
use Rattle.pungi_base.specs.declared.choice.Choice.{Choice}
use Rattle.pungi_base.specs.declared.entry.Entry.{Entry}
use Rattle.pungi_code.specs.declared.code.Code.{Code}
use Rattle.pungi_code.specs.declared.code.Line.{Line}
use Rattle.pungi_symbol.specs.declared.answers.decision.Decision.{Decision}
use Rattle.pungi_symbol.specs.declared.answers.decision.Decision.TheVariants.{Quiet, Outcome, Order, Same as IsSame}
use Rattle.pungi_symbol.specs.declared.states.known.Status.TheVariants as status
use Rattle.pungi_symbol.specs.declared.states.state.State.{State}
use Rattle.pungi_symbol.specs.answers.SymbolicState.{successors}
use Rattle.pungi_symbol.specs.runs.Paths.{IsFreeRun}

abbrev pub Trace : Type 0
Trace = List Decision

abbrev pub add_answer : Decision → Trace → Trace
add_answer Quiet ds = ds
add_answer (Outcome k) ds = Outcome k ∷ ds
add_answer (Order o) ds = Order o ∷ ds
add_answer (IsSame b) ds = IsSame b ∷ ds

abbrev pub trace_in : List Decision → Trace
trace_in [] = []
trace_in (d ∷ ds) = add_answer d (trace_in ds)

abbrev pub IsIn : {X : Type 0} → X → List X → Type 0
IsIn x [] = ⊥
IsIn x (y ∷ ys) = (x ≡ y) ⊎ IsIn x ys

abbrev pub AreDifferent : {X : Type 0} → List X → Type 0
AreDifferent [] = Unit {0}
AreDifferent (x ∷ xs) = (IsIn x xs → ⊥) × AreDifferent xs

-- ---- runs

abbrev pub HasEnded : State → Type 0
HasEnded s = s.known.status ≡ status.Going → ⊥

pub record IsTrace (statics f : ℕ) (code : Code) (ds : Trace) : Type 0 where
  pub entry : Entry
  pub choices : List Choice
  pub computed : List ℤ
  pub decisions : List Decision
  pub s : State
  pub run : IsFreeRun statics f code entry choices computed decisions s
  pub is : ds ≡ trace_in decisions
  pub over : HasEnded s

-- ---- states

abbrev pub states_after : List Line → State → List State
states_after code s = map (λ p. p.1) (successors code s)
