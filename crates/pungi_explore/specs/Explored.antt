-- What exploring the states of a function shows of its runs (Li and Tan, ECOOP 2014, for when a return is balanced). A
-- path isn't followed past the second time at a loop's head, and, where there is a loop, past 16,384 instructions. A
-- run is blocked where its path isn't followed. A computation whose result is no sum of a token and a constant may give
-- any number here; a run in which one does so is a free run.
--   most_traces                   how many traces of a function are explored
--   HasFew, HasMany               a code has at most that many traces, and all its runs end within some number of
--                                 instructions, need a choice that isn't there or are blocked; it has more traces
--   ExcludeEachOther codes f      no code has both
--   Returns                       a run returns: after so many instructions, in this world, with this value
--   AreBalanced statics code      each run that returns is balanced
--   ComputesNone .. entry choices    a run has no computation whose result is no such sum
--   ComputesWithZeros .. entry choices n    after so many instructions a run is in a state on whose path each token
--                                 that enters such a computation is 0
--   IsTried .. entry choices n    a run isn't blocked and has no such computation, or it is in such a state then
--   AreFollowedBalanced statics f code    each run that is so at its return is balanced
--   AreLevelAtZero statics f code    no free run in which each token that enters such a computation is 0, and its
--                                 result is what its operator gives, returns unbalanced
--   IsNeverBlocked statics f code no run is blocked
--   IsOffAt code p s              a free run in a state returns unbalanced, and its path is reported by this place
--   StandsAt code o p s           so is it in a state, or its path isn't followed there, for this reason
--   ComesTo .. o p                a free run comes to such a state
--   SeesNoNumber statics f code   none comes to one for a number
--   FirstPlace statics f code o p a free run comes to such a state at this place, none to one at an earlier place, and
--                                 none that computes with zeros returns unbalanced; each run that returns is balanced
--                                 if it isn't blocked and has no such computation, or computes with zeros
--   FirstLoop statics f code p    the same for loops, where none comes to one for a number; the place is that of a loop
--   IsFaultRun statics code w     this run returns unbalanced
--   IsUnbalanced statics f code   some run that isn't blocked and has no such computation, or computes with zeros,
--                                 returns unbalanced
--   HasJudgedForm codes f         the code of a function has the judged form, where there is one
--   IsFew, IsMany codes f         the code of a function has at most as many traces as are explored; it has more
--   AreFollowed codes f           no run of it is blocked
--   IsFirstNumber, IsFirstLoop codes f p    this is the first place of its code for a number, or for a loop
--   IsExplored codes f e          what was found is so
--   FindsFault codes f e          it is a fault where there is one and the traces are few
use Rattle.std.specs.Prelude.{◌≡◌, ℕ, ℤ, ◌+◌, ◌<◌, ◌≤◌, ◌⊎◌, true, false, List, [], length, Option, Some}
use Rattle.pungi_base.specs.declared.choice.Choice.{Choice}
use Rattle.pungi_base.specs.declared.entry.Entry.{Entry}
use Rattle.pungi_base.specs.declared.pos.Pos.{Pos}
use Rattle.pungi_base.specs.declared.value.Value.{Value}
use Rattle.pungi_base.specs.declared.witness.Witness.{Witness}
use Rattle.pungi_world.specs.declared.world.World.{World}
use Rattle.pungi_world.specs.Escapes.{IsCounted, IsLevel, IsBalanced}
use Rattle.pungi_meaning.specs.Run as run
use Rattle.pungi_code.specs.declared.code.Code.{Code}
use Rattle.pungi_code.specs.declared.code.Codes.{Codes}
use Rattle.pungi_code.specs.Alike.{IsOver}
use Rattle.pungi_code.specs.Entries.{code_fits}
use Rattle.pungi_code.specs.Run.{code_at}
use Rattle.pungi_symbol.specs.declared.answers.decision.Decision.{Decision}
use Rattle.pungi_symbol.specs.declared.states.known.Status.TheVariants as status
use Rattle.pungi_symbol.specs.declared.states.obstacle.Obstacle.{Obstacle}
use Rattle.pungi_symbol.specs.declared.states.obstacle.Obstacle.TheVariants as obstacle
use Rattle.pungi_symbol.specs.states.NumberPlaces.{is_earlier}
use Rattle.pungi_symbol.specs.answers.KnownAfter.{number_place}
use Rattle.pungi_symbol.specs.runs.Paths.{run_for, table_of, Meets, IsFreeRun, IsBlocked, IsShort, IsPlaceOf}
use Rattle.pungi_symbol.specs.runs.AtZero.{IsAtZero}
use Rattle.pungi_symbol.specs.Promises.{OffBy}
use Rattle.pungi_symbol.specs.runs.JudgedForm.{has_judged_form}
use Rattle.pungi_symbol.specs.declared.states.state.State.{State}
use Rattle.pungi_explore.specs.declared.explored.Explored.{Explored}
use Rattle.pungi_explore.specs.declared.explored.Explored.TheVariants.{AllBalanced, Fault, NumberSeen, Cut, TooMany}
use Rattle.pungi_explore.specs.Traces.{Trace, IsIn, AreDifferent, IsTrace}

abbrev pub most_traces : ℕ
most_traces = 16384

pub record HasFew (codes : Codes) (f : ℕ) (code : Code) : Type 0 where
  pub traces : List Trace
  pub few : length traces ≤ most_traces
  pub all : (ds : Trace) → IsTrace codes.statics f code ds → IsIn ds traces
  pub steps : ℕ
  pub ends : (entry : Entry) (choices : List Choice) → code_fits codes.statics code entry ≡ true
      → (IsBlocked codes.statics f code entry choices → ⊥) → IsOver (run_for code entry choices steps)

pub record HasMany (codes : Codes) (f : ℕ) (code : Code) : Type 0 where
  pub traces : List Trace
  pub many : length traces ≡ most_traces + 1
  pub different : AreDifferent traces
  pub each : (ds : Trace) → IsIn ds traces → IsTrace codes.statics f code ds

abbrev pub ExcludeEachOther : Codes → ℕ → Type 0
ExcludeEachOther codes f = (code : Code) → HasFew codes f code → HasMany codes f code → ⊥

pub record Returns (statics : ℕ) (code : Code) (entry : Entry) (choices : List Choice) (world : World)
    (value : Option Value) : Type 0 where
  pub fits : code_fits statics code entry ≡ true
  pub steps : ℕ
  pub pos : Pos
  pub used : List Pos
  pub is : run_for code entry choices steps ≡ run.Returned world value pos used

abbrev pub AreBalanced : ℕ → Code → Type 0
AreBalanced statics code =
    (entry : Entry) (choices : List Choice) (world : World) (value : Option Value)
    → Returns statics code entry choices world value → IsBalanced code.terms entry world value

-- ---- runs that are blocked

-- a run computes no number that is no sum of a token and a constant
abbrev pub ComputesNone : ℕ → ℕ → Code → Entry → List Choice → Type 0
ComputesNone statics f code entry choices =
    (n : ℕ) (ds : List Decision) (s : State) → Meets statics f code entry choices n ds s → s.known.computed ≡ []

-- the results of its computations are the run's own
pub record ComputesWithZeros (statics f : ℕ) (code : Code) (entry : Entry) (choices : List Choice) (n : ℕ) :
    Type 0 where
  pub decisions : List Decision
  pub s : State
  pub meets : Meets statics f code entry choices n decisions s
  pub zeros : IsAtZero (table_of statics entry choices meets.computed) s.known

abbrev pub IsTried : ℕ → ℕ → Code → Entry → List Choice → ℕ → Type 0
IsTried statics f code entry choices n =
    ((IsBlocked statics f code entry choices → ⊥) × ComputesNone statics f code entry choices)
    ⊎ ComputesWithZeros statics f code entry choices n

abbrev pub AreFollowedBalanced : ℕ → ℕ → Code → Type 0
AreFollowedBalanced statics f code =
    (entry : Entry) (choices : List Choice) (world : World) (value : Option Value)
    → (r : Returns statics code entry choices world value) → IsTried statics f code entry choices r.steps
    → IsBalanced code.terms entry world value

abbrev pub AreLevelAtZero : ℕ → ℕ → Code → Type 0
AreLevelAtZero statics f code =
    (entry : Entry) (choices : List Choice) (computed : List ℤ) (ds : List Decision) (s : State) (t : ℕ)
    → IsFreeRun statics f code entry choices computed ds s
    → IsAtZero (table_of statics entry choices computed) s.known → OffBy code s s.known.status t → ⊥

abbrev pub IsNeverBlocked : ℕ → ℕ → Code → Type 0
IsNeverBlocked statics f code =
    (entry : Entry) (choices : List Choice) → code_fits statics code entry ≡ true
    → IsBlocked statics f code entry choices → ⊥

-- a state returned unbalanced on a path with a computation that is no sum; the path is reported by this place
abbrev pub IsOffAt : Code → Pos → State → Type 0
IsOffAt code p s = ((t : ℕ) × OffBy code s s.known.status t) × (number_place s.known ≡ Some p)

abbrev pub StandsAt : Code → Obstacle → Pos → State → Type 0
StandsAt code obstacle.Number p s = (s.known.status ≡ status.Blocked obstacle.Number p) ⊎ IsOffAt code p s
StandsAt code obstacle.Loop p s = s.known.status ≡ status.Blocked obstacle.Loop p

pub record ComesTo (statics f : ℕ) (code : Code) (entry : Entry) (choices : List Choice) (computed : List ℤ)
    (o : Obstacle) (p : Pos) : Type 0 where
  pub decisions : List Decision
  pub s : State
  pub run : IsFreeRun statics f code entry choices computed decisions s
  pub at : StandsAt code o p s

abbrev pub SeesNoNumber : ℕ → ℕ → Code → Type 0
SeesNoNumber statics f code =
    (entry : Entry) (choices : List Choice) (computed : List ℤ) (p : Pos)
    → ComesTo statics f code entry choices computed obstacle.Number p → ⊥

pub record FirstPlace (statics f : ℕ) (code : Code) (o : Obstacle) (p : Pos) : Type 0 where
  pub entry : Entry
  pub choices : List Choice
  pub computed : List ℤ
  pub comes : ComesTo statics f code entry choices computed o p
  pub first : (other : Entry) (given : List Choice) (numbers : List ℤ) (q : Pos)
      → ComesTo statics f code other given numbers o q → is_earlier q p ≡ false
  pub at_zero : AreLevelAtZero statics f code
  pub followed : AreFollowedBalanced statics f code

pub record FirstLoop (statics f : ℕ) (code : Code) (p : Pos) : Type 0 where
  pub first : FirstPlace statics f code obstacle.Loop p
  pub no_number : SeesNoNumber statics f code
  pub place : IsPlaceOf p code.heads

-- ---- faults

-- its choices are those that it uses
pub record IsFaultRun (statics : ℕ) (code : Code) (w : Witness) : Type 0 where
  pub world : World
  pub value : Option Value
  pub returns : Returns statics code w.input w.choices world value
  pub short : IsShort code returns.steps
  pub all_used : length returns.used ≡ length w.choices
  pub object : ℕ
  pub there : object < length world.accounts
  pub counted : IsCounted code.terms object
  pub differs : IsLevel code.terms w.input world value object → ⊥

pub record IsUnbalanced (statics f : ℕ) (code : Code) : Type 0 where
  pub entry : Entry
  pub choices : List Choice
  pub world : World
  pub value : Option Value
  pub returns : Returns statics code entry choices world value
  pub tried : IsTried statics f code entry choices returns.steps
  pub differs : IsBalanced code.terms entry world value → ⊥

-- ---- what was found

abbrev pub HasJudgedForm : Codes → ℕ → Type 0
HasJudgedForm codes f = (code : Code) → code_at codes f ≡ Some code → has_judged_form codes.statics code ≡ true

abbrev pub IsFew : Codes → ℕ → Type 0
IsFew codes f = (code : Code) → code_at codes f ≡ Some code → HasFew codes f code

abbrev pub IsMany : Codes → ℕ → Type 0
IsMany codes f = (code : Code) → code_at codes f ≡ Some code → HasMany codes f code

abbrev pub AreFollowed : Codes → ℕ → Type 0
AreFollowed codes f = (code : Code) → code_at codes f ≡ Some code → IsNeverBlocked codes.statics f code

abbrev pub IsFirstNumber : Codes → ℕ → Pos → Type 0
IsFirstNumber codes f p =
    (code : Code) → code_at codes f ≡ Some code → FirstPlace codes.statics f code obstacle.Number p

abbrev pub IsFirstLoop : Codes → ℕ → Pos → Type 0
IsFirstLoop codes f p = (code : Code) → code_at codes f ≡ Some code → FirstLoop codes.statics f code p

abbrev pub IsExplored : Codes → ℕ → Explored → Type 0
IsExplored codes f AllBalanced =
    (code : Code) → code_at codes f ≡ Some code
    → AreBalanced codes.statics code × (HasFew codes f code × IsNeverBlocked codes.statics f code)
IsExplored codes f (Fault w) = (code : Code) → code_at codes f ≡ Some code → IsFaultRun codes.statics code w
IsExplored codes f (NumberSeen p) = IsFirstNumber codes f p
IsExplored codes f (Cut p) = IsFirstLoop codes f p
IsExplored codes f TooMany = IsMany codes f

abbrev pub FindsFault : Codes → ℕ → Explored → Type 0
FindsFault codes f e =
    (code : Code) → code_at codes f ≡ Some code → HasFew codes f code → IsUnbalanced codes.statics f code
    → (w : Witness) × (e ≡ Fault w)
