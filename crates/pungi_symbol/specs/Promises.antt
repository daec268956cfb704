-- What the public calls promise, where a code has the judged form.
--   code_of codes f        the code of a function
--   lines_in, lines_of     its instructions, none where there is no code
--   next_states            the states after the next answer
--   IsAdvanced             a state became its only next state, or stayed
--   RunsOn                 a state that another one leads to, by answers that are the only ones
--   HasForm codes f code   this is the code of a function, and it has the judged form
--   Covers                 each run of a function is on a path from its first state, with the trace of the path
--   IsReached              a state is on a path from the first state of its function
--   IsRunOf                a witness is a run to a state, with the trace of each path to it
--   IsShortRunOf           the run is one that is followed, where the code has a loop
--   AtLoop                 a state whose path isn't followed for a loop is at the place of one
--   IsFreeRunOf, HasFreeRun    a witness with these numbers is a run to a state, if a computation that is no sum may
--                          give any number; a state has such a run
--   HasNoRun               no values of the tokens fit a state, nor one that its paths lead to
--   IsOwn                  its tokens have the values by which all tokens differ that weren't merged, and numbers that
--                          meet what the state notes of them
--   HasEachChoice          it has a choice for each token that came with a choice, and no more
--   LevelBy, OffBy         the balances of a state that returned are all level, under the terms of its code; the one
--                          of a token isn't
--   IsLevelIn, IsOffIn     so it is with the state of a function
--   HasReturned            a state has returned
--   HasImmortals           the static objects that aren't counted in a function are there
--   AllLevel               each run to a state that returned is balanced
--   IsUneven, OwnUneven    an object whose change isn't what escaped; the state's own run has one
use Rattle.std.specs.Prelude.{◌≡◌, ℕ, ◌+◌, ◌<◌, ◌≤◌, ℤ, Bool, true, false, List, [], ◌∷◌, length, Option, Some, None}
use Rattle.pungi_base.specs.declared.choice.Choice.{Choice}
use Rattle.pungi_base.specs.declared.entry.Entry.{Entry}
use Rattle.pungi_base.specs.declared.pos.Pos.{Pos}
use Rattle.pungi_base.specs.declared.witness.Witness.{Witness}
use Rattle.pungi_api.specs.Terms.{immortal_count}
use Rattle.pungi_world.specs.Escapes.{IsCounted, IsLevel, IsBalanced}
use Rattle.pungi_code.specs.declared.code.Code.{Code}
use Rattle.pungi_code.specs.declared.code.Codes.{Codes}
use Rattle.pungi_code.specs.declared.code.Line.{Line}
use Rattle.pungi_code.specs.Entries.{code_fits}
use Rattle.pungi_code.specs.Run.{code_at}
use Rattle.pungi_symbol.specs.declared.answers.decision.Decision.{Decision}
use Rattle.pungi_symbol.specs.declared.states.known.Status.{Status}
use Rattle.pungi_symbol.specs.declared.states.known.Status.TheVariants as status
use Rattle.pungi_symbol.specs.declared.states.obstacle.Obstacle.TheVariants as obstacle
use Rattle.pungi_symbol.specs.declared.states.state.State.{State}
use Rattle.pungi_symbol.specs.declared.states.term.Term.{Term}
use Rattle.pungi_symbol.specs.states.Known.{count}
use Rattle.pungi_symbol.specs.answers.SymbolicState.{balance_at, successors}
use Rattle.pungi_symbol.specs.runs.JudgedForm.{has_judged_form}
use Rattle.pungi_symbol.specs.runs.Paths.{argument_count, start_state, Path, Meets, IsCovered, IsModel, HasNoTable}
use Rattle.pungi_symbol.specs.runs.Paths.{canon, IsShort, IsPlaceOf, IsFreeRun, Numbers, values_of}
use Rattle.pungi_symbol.specs.runs.Paths.{table_of, returned_value, wanted, IsLevelState}

abbrev pub lines_in : Option Code → List Line
lines_in None = []
lines_in (Some code) = code.instrs

abbrev pub lines_of : Codes → ℕ → List Line
lines_of codes f = lines_in (code_at codes f)

abbrev pub next_states : Codes → State → List (Decision × State)
next_states codes s = successors (lines_of codes s.known.function) s

abbrev pub IsAdvanced : List Line → State → Bool → State → Type 0
IsAdvanced code s true t = (d : Decision) × (successors code s ≡ (d, t) ∷ [])
IsAdvanced code s false t = t ≡ s

-- each state on the way has one next state
pub data RunsOn (codes : Codes) (s : State) : State → Type 0 where
  is_there : RunsOn codes s s
  runs_on : (t u : State) (d : Decision) → RunsOn codes s t → next_states codes t ≡ (d, u) ∷ [] → RunsOn codes s u

pub record HasForm (codes : Codes) (f : ℕ) (code : Code) : Type 0 where
  pub is : code_at codes f ≡ Some code
  pub form : has_judged_form codes.statics code ≡ true

abbrev pub Covers : Codes → ℕ → Type 0
Covers codes f = (code : Code) → HasForm codes f code → IsCovered codes.statics f code

abbrev pub IsReached : Codes → State → List Decision → Code → Type 0
IsReached codes s ds code =
    HasForm codes s.known.function code × Path code.instrs (start_state codes.statics s.known.function code) ds s

abbrev pub IsRunOf : Codes → State → Witness → Type 0
IsRunOf codes s w = (code : Code) (ds : List Decision) → IsReached codes s ds code
    → (code_fits codes.statics code w.input ≡ true)
    × ((n : ℕ) × Meets codes.statics s.known.function code w.input w.choices n ds s)

abbrev pub IsShortRunOf : Codes → State → Witness → Type 0
IsShortRunOf codes s w = (code : Code) (ds : List Decision) → IsReached codes s ds code
    → (n : ℕ) × (IsShort code n × Meets codes.statics s.known.function code w.input w.choices n ds s)

abbrev pub AtLoop : Codes → State → Type 0
AtLoop codes s = (code : Code) (ds : List Decision) (p : Pos) → IsReached codes s ds code
    → s.known.status ≡ status.Blocked obstacle.Loop p → IsPlaceOf p code.heads

abbrev pub IsFreeRunOf : Codes → State → Witness → List ℤ → Type 0
IsFreeRunOf codes s w computed = (code : Code) (ds : List Decision) → IsReached codes s ds code
    → IsFreeRun codes.statics s.known.function code w.input w.choices computed ds s

abbrev pub HasFreeRun : Codes → State → Type 0
HasFreeRun codes s = (w : Witness) × ((computed : List ℤ) × IsFreeRunOf codes s w computed)

abbrev pub HasNoRun : Codes → State → Type 0
HasNoRun codes s =
    (code : Code) (ds es : List Decision) (last : State) → IsReached codes s ds code → Path code.instrs s es last
    → HasNoTable last

abbrev pub IsOwn : Codes → State → Witness → Type 0
IsOwn codes s w =
    (code : Code) (ds : List Decision) → IsReached codes s ds code
    → (ns : Numbers) × (IsModel s ns × (values_of codes.statics w.input w.choices ≡ canon s ns.tokens))

abbrev pub HasEachChoice : Codes → State → Witness → Type 0
HasEachChoice codes s w =
    (code : Code) (ds : List Decision) → IsReached codes s ds code
    → codes.statics + argument_count code + length w.choices ≡ count s.known

abbrev pub LevelBy : Code → State → Status → Type 0
LevelBy code s status.Going = Unit {0}
LevelBy code s (status.Returned p x) = IsLevelState code s x
LevelBy code s (status.Stopped p) = Unit {0}
LevelBy code s (status.Blocked o p) = Unit {0}

abbrev pub OffBy : Code → State → Status → ℕ → Type 0
OffBy code s status.Going t = ⊥
OffBy code s (status.Returned p x) t =
    (IsCounted code.terms t × (t < count s.known)) × (balance_at s.balances t ≡ wanted code s x t → ⊥)
OffBy code s (status.Stopped p) t = ⊥
OffBy code s (status.Blocked o p) t = ⊥

abbrev pub IsLevelIn : Codes → State → Type 0
IsLevelIn codes s = (code : Code) → code_at codes s.known.function ≡ Some code → LevelBy code s s.known.status

abbrev pub IsOffIn : Codes → State → Type 0
IsOffIn codes s =
    (code : Code) × ((code_at codes s.known.function ≡ Some code) × ((t : ℕ) × OffBy code s s.known.status t))

abbrev pub HasReturned : State → Type 0
HasReturned s = (p : Pos) × ((x : Option Term) × (s.known.status ≡ status.Returned p x))

abbrev pub HasImmortals : Codes → ℕ → Type 0
HasImmortals codes f =
    (code : Code) → code_at codes f ≡ Some code → immortal_count code.terms.profile ≤ codes.statics

abbrev pub AllLevel : Codes → State → Type 0
AllLevel codes s =
    (code : Code) (entry : Entry) (choices : List Choice) (n : ℕ) (ds : List Decision) (p : Pos) (x : Option Term)
    → HasForm codes s.known.function code → HasImmortals codes s.known.function
    → s.known.status ≡ status.Returned p x → code_fits codes.statics code entry ≡ true
    → (r : Meets codes.statics s.known.function code entry choices n ds s)
    → IsBalanced code.terms entry r.m.world (returned_value (table_of codes.statics entry choices r.computed) x)

-- an object of a run whose change differs from what escaped
pub record IsUneven (codes : Codes) (s : State) (code : Code) (entry : Entry) (choices : List Choice) (n : ℕ)
    (ds : List Decision) (x : Option Term) (r : Meets codes.statics s.known.function code entry choices n ds s) :
    Type 0 where
  pub object : ℕ
  pub there : object < length r.m.world.accounts
  pub counted : IsCounted code.terms object
  pub differs : IsLevel code.terms entry r.m.world
      (returned_value (table_of codes.statics entry choices r.computed) x) object → ⊥

abbrev pub OwnUneven : Codes → State → Type 0
OwnUneven codes s =
    (code : Code) (entry : Entry) (choices : List Choice) (n : ℕ) (ds : List Decision) (p : Pos) (x : Option Term)
    (ns : Numbers) → HasForm codes s.known.function code → s.known.status ≡ status.Returned p x
    → code_fits codes.statics code entry ≡ true → IsModel s ns
    → values_of codes.statics entry choices ≡ canon s ns.tokens
    → (r : Meets codes.statics s.known.function code entry choices n ds s)
    → IsUneven codes s code entry choices n ds x r
