-- What a search sees at one state.
--   IsRunAt codes s w          a witness is the run of a state
--   ShowsFault codes s w       a state returned unbalanced in the run of a witness
--   IsOpenAt codes s o p       a free run of a state ends its trace there and leaves the verdict open, for this reason;
--                              where it returned unbalanced, none of its free runs computes with zeros
--   IsEnd codes s seen         what is seen at a state that has returned or stopped
--   IsAtBlock codes s seen     what is seen at one whose path isn't followed
--   IsFollowed s               the path of a state is followed
--   LeadsNowhere s             no run is in a state, nor in one that its paths lead to
--   Keeps ss ts                these states without some that lead nowhere
--   Puts ss old new            these states without some that lead nowhere are put behind the pending ones
--   Visits codes s old new seen    what is seen at any state, and which states are pending then
--   seen_at o seen             the first place that was seen for a number, or for a loop
--   seen_with seen o p         one more place
--   shown_cut, shown_by, shown seen    what is found where no state is pending
use Rattle.std.specs.Prelude.{◌≡◌, List, [], ◌∷◌, ◌++◌, map, Option, Some, None}
use Rattle.pungi_base.specs.declared.pos.Pos.{Pos}
use Rattle.pungi_base.specs.declared.witness.Witness.{Witness}
use Rattle.pungi_code.specs.declared.code.Code.{Code}
use Rattle.pungi_code.specs.declared.code.Codes.{Codes}
use Rattle.pungi_code.specs.Run.{code_at}
use Rattle.pungi_symbol.specs.declared.states.known.Status.TheVariants as status
use Rattle.pungi_symbol.specs.declared.states.obstacle.Obstacle.{Obstacle}
use Rattle.pungi_symbol.specs.declared.states.obstacle.Obstacle.TheVariants as obstacle
use Rattle.pungi_symbol.specs.declared.states.state.State.{State}
use Rattle.pungi_symbol.specs.states.NumberPlaces.{earliest}
use Rattle.pungi_symbol.specs.runs.Paths.{HasNoTable}
use Rattle.pungi_symbol.specs.runs.AtZero.{HasNoZeroTable}
use Rattle.pungi_symbol.specs.Promises.{next_states, AllLevel, HasReturned, OwnUneven, IsRunOf, HasFreeRun, IsOwn}
use Rattle.pungi_symbol.specs.Promises.{HasEachChoice, HasNoRun, IsShortRunOf, AtLoop, IsLevelIn, IsOffIn}
use Rattle.pungi_explore.specs.declared.explored.Explored.{Explored}
use Rattle.pungi_explore.specs.declared.explored.Explored.TheVariants.{AllBalanced, NumberSeen, Cut}
use Rattle.pungi_explore.specs.declared.seen.Seen.{Seen}
use Rattle.pungi_explore.specs.declared.visited.Visited.{Visited}
use Rattle.pungi_explore.specs.declared.visited.Visited.TheVariants.{Goes, Ends, Open, Gone, Unbalanced}
use Rattle.pungi_explore.specs.Traces.{HasEnded}
use Rattle.pungi_explore.specs.Explored.{StandsAt}

pub record IsRunAt (codes : Codes) (s : State) (w : Witness) : Type 0 where
  pub run : IsRunOf codes s w
  pub short : IsShortRunOf codes s w
  pub own : IsOwn codes s w
  pub each : HasEachChoice codes s w

pub record ShowsFault (codes : Codes) (s : State) (w : Witness) : Type 0 where
  pub returned : HasReturned s
  pub uneven : OwnUneven codes s
  pub run_at : IsRunAt codes s w

pub record IsOpenAt (codes : Codes) (s : State) (o : Obstacle) (p : Pos) : Type 0 where
  pub over : HasEnded s
  pub at : (code : Code) → code_at codes s.known.function ≡ Some code → StandsAt code o p s
  pub run : HasFreeRun codes s
  pub at_zero : IsOffIn codes s → HasNoZeroTable s
  pub place : AtLoop codes s

abbrev pub IsEnd : Codes → State → Visited → Type 0
IsEnd codes s Goes = ⊥
IsEnd codes s Ends = AllLevel codes s × (IsLevelIn codes s × HasFreeRun codes s)
IsEnd codes s (Open o p) = IsOpenAt codes s o p
IsEnd codes s Gone = HasNoTable s
IsEnd codes s (Unbalanced w) = ShowsFault codes s w

abbrev pub IsAtBlock : Codes → State → Visited → Type 0
IsAtBlock codes s Goes = ⊥
IsAtBlock codes s Ends = ⊥
IsAtBlock codes s (Open o p) = IsOpenAt codes s o p
IsAtBlock codes s Gone = HasNoTable s
IsAtBlock codes s (Unbalanced w) = ⊥

abbrev pub IsFollowed : State → Type 0
IsFollowed s = (o : Obstacle) (p : Pos) → s.known.status ≡ status.Blocked o p → ⊥

abbrev pub LeadsNowhere : State → Type 0
LeadsNowhere s = (codes : Codes) → HasNoRun codes s

pub data Keeps : List State → List State → Type 0 where
  keeps_none : Keeps [] []
  keeps_one : (s : State) (ss ts : List State) → Keeps ss ts → Keeps (s ∷ ss) (s ∷ ts)
  leaves_out : (s : State) (ss ts : List State) → LeadsNowhere s → Keeps ss ts → Keeps (s ∷ ss) ts

abbrev pub Puts : List State → List State → List State → Type 0
Puts ss old new = (kept : List State) × (Keeps ss kept × (new ≡ old ++ kept))

abbrev pub Visits : Codes → State → List State → List State → Visited → Type 0
Visits codes s old new Goes =
    (s.known.status ≡ status.Going) × Puts (map (λ p. p.1) (next_states codes s)) old new
Visits codes s old new Ends = HasEnded s × (IsFollowed s × (IsEnd codes s Ends × (new ≡ old)))
Visits codes s old new (Open o p) = IsOpenAt codes s o p × (new ≡ old)
Visits codes s old new Gone = HasEnded s × (HasNoTable s × (new ≡ old))
Visits codes s old new (Unbalanced w) = ShowsFault codes s w

abbrev pub seen_at : Obstacle → Seen → Option Pos
seen_at obstacle.Number seen = seen.number
seen_at obstacle.Loop seen = seen.cut

abbrev pub seen_with : Seen → Obstacle → Pos → Seen
seen_with seen obstacle.Number p = record seen { number = Some (earliest seen.number p) }
seen_with seen obstacle.Loop p = record seen { cut = Some (earliest seen.cut p) }

abbrev pub shown_cut : Option Pos → Explored
shown_cut None = AllBalanced
shown_cut (Some p) = Cut p

abbrev pub shown_by : Option Pos → Option Pos → Explored
shown_by None cut = shown_cut cut
shown_by (Some p) cut = NumberSeen p

abbrev pub shown : Seen → Explored
shown seen = shown_by seen.number seen.cut
