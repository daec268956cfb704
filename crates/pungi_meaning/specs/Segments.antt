-- The run of a called function is a segment of its caller's.
--   followed_by r next    a run, and where it returns, what comes then
--   IsSegment fs choices n frames k s    a run is a segment of each in which other functions wait below these: that one
--                         does the same and ends alike, and where it returns, the newest of the others goes on with the
--                         steps that are left. At least one step was made. A run that did not use up its steps is a
--                         segment in the same way where there are more
--   AreSegments           so is each run
use Rattle.std.specs.Prelude.{◌≡◌, ◌≢◌, ℕ, ◌+◌, ◌-◌, ◌≤◌, List, ◌++◌, Option}
use Rattle.pungi_base.specs.declared.choice.Choice.{Choice}
use Rattle.pungi_base.specs.declared.pos.Pos.{Pos}
use Rattle.pungi_base.specs.declared.value.Value.{Value}
use Rattle.pungi_resolved.specs.Functions.{ResolvedFunction}
use Rattle.pungi_world.specs.declared.world.World.{World}
use Rattle.pungi_meaning.specs.Frames.{Frame}
use Rattle.pungi_meaning.specs.Run.{End, Returned, OutOfFuel, Run, with_operations, after_return, run_from}
use Rattle.pungi_meaning.specs.Todo.{Todo, State}

abbrev pub Next : Type 0
Next = World → Option Value → Pos → List Pos → Run

abbrev pub followed_at : End → Run → Next → Run
followed_at (Returned w v p used) r next = with_operations r.ops (next w v p used)
followed_at e r next = r

abbrev pub followed_by : Run → Next → Run
followed_by r next = followed_at r.end r next

pub record IsSegment (fs : List (Option ResolvedFunction)) (choices : List Choice) (n : ℕ) (frames : List Frame)
    (k : List Todo) (s : State) : Type 0 where
  pub left : ℕ
  pub fewer : left ≤ n - 1
  pub whole : (others : List Frame) → run_from fs choices n (frames ++ others) k s
      ≡ followed_by (run_from fs choices n frames k s) (after_return (run_from fs choices left) others)
  pub longer : (others : List Frame) (more : ℕ) → (run_from fs choices n frames k s).end ≢ OutOfFuel
      → run_from fs choices (n + more) (frames ++ others) k s
      ≡ followed_by (run_from fs choices n frames k s) (after_return (run_from fs choices (left + more)) others)

abbrev pub AreSegments : Type 0
AreSegments =
    (fs : List (Option ResolvedFunction)) (choices : List Choice) (n : ℕ) (frames : List Frame) (k : List Todo)
    (s : State) → IsSegment fs choices n frames k s
