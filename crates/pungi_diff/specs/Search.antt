-- The search for the least lowering of values that meets one more constraint, by Dijkstra's algorithm over the nodes.
-- A gap is how far the value of a node falls. A node is done once it has a rank, its number among those that are done.
--   IsOpen, IsDone rank u               whether the node has no rank yet, or has one
--   lowered value gap u                 the value of a node with its gap
--   want value gap from k               the gap of x that a constraint on `from` requires
--   NoneOpen gap rank                   no open node has a gap below 0
--   IsLeastOpen gap rank u              the node is open, its gap is below 0, and no open node has a lesser one
--   NoneIn, IsLeastIn gap rank fringe   the same among the nodes of a fringe
--   idle_one z, idle_count gap          how many gaps aren't below 0
--   Fringe gap rank fringe              the open nodes with a gap below 0 are all in it, and it has no more nodes than
--                                       have such gaps
--   Lowers gap via k next gap' via'     the gap of x becomes `next`, by this constraint, if it was more
--   Reaches gap rank via k next ..      the same where x is open, and otherwise nothing
--   Stays, Drops ..                     a node is as before, or its gap became what a constraint on `from` requires
--   Relaxes held value rank gap ..      all nodes stay or drop, and the constraints on `from` are met by open nodes
--   open_one n r, open_count rank       how many nodes are open
--   HasVia .. by u                      the constraint holds the node exactly at its place, from a node done before it
--   Searching held value .. new turn    the search after so many nodes are done
--   Lowered held value gap new          the lowered values meet all constraints, and are the greatest that do and lie
--                                       below the old ones
--   Cycles held value .. new            y itself would have to be lowered
--   Ends held value .. new result       the end of a search
use Rattle.std.specs.Prelude.{◌≡◌, ℕ, ◌+◌, ◌<◌, ◌≤◌, ◌⊎◌, ℤ, pos, ◌+ℤ◌, ◌-ℤ◌, ◌≤ℤ◌, ◌<ℤ◌, List, length, slice_index}
use Rattle.std.specs.Prelude.{slice_set, nat_le, if◌then◌else◌, sum_by, Bool, true, false}
use Rattle.std.specs.Int.Signed.{lt_z}
use Rattle.std.specs.List.{All, slice_index_or, Contains}
use Rattle.pungi_diff.specs.declared.constraint.Constraint.{Constraint}
use Rattle.pungi_diff.specs.declared.constraint.TheConstants.{NO_CONSTRAINT}
use Rattle.pungi_diff.specs.Constraint.{at, Meets, Small, Solves}

abbrev pub IsOpen : List ℕ → ℕ → Type 0
IsOpen rank u = length rank ≤ slice_index rank u

abbrev pub IsDone : List ℕ → ℕ → Type 0
IsDone rank u = slice_index rank u < length rank

abbrev pub NoneOpen : List ℤ → List ℕ → Type 0
NoneOpen gap rank = (u : ℕ) → u < length gap → IsOpen rank u → pos 0 ≤ℤ at gap u

pub record IsLeastOpen (gap : List ℤ) (rank : List ℕ) (i : ℕ) : Type 0 where
  pub within : i < length gap
  pub is_open : IsOpen rank i
  pub below : at gap i <ℤ pos 0
  pub least : (u : ℕ) → u < length gap → IsOpen rank u → at gap i ≤ℤ at gap u

abbrev pub NoneIn : List ℤ → List ℕ → List ℕ → Type 0
NoneIn gap rank fringe =
    (p : ℕ) → p < length fringe → IsOpen rank (slice_index fringe p) → pos 0 ≤ℤ at gap (slice_index fringe p)

pub record IsLeastIn (gap : List ℤ) (rank : List ℕ) (fringe : List ℕ) (place : ℕ) : Type 0 where
  pub within : place < length fringe
  pub is_open : IsOpen rank (slice_index fringe place)
  pub below : at gap (slice_index fringe place) <ℤ pos 0
  pub least : (p : ℕ) → p < length fringe → IsOpen rank (slice_index fringe p)
      → at gap (slice_index fringe place) ≤ℤ at gap (slice_index fringe p)

-- 1 for a gap that isn't below 0
abbrev pub idle_one : ℤ → ℕ
idle_one z = if lt_z z (pos 0) then 0 else 1

abbrev pub idle_count : List ℤ → ℕ
idle_count gap = sum_by idle_one gap

pub record Fringe (gap : List ℤ) (rank : List ℕ) (fringe : List ℕ) : Type 0 where
  pub within : All (λ u. u < length gap) fringe
  pub covers : (u : ℕ) → u < length gap → IsOpen rank u → at gap u <ℤ pos 0 → Contains fringe u
  pub few : length fringe + idle_count gap ≤ length gap

abbrev pub lowered : List ℤ → List ℤ → ℕ → ℤ
lowered value gap u = at value u +ℤ at gap u

abbrev pub want : List ℤ → List ℤ → ℕ → Constraint → ℤ
want value gap from k = (lowered value gap from +ℤ k.c) -ℤ at value k.x

abbrev pub Lowers : List ℤ → List Constraint → Constraint → ℤ → List ℤ → List Constraint → Type 0
Lowers gap via k next gap' via' =
    ((next <ℤ at gap k.x) × (gap' ≡ slice_set gap k.x next) × (via' ≡ slice_set via k.x k))
    ⊎ ((at gap k.x ≤ℤ next) × (gap' ≡ gap) × (via' ≡ via))

abbrev pub Reaches : List ℤ → List ℕ → List Constraint → Constraint → ℤ → List ℤ → List Constraint → Type 0
Reaches gap rank via k next gap' via' =
    (IsDone rank k.x × (gap' ≡ gap) × (via' ≡ via)) ⊎ (IsOpen rank k.x × Lowers gap via k next gap' via')

abbrev pub Stays : List ℤ → List ℤ → List Constraint → List Constraint → ℕ → Type 0
Stays gap gap' via via' u =
    (at gap' u ≡ at gap u) × ((d : Constraint) → slice_index_or via' u d ≡ slice_index_or via u d)

pub record Drops (held : List Constraint) (value : List ℤ) (rank : List ℕ) (gap gap' : List ℤ)
    (via' : List Constraint) (from u : ℕ) : Type 0 where
  pub is_open : IsOpen rank u
  pub less : at gap' u <ℤ at gap u
  pub by : Constraint
  pub held_by : Contains held by
  pub here : (d : Constraint) → slice_index_or via' u d ≡ by
  pub to : by.x ≡ u
  pub comes : by.y ≡ from
  pub exact : lowered value gap' u ≡ lowered value gap from +ℤ by.c

pub record Relaxes (held : List Constraint) (value : List ℤ) (rank : List ℕ) (gap : List ℤ) (via : List Constraint)
    (gap' : List ℤ) (via' : List Constraint) (from : ℕ) : Type 0 where
  pub each : (u : ℕ) → u < length value → Stays gap gap' via via' u ⊎ Drops held value rank gap gap' via' from u
  pub met : All (λ k. k.y ≡ from → IsOpen rank k.x → lowered value gap' k.x ≤ℤ (lowered value gap from +ℤ k.c)) held

-- 1 for a rank of an open node
abbrev pub open_one : ℕ → ℕ → ℕ
open_one n r = if nat_le n r then 1 else 0

abbrev pub open_count : List ℕ → ℕ
open_count rank = sum_by (open_one (length rank)) rank

pub record HasVia (held : List Constraint) (value : List ℤ) (rank : List ℕ) (gap : List ℤ) (by : Constraint) (u : ℕ)
    : Type 0 where
  pub held_by : Contains held by
  pub to : by.x ≡ u
  pub within : by.y < length value
  pub comes : IsDone rank by.y
  pub lower_there : at gap by.y <ℤ pos 0
  pub rank_less : slice_index rank by.y < slice_index rank u
  pub exact : lowered value gap u ≡ lowered value gap by.y +ℤ by.c

pub record Searching (held : List Constraint) (value : List ℤ) (rank : List ℕ) (gap : List ℤ)
    (via : List Constraint) (new : Constraint) (t : ℕ) : Type 0 where
  pub gaps : length gap ≡ length value
  pub all_ranks : length rank ≡ length value
  pub vias : length via ≡ length value
  pub relaxed : All (λ k. IsDone rank k.y → lowered value gap k.x ≤ℤ (lowered value gap k.y +ℤ k.c)) held
  pub order : (u w : ℕ) → u < length value → w < length value → IsDone rank u → IsOpen rank w → at gap u ≤ℤ at gap w
  pub floor : (u : ℕ) → u < length value → at gap new.x ≤ℤ at gap u
  pub first : at gap new.x ≡ (at value new.y +ℤ new.c) -ℤ at value new.x
  pub ranks : (u : ℕ) → u < length value → IsDone rank u → slice_index rank u < t
  pub tree : (u : ℕ) → u < length value → at gap u <ℤ pos 0 → (u ≡ new.x → ⊥)
      → HasVia held value rank gap (slice_index_or via u NO_CONSTRAINT) u
  pub greatest : (s : ℕ → ℤ) → Solves s held → Meets s new → ((u : ℕ) → u < length value → s u ≤ℤ at value u)
      → (u : ℕ) → u < length value → s u ≤ℤ lowered value gap u
  pub small : Small value gap held
  pub count : t + open_count rank ≡ length value

pub record Lowered (held : List Constraint) (value gap : List ℤ) (new : Constraint) : Type 0 where
  pub solves : Solves (lowered value gap) held
  pub meets : Meets (lowered value gap) new
  pub greatest : (s : ℕ → ℤ) → Solves s held → Meets s new → ((u : ℕ) → u < length value → s u ≤ℤ at value u)
      → (u : ℕ) → u < length value → s u ≤ℤ lowered value gap u
  pub small : Small value gap held

pub record Cycles (held : List Constraint) (value : List ℤ) (rank : List ℕ) (gap : List ℤ) (via : List Constraint)
    (new : Constraint) : Type 0 where
  pub turn : ℕ
  pub searching : Searching held value rank gap via new turn
  pub below : at gap new.y <ℤ pos 0

abbrev pub Ends : List Constraint → List ℤ → List ℕ → List ℤ → List Constraint → Constraint → Bool → Type 0
Ends held value rank gap via new true = Lowered held value gap new
Ends held value rank gap via new false = Cycles held value rank gap via new
