-- Which functions reach one of some functions, found backwards along the calls.
--   IsWay ps callees f w   f is the function of this way, or a call from its place reaches that
--   IsStart starts f       f is one of the functions to be reached
--   HasWay ways f          a way was found for f
--   AreWays ps callees starts ways    each function that reaches such a one has a way there, and the
--                          ways are such
--   IsVisited caller place origin old new list list'    a caller has a way; if it had none, it has this one, and waits
--   AreVisited sites origin old new list list'          so it is with all callers of these sites
--   IsWalking ps callees starts ways pending    the ways found so far: a function that a caller without a way calls,
--                          and which has one, waits
--   missing o, to_find ways           how many have none yet
use Rattle.std.specs.Prelude.{◌≡◌, ◌⊎◌, ℕ, ◌+◌, ◌≤◌, Bool, true, List, length, Option, None, Some, slice_get}
use Rattle.std.specs.List.{Contains, sum_by}
use Rattle.pungi_domain.specs.declared.affine_program.AffineProgram.{AffineProgram}
use Rattle.pungi_links.specs.Pending.{IsPending, PendingState}
use Rattle.pungi_links.specs.Ring.{Stands}
use Rattle.pungi_summary.specs.Calls.{IsCallAt, IsCalled, Reaches}
use Rattle.pungi_summary.specs.CallPlaces.{site}
use Rattle.pungi_summary.specs.declared.call_site.CallSite.{CallSite}
use Rattle.pungi_summary.specs.declared.way.Way.{Way}

abbrev pub IsWay : List (Option AffineProgram) → List (List ℕ) → ℕ → Way → Type 0
IsWay ps callees f w = (f ≡ w.origin) ⊎ ((g : ℕ) × IsCallAt ps callees f w.place g × Reaches callees g w.origin)

abbrev pub IsStart : List Bool → ℕ → Type 0
IsStart starts f = slice_get starts f ≡ Some true

abbrev pub HasWay : List (Option Way) → ℕ → Type 0
HasWay ways f = (w : Way) × (slice_get ways f ≡ Some (Some w))

pub record AreWays (ps : List (Option AffineProgram)) (callees : List (List ℕ)) (starts : List Bool)
    (ways : List (Option Way)) : Type 0 where
  pub count : length ways ≡ length ps
  pub sound : (f : ℕ) (w : Way) → slice_get ways f ≡ Some (Some w) → IsWay ps callees f w × IsStart starts w.origin
  pub complete : (f s : ℕ) → slice_get ways f ≡ Some None → Reaches callees f s → IsStart starts s → ⊥

-- ---- the search

abbrev pub missing : Option Way → ℕ
missing None = 1
missing (Some w) = 0

abbrev pub to_find : List (Option Way) → ℕ
to_find ways = sum_by missing ways

pub record IsVisited (caller place origin : ℕ) (old new : List (Option Way)) (list list' : List ℕ) : Type 0 where
  pub count : length new ≡ length old
  pub kept : (f : ℕ) (w : Way) → slice_get old f ≡ Some (Some w) → slice_get new f ≡ Some (Some w)
  pub there : HasWay new caller
  pub only : (f : ℕ) (w : Way) → slice_get new f ≡ Some (Some w) → (slice_get old f ≡ Some (Some w))
      ⊎ ((f ≡ caller) × (w ≡ record { origin = origin; place = place }) × Stands f list')
  pub waits : (f : ℕ) → Stands f list → Stands f list'
  pub work : to_find new + length list' ≤ to_find old + length list

pub record AreVisited (sites : List CallSite) (origin : ℕ) (old new : List (Option Way)) (list list' : List ℕ) : Type 0
  where
    pub count : length new ≡ length old
    pub kept : (f : ℕ) (w : Way) → slice_get old f ≡ Some (Some w) → slice_get new f ≡ Some (Some w)
    pub there : (f k : ℕ) → Contains sites (site f k) → HasWay new f
    pub only : (f : ℕ) (w : Way) → slice_get new f ≡ Some (Some w) → (slice_get old f ≡ Some (Some w))
        ⊎ (Contains sites (site f w.place) × (w.origin ≡ origin) × Stands f list')
    pub waits : (f : ℕ) → Stands f list → Stands f list'
    pub work : to_find new + length list' ≤ to_find old + length list

pub record IsWalking (ps : List (Option AffineProgram)) (callees : List (List ℕ)) (starts : List Bool)
    (ways : List (Option Way)) (pending : PendingState) : Type 0 where
  pub count : length ways ≡ length ps
  pub sound : (f : ℕ) (w : Way) → slice_get ways f ≡ Some (Some w) → IsWay ps callees f w × IsStart starts w.origin
  pub first : (f : ℕ) → IsStart starts f → HasWay ways f
  pub closed : (f g : ℕ) → IsCalled callees f g → HasWay ways g → Stands g pending.list ⊎ HasWay ways f
  pub queue : IsPending pending
  pub limit : pending.limit ≡ length ps
