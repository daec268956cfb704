-- The places of a function's calls. A table has for each function the first call of it in the program that was last
-- gone over of those that call it.
--   EdgeCalls e g          the edge calls g
--   site f k               the call site of a function at a place of its program
--   HasFirst firsts g s    the table's call of g is this one
--   AreBelow firsts n      the calls in the table are of functions below n
--   IsNoted f e old new    where this edge of f calls a function, the table has a call of f for it
--   ArePlaces f p firsts   the calls of f in the table are of edges of its program p, and each function that these call
--                          has one
--   ArePlacesOf f o firsts    so it is where f has a program; else none is of f
--   entry_of o             the first entry of the program, or 0 where there is none
--   IsPlaceIn firsts f entry g k    k is the place of f's call of g in the table; or none is there, and k is the entry
use Rattle.std.specs.Prelude.{◌≡◌, ◌⊎◌, ℕ, ◌<◌, List, Option, None, Some, length, slice_get}
use Rattle.pungi_domain.specs.declared.action.Action.TheVariants.{Call}
use Rattle.pungi_domain.specs.declared.affine_edge.AffineEdge.{AffineEdge}
use Rattle.pungi_domain.specs.declared.affine_program.AffineProgram.{AffineProgram}
use Rattle.pungi_summary.specs.Calls.{CallsFrom, first_entry}
use Rattle.pungi_summary.specs.declared.call_site.CallSite.{CallSite}

pub record EdgeCalls (e : AffineEdge) (g : ℕ) : Type 0 where
  pub class : ℕ
  pub onto : List ℕ
  pub action : e.action ≡ Call g class onto

abbrev pub site : ℕ → ℕ → CallSite
site f k = record { caller = f; place = k }

abbrev pub HasFirst : List (Option CallSite) → ℕ → CallSite → Type 0
HasFirst firsts g s = slice_get firsts g ≡ Some (Some s)

abbrev pub AreBelow : List (Option CallSite) → ℕ → Type 0
AreBelow firsts n = (g : ℕ) (s : CallSite) → HasFirst firsts g s → s.caller < n

pub record IsNoted (f : ℕ) (e : AffineEdge) (old new : List (Option CallSite)) : Type 0 where
  pub count : length new ≡ length old
  pub kept : (g k : ℕ) → HasFirst old g (site f k) → HasFirst new g (site f k)
  pub there : (g : ℕ) → EdgeCalls e g → (k : ℕ) × HasFirst new g (site f k)
  pub only : (g : ℕ) (s : CallSite) → HasFirst new g s
      → HasFirst old g s ⊎ ((s ≡ site f e.from) × EdgeCalls e g)

pub record ArePlaces (f : ℕ) (p : AffineProgram) (firsts : List (Option CallSite)) : Type 0 where
  pub sound : (g k : ℕ) → HasFirst firsts g (site f k) → CallsFrom p k g
  pub complete : (g k : ℕ) → CallsFrom p k g → (j : ℕ) × HasFirst firsts g (site f j)

abbrev pub ArePlacesOf : ℕ → Option AffineProgram → List (Option CallSite) → Type 0
ArePlacesOf f None firsts = (g k : ℕ) → HasFirst firsts g (site f k) → ⊥
ArePlacesOf f (Some p) firsts = ArePlaces f p firsts

abbrev pub entry_of : Option AffineProgram → ℕ
entry_of None = 0
entry_of (Some p) = first_entry p

abbrev pub IsPlaceIn : List (Option CallSite) → ℕ → ℕ → ℕ → ℕ → Type 0
IsPlaceIn firsts f entry g k =
    HasFirst firsts g (site f k) ⊎ (((j : ℕ) → HasFirst firsts g (site f j) → ⊥) × (k ≡ entry))
