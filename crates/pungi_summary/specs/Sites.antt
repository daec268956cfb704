-- Where functions are called: for each function a list of call sites.
--   sites_of lists g       the list of a function
--   IsSitePut g s old new  this site was added to the list of g
--   AreCalleesNoted firsts f entry fs old new    a site of f was added to the list of each of these functions, with the
--                          place that the table of first calls has for it
--   AreSites ps callees lists    the lists are of the calls of all functions
use Rattle.std.specs.Prelude.{◌≡◌, ◌⊎◌, ℕ, List, [], Option, length}
use Rattle.std.specs.List.{Contains, slice_index_or}
use Rattle.pungi_domain.specs.declared.affine_program.AffineProgram.{AffineProgram}
use Rattle.pungi_summary.specs.CallPlaces.{IsPlaceIn, site}
use Rattle.pungi_summary.specs.Calls.{IsCallAt, IsCalled}
use Rattle.pungi_summary.specs.declared.call_site.CallSite.{CallSite}

abbrev pub sites_of : List (List CallSite) → ℕ → List CallSite
sites_of lists g = slice_index_or lists g []

pub record IsSitePut (g : ℕ) (s : CallSite) (old new : List (List CallSite)) : Type 0 where
  pub count : length new ≡ length old
  pub kept : (h : ℕ) (t : CallSite) → Contains (sites_of old h) t → Contains (sites_of new h) t
  pub there : Contains (sites_of new g) s
  pub only : (h : ℕ) (t : CallSite) → Contains (sites_of new h) t → Contains (sites_of old h) t ⊎ ((t ≡ s) × (h ≡ g))

pub record AreCalleesNoted (firsts : List (Option CallSite)) (f entry : ℕ) (fs : List ℕ)
    (old new : List (List CallSite)) : Type 0 where
  pub count : length new ≡ length old
  pub kept : (g : ℕ) (s : CallSite) → Contains (sites_of old g) s → Contains (sites_of new g) s
  pub there : (g : ℕ) → Contains fs g → (k : ℕ) × Contains (sites_of new g) (site f k)
  pub only : (g : ℕ) (s : CallSite) → Contains (sites_of new g) s → Contains (sites_of old g) s
      ⊎ ((s.caller ≡ f) × Contains fs g × IsPlaceIn firsts f entry g s.place)

pub record AreSites (ps : List (Option AffineProgram)) (callees : List (List ℕ)) (lists : List (List CallSite))
    : Type 0 where
  pub count : length lists ≡ length ps
  pub there : (f g : ℕ) → IsCalled callees f g → (k : ℕ) × Contains (sites_of lists g) (site f k)
  pub only : (g : ℕ) (s : CallSite) → Contains (sites_of lists g) s → IsCallAt ps callees s.caller s.place g
