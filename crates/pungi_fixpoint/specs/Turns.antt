-- What one step of the search promises, over the values of a domain with their members.
--   RangeOnly Large result     the fault Range comes only with a row for which the call is large
--   HasNoExit exit a           a call finds no value at the exit class that it names
--   or_else o s                a value, or another where there is none
--   Takes p calls member old new e
--                              each vector that stood at the edge's source and meets its guard is sent to vectors that
--                              stand at its target now
--   IsGrown least member width old to value new
--                              the target took a value in, and all others stayed
--   room width rank st         how often the values can grow, all together
--   IsIndex edges places lists for each place the numbers of the edges that leave it
use Rattle.std.specs.Prelude.{◌≡◌, ℕ, ◌+◌, ◌-◌, ℤ, Bool, List, [], length, Option, None, Some}
use Rattle.std.specs.Prelude.{Result, Ok, Err, slice_get}
use Rattle.std.specs.List.{slice_index_or, sum_by}
use Rattle.pungi_domain.specs.Annotations.{MeetsAll, Sends, set_to}
use Rattle.pungi_domain.specs.Builds.{Covers, Stage, span_at, with_span}
use Rattle.pungi_domain.specs.Programs.{width_at, width_to}
use Rattle.pungi_domain.specs.Vectors.{Vector, Vectors, Either}
use Rattle.pungi_domain.specs.declared.action.Action.{Action}
use Rattle.pungi_domain.specs.declared.action.Action.TheVariants.{Map, Free, Call}
use Rattle.pungi_domain.specs.declared.affine_edge.AffineEdge.{AffineEdge}
use Rattle.pungi_domain.specs.declared.affine_program.AffineProgram.{AffineProgram}
use Rattle.pungi_domain.specs.declared.domain_fault.DomainFault.{DomainFault}
use Rattle.pungi_domain.specs.declared.domain_fault.DomainFault.TheVariants.{Range, Memory}
use Rattle.pungi_domain.specs.declared.target.Target.{Target}
use Rattle.pungi_fixpoint.specs.Solver.{sets}
use Rattle.pungi_links.specs.Ring.{Stands}

abbrev pub RangeOnly : {A : Type 0} → (List ℤ → Type 0) → Result A DomainFault → Type 0
RangeOnly Large (Ok a) = Unit {0}
RangeOnly Large (Err (Range r)) = Large r
RangeOnly Large (Err Memory) = Unit {0}

abbrev pub HasNoExit : {D : Type 0} → (ℕ → ℕ → Option D) → Action → Type 0
HasNoExit exit (Map m) = ⊥
HasNoExit exit (Free c) = ⊥
HasNoExit exit (Call f class onto) = exit f class ≡ None

abbrev pub or_else : {D : Type 0} → Option D → D → D
or_else None s = s
or_else (Some t) s = t

abbrev pub Takes : {D : Type 0} → AffineProgram → (ℕ → ℕ → Vectors) → (D → Vectors) → Stage D → Stage D → AffineEdge
    → Type 0
Takes p calls member old new e =
    (v u : Vector) → sets member old.at e.from v → MeetsAll e.guard v
    → Sends calls (width_at p e.from) (width_to p e.to) e.action v u
    → set_to (sets member new.at) (sets member new.exits) e.to u

pub record IsGrown {D : Type 0} (least : Bool) (member : D → Vectors) (width : D → ℕ) (old : Stage D) (to : Target)
    (value : D) (new : Stage D) : Type 0 where
  pub target : D
  pub target_is : span_at old to ≡ Some target
  pub grown : D
  pub grown_is : new ≡ with_span old to grown
  pub same_width : width grown ≡ width target
  pub covers : Covers least (width target) (Either (member target) (member value)) (member grown)

abbrev pub room : {D : Type 0} → (D → ℕ) → (D → ℕ) → Stage D → ℕ
room width rank st =
    sum_by (λ d. width d + 1 - rank d) st.at + sum_by (λ d. width d + 1 - rank d) st.exits

pub record IsIndex (edges : List AffineEdge) (places : ℕ) (lists : List (List ℕ)) : Type 0 where
  pub all : length lists ≡ places
  pub there : (i : ℕ) (e : AffineEdge) → slice_get edges i ≡ Some e → Stands i (slice_index_or lists e.from [])
  pub only : (k i : ℕ) → Stands i (slice_index_or lists k []) → (e : AffineEdge) × (slice_get edges i ≡ Some e)
      × (e.from ≡ k)
