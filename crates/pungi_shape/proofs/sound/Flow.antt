-- What annotations of the programs of a file give, without their numbers for places: claims on vectors at places.
--   Claim                   where a run of a code begins; the codes of its file, and the kinds of the parameters and of
--                           the result of each of its functions; and what is claimed of a vector at a place of the
--                           code, at an exit class of it, and at an exit class of another function
--   AreZero fs v            each of these forms is 0
--   Changes c v u           a change makes u of v
--   IsBeside w z v u x      a vector has the w coordinates of v, and then the z of u
--   Flow code ks claim      the claim holds of every vector at an entry, edges carry it along, and where it holds the
--                           duties of an edge to a place are met
--   MeetsExits code claim   where the claim holds, the duties of an edge to an exit class are met
--   IsCode code ks claim    what is known of the code: it is well-formed, its slots have the kinds that they have in
--                           all codes of the file, and the static objects that it names are among these, each once
use Rattle.std.specs.Prelude.{◌≡◌, ◌≢◌, ℕ, ◌+◌, ◌<◌, pos, List, get_or, [], slice_get, Some}
use Rattle.std.specs.List.{All, AllPairs, IsAmong}
use Rattle.pungi_domain.specs.Vectors.{Vector, dot}
use Rattle.pungi_code.specs.declared.code.Code.{Code}
use Rattle.pungi_code.specs.declared.code.Line.{Line}
use Rattle.pungi_code.specs.WellFormed.{CallKinds, IsWellFormedAmong, AgreeOnKinds}
use Rattle.pungi_shape.specs.declared.shape.Shape.{Shape}
use Rattle.pungi_shape.specs.Forms.{Form}
use Rattle.pungi_shape.specs.Named.{statics_in}
use Rattle.pungi_shape.specs.Shapes.{width_of}
use Rattle.pungi_shape.specs.Places.{Place, at_entry, width_at, entry_shapes}
use Rattle.pungi_shape.specs.Edges.{to_place, to_exit, Change, by_map, by_any, by_exit, Edge, edges_from, call_edges}
use Rattle.pungi_shape.proofs.sound.Views.{Origin}

pub record Claim : Type 1 where
  pub origin : Origin
  pub file : Code → Type 0
  pub callees : ℕ → CallKinds
  pub holds : Place → Vector → Type 0
  pub leaves : Shape → Vector → Type 0
  pub others : ℕ → Shape → Vector → Type 0

abbrev pub AreZero : List Form → Vector → Type 0
AreZero fs v = All (λ f. dot f v ≡ pos 0) fs

abbrev pub Changes : Change → Vector → Vector → Type 0
Changes (by_map rows) v u = (i : ℕ) → u i ≡ dot (get_or rows i []) v
Changes (by_any c) v u = (i : ℕ) → i ≢ c → u i ≡ v i
Changes (by_exit f x onto) v u = ⊥

pub record IsBeside (w z : ℕ) (v u x : Vector) : Type 0 where
  pub first : (i : ℕ) → i < w → x i ≡ v i
  pub second : (i : ℕ) → i < z → x (w + i) ≡ u i

pub record Flow (code : Code) (ks : List ℕ) (claim : Claim) : Type 0 where
  pub enters : (s : Shape) (v : Vector) → IsAmong (entry_shapes ks code) s → claim.holds (at_entry s) v
  pub duties : (q : Place) (e : Edge) (v : Vector) (r : Place) → claim.holds q v → IsAmong (edges_from code q) e
      → AreZero e.guard v → e.goal ≡ to_place r → AreZero e.duties v
  pub edges : (q : Place) (e : Edge) (v u : Vector) (r : Place) → claim.holds q v → IsAmong (edges_from code q) e
      → AreZero e.guard v → Changes e.change v u → e.goal ≡ to_place r → claim.holds r u
  pub exits : (q : Place) (e : Edge) (v u : Vector) (x : Shape) → claim.holds q v → IsAmong (edges_from code q) e
      → AreZero e.guard v → Changes e.change v u → e.goal ≡ to_exit x → claim.leaves x u
  pub calls : (q : Place) (g : ℕ) (x : Shape) (e : Edge) (v u z : Vector) (r : Place) → claim.holds q v
      → claim.others g x u → IsAmong (call_edges code q g x) e → IsBeside (width_at q) (width_of x) v u z
      → e.goal ≡ to_place r → claim.holds r z
  pub same : (q : Place) (v u : Vector) → claim.holds q v → ((i : ℕ) → i < width_at q → u i ≡ v i) → claim.holds q u

abbrev pub MeetsExits : Code → Claim → Type 0
MeetsExits code claim =
    (q : Place) (e : Edge) (v : Vector) (x : Shape) → claim.holds q v → IsAmong (edges_from code q) e
    → AreZero e.guard v → e.goal ≡ to_exit x → AreZero e.duties v

pub record IsCode (code : Code) (ks : List ℕ) (claim : Claim) : Type 0 where
  pub well_formed : IsWellFormedAmong claim.callees code
  pub own : claim.file code
  pub kinds : (c : Code) → claim.file c → AgreeOnKinds code c
  pub statics : (pc : ℕ) (line : Line) (k : ℕ) → slice_get code.instrs pc ≡ Some line → IsAmong (statics_in line) k
      → IsAmong ks k
  pub distinct : AllPairs (λ k l. k ≢ l) ks
