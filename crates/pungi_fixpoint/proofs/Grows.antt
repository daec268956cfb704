-- What a turn keeps: all members stay, and only the target changes.
use Rattle.std.proofs.Common.{◌≡◌, ℕ, ◌⊎◌, inl, inr, Bool, List, Option, Some, refl, sym, subst, arith, All}
use Rattle.std.proofs.Common.{slice_get, slice_index_or}
use Rattle.std.proofs.lemmas.Bool.{cases_eq}
use Rattle.pungi_domain.specs.Annotations.{IsInductive, set_to}
use Rattle.pungi_domain.specs.Builds.{IsBuilt, Stage, Turn, built_first, built_on, span_at, with_span}
use Rattle.pungi_domain.specs.Programs.{IsWellFormed}
use Rattle.pungi_domain.specs.Vectors.{Vector, Vectors}
use Rattle.pungi_domain.specs.declared.affine_edge.AffineEdge.{AffineEdge}
use Rattle.pungi_domain.specs.declared.affine_program.AffineProgram.{AffineProgram}
use Rattle.pungi_domain.specs.declared.target.Target.{Target}
use Rattle.pungi_domain.specs.declared.target.Target.TheVariants.{Place, Exit}
use Rattle.pungi_fixpoint.specs.Solver.{sets}
use Rattle.pungi_fixpoint.specs.Turns.{Takes}
use Rattle.pungi_links.specs.Ring.{Stands}
use Rattle.pungi_fixpoint.proofs.Gets.{set_other}
use Rattle.pungi_fixpoint.proofs.Lists.{get_within}
use Rattle.pungi_fixpoint.proofs.Sets.{set_grows, set_there}

with_grows : {D : Type 0} (member : D → Vectors) (st : Stage D) (to : Target) (x y : D) → span_at st to ≡ Some x
    → ((v : Vector) → member x v → member y v) → (t : Target) (v : Vector)
    → set_to (sets member st.at) (sets member st.exits) t v
    → set_to (sets member (with_span st to y).at) (sets member (with_span st to y).exits) t v
with_grows member st (Place k) x y e grows (Place j) v m = set_grows member st.at k j x y e grows v m
with_grows member st (Place k) x y e grows (Exit j) v m = m
with_grows member st (Exit k) x y e grows (Place j) v m = m
with_grows member st (Exit k) x y e grows (Exit j) v m = set_grows member st.exits k j x y e grows v m

pub turn_grows : {D : Type 0} (least : Bool) (member : D → Vectors) (p : AffineProgram) (exit : ℕ → ℕ → Option D)
    (e : AffineEdge) (old new : Stage D) → Turn least member p exit e old new → (t : Target) (v : Vector)
    → set_to (sets member old.at) (sets member old.exits) t v
    → set_to (sets member new.at) (sets member new.exits) t v
turn_grows {D} least member p exit e old new turn t v m =
    subst (λ (st : Stage D). set_to (sets member st.at) (sets member st.exits) t v) (sym turn.others)
    (with_grows member old e.to turn.target turn.value turn.target_is (λ u h. turn.grown.0 u (inl h)) t v m)

with_places : {D : Type 0} (st : Stage D) (to : Target) (y : D) (list : List ℕ)
    → ((k : ℕ) → to ≡ Place k → Stands k list) → (k : ℕ)
    → Stands k list ⊎ (slice_get (with_span st to y).at k ≡ slice_get st.at k)
with_places st (Place j) y list put k =
    elim (cases_eq k j) [
      | inl here ↦ inl (subst (λ i. Stands i list) (sym here) (put j refl))
      | inr other ↦ inr (set_other st.at j k y other)
    ]
with_places st (Exit j) y list put k = inr refl

pub turn_places : {D : Type 0} (least : Bool) (member : D → Vectors) (p : AffineProgram) (exit : ℕ → ℕ → Option D)
    (e : AffineEdge) (old new : Stage D) (list : List ℕ) → Turn least member p exit e old new
    → ((k : ℕ) → e.to ≡ Place k → Stands k list) → (k : ℕ)
    → Stands k list ⊎ (slice_get new.at k ≡ slice_get old.at k)
turn_places {D} least member p exit e old new list turn put k =
    subst (λ (st : Stage D). Stands k list ⊎ (slice_get st.at k ≡ slice_get old.at k)) (sym turn.others)
    (with_places old e.to turn.value list put k)

-- every vector stays at the entries
pub built_entries : {D : Type 0} (least : Bool) (member : D → Vectors) (p : AffineProgram)
    (exit : ℕ → ℕ → Option D) (st : Stage D) → IsWellFormed p → IsBuilt least member p exit st
    → All (λ k. (v : Vector) → sets member st.at k v) p.entries
built_entries least member p exit st well (built_first _ first) = λ i d lt v.
    let k = slice_index_or p.entries i d in
    let within = well.entries i d lt in
    let x = get_within st.at k (omega (arith, within, first.places)) in
    set_there member st.at k x.0 x.1 v (first.entries i d lt x.0 x.1 v)
built_entries least member p exit st well (built_on old _ k e built e_is turn) = λ i d lt v.
    turn_grows least member p exit e old st turn (Place (slice_index_or p.entries i d)) v
    (built_entries least member p exit old well built i d lt v)

-- values that no edge changes are an inductive annotation
pub built_inductive : {D : Type 0} (least : Bool) (member : D → Vectors) (p : AffineProgram)
    (exit : ℕ → ℕ → Option D) (calls : ℕ → ℕ → Vectors) (st : Stage D) → IsWellFormed p
    → IsBuilt least member p exit st → All (Takes p calls member st st) p.edges
    → IsInductive p calls (sets member st.at) (sets member st.exits)
built_inductive least member p exit calls st well built settled = record {
  entries = built_entries least member p exit st well built;
  edges = settled;
}
