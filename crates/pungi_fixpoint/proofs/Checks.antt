-- What looking at the duties of an edge tells of the annotation.
use Rattle.std.proofs.Common.{◌≡◌, ℕ, ◌+◌, ◌<◌, ◌≤◌, ℤ, inl, inr, Bool, List, length, Option, Some, sym, subst}
use Rattle.std.proofs.Common.{slice_get, slice_index_or, refl}
use Rattle.std.proofs.Common.{Err, All, arith}
use Rattle.pungi_domain.specs.Annotations.{IsSafe, MeetsAll}
use Rattle.pungi_domain.specs.Builds.{IsBuilt, IsLargeBuild, IsMet, LargeMet, Stage}
use Rattle.pungi_domain.specs.Programs.{FitsEdge, IsWellFormed, width_at}
use Rattle.pungi_domain.specs.Vectors.{Vector, Vectors, IsEquation}
use Rattle.pungi_domain.specs.declared.affine_edge.AffineEdge.{AffineEdge}
use Rattle.pungi_domain.specs.declared.affine_program.AffineProgram.{AffineProgram}
use Rattle.pungi_domain.specs.declared.target.Target.{Target}
use Rattle.pungi_domain.specs.declared.target.Target.TheVariants.{Place, Exit}
use Rattle.pungi_domain.specs.declared.domain_fault.DomainFault.{DomainFault}
use Rattle.pungi_domain.specs.declared.domain_fault.DomainFault.TheVariants.{Range}
use Rattle.pungi_fixpoint.specs.Solver.{FitsWidths, HasDuty, members, sets}
use Rattle.pungi_fixpoint.specs.Duties.{IsBroken, IsLargeCheck, IsOfKind, MeetsDuties, MeetsDutiesOf}
use Rattle.pungi_fixpoint.specs.Turns.{RangeOnly}
use Rattle.pungi_fixpoint.specs.declared.duty_kind.DutyKind.{DutyKind}
use Rattle.pungi_fixpoint.specs.declared.duty_kind.DutyKind.TheVariants.{OfPlaces, OfExits}
use Rattle.std.proofs.lemmas.Bool.{cases_lt}
use Rattle.std.proofs.lemmas.Option.{slice_get_within}
use Rattle.pungi_fixpoint.proofs.Lists.{all_at, all_of}

pub range_at : (A : Type 0) (P : List ℤ → Type 0) (fault : DomainFault) (r : List ℤ) → fault ≡ Range r
    → RangeOnly {A = A} P (Err fault) → P r
range_at A P fault r e h = subst (λ (f : DomainFault). RangeOnly {A = A} P (Err f)) e h

module _ {D : Type 0} (least : Bool) (member : D → Vectors) (width : D → ℕ) (p : AffineProgram) (st : Stage D)
    (widths : FitsWidths width p st.at st.exits) (well : IsWellFormed p) (i : ℕ) (e : AffineEdge)
    (e_is : slice_get p.edges i ≡ Some e) where
  pub from_within : e.from < length st.at
  from_within =
      let fits : FitsEdge p e = all_at (FitsEdge p) p.edges i e well.edges e_is in
      let from = fits.from in
      let places = widths.places in
      omega (arith, from, places)

  module _ (source : D) (source_is : slice_get st.at e.from ≡ Some source) where
    pub source_width : width source ≡ width_at p e.from
    source_width = widths.at_widths e.from source source_is

    pub guard_fits : All (λ q. IsEquation (width source) q.coefficients) e.guard
    guard_fits =
        let fits : FitsEdge p e = all_at (FitsEdge p) p.edges i e well.edges e_is in
        subst (λ n. All (λ q. IsEquation n q.coefficients) e.guard) (sym (widths.at_widths e.from source source_is))
        fits.guard

    pub duties_fit : All (λ q. IsEquation (width source) q.coefficients) e.duties
    duties_fit =
        let fits : FitsEdge p e = all_at (FitsEdge p) p.edges i e well.edges e_is in
        subst (λ n. All (λ q. IsEquation n q.coefficients) e.duties) (sym (widths.at_widths e.from source source_is))
        fits.duties

    pub large_check : (fault : DomainFault) (k : ℕ) (r : List ℤ) → k ≡ e.from → fault ≡ Range r
        → RangeOnly {A = Bool} (LargeMet least member (width source) e.guard source) (Err fault)
        → IsLargeCheck least member p st k r
    large_check fault k r here range h = record {
      number = i;
      edge = e;
      edge_is = e_is;
      from = sym here;
      source = source;
      source_is = subst (λ j. slice_get st.at j ≡ Some source) (sym here) source_is;
      large = subst (λ j. LargeMet least member (width_at p j) e.guard source r) (sym here)
          (subst (λ n. LargeMet least member n e.guard source r) (widths.at_widths e.from source source_is)
          (range_at Bool (LargeMet least member (width source) e.guard source) fault r range h));
    }

    pub broken : (kind : DutyKind) → IsOfKind kind e.to → (m : D) → IsMet least member (width source) e.guard source m
        → (v : Vector) → member m v → (MeetsAll e.duties v → ⊥) → IsBroken kind least member p st
    broken kind of_kind m guard v stands breaks = record {
      number = i;
      edge = e;
      edge_is = e_is;
      of_kind = of_kind;
      source = source;
      source_is = source_is;
      met = m;
      guard = subst (λ n. IsMet least member n e.guard source m) (widths.at_widths e.from source source_is) guard;
      vector = v;
      stands = stands;
      breaks = breaks;
    }

    -- this edge meets its duties where all members of its source do
    pub meets_here : (kind : DutyKind) → ((v : Vector) → member source v → MeetsAll e.guard v → MeetsAll e.duties v)
        → (f : AffineEdge) → slice_get p.edges i ≡ Some f → MeetsDutiesOf kind (sets member st.at) f
    meets_here kind here f f_is =
        let this : f ≡ e = cc in
        subst (λ (x : AffineEdge). MeetsDutiesOf kind (sets member st.at) x) (sym this)
        (λ of_kind v m. here v (subst (λ o. members member o v) source_is m))

  -- an edge without duties of the kind
  pub meets_other : (kind : DutyKind) → (IsOfKind kind e.to → ⊥) → (f : AffineEdge) → slice_get p.edges i ≡ Some f
      → MeetsDutiesOf kind (sets member st.at) f
  meets_other kind none f f_is =
      let this : f ≡ e = cc in
      subst (λ (x : AffineEdge). MeetsDutiesOf kind (sets member st.at) x) (sym this) (λ of_kind. absurd (none of_kind))

-- one more edge that meets its duties
pub meets_more : (kind : DutyKind) (p : AffineProgram) (at : ℕ → Vectors) (i : ℕ)
    → ((k : ℕ) (e : AffineEdge) → k < i → slice_get p.edges k ≡ Some e → MeetsDutiesOf kind at e)
    → ((e : AffineEdge) → slice_get p.edges i ≡ Some e → MeetsDutiesOf kind at e)
    → (k : ℕ) (e : AffineEdge) → k < i + 1 → slice_get p.edges k ≡ Some e → MeetsDutiesOf kind at e
meets_more kind p at i before here k f lt f_is =
    elim (cases_lt k i) [
      | inl less ↦ before k f less f_is
      | inr from ↦
          let same : k ≡ i = omega arith in
          here f (subst (λ n. slice_get p.edges n ≡ Some f) same f_is)
    ]

pub meets_all : (kind : DutyKind) (p : AffineProgram) (at : ℕ → Vectors) (n : ℕ) → length p.edges ≤ n
    → ((k : ℕ) (e : AffineEdge) → k < n → slice_get p.edges k ≡ Some e → MeetsDutiesOf kind at e)
    → MeetsDuties kind p at
meets_all kind p at n le h =
    all_of (MeetsDutiesOf kind at) p.edges
    (λ k f f_is. (let lt = slice_get_within p.edges k f f_is in h k f (omega (arith, lt, le)) f_is))

-- duties of both kinds are all duties
pub meets_both : (p : AffineProgram) (at : ℕ → Vectors) → MeetsDuties OfPlaces p at → MeetsDuties OfExits p at
    → IsSafe p at
meets_both p at places exits = λ k d lt v.
    let e = slice_index_or p.edges k d in
    of_target e e.to refl (places k d lt) (exits k d lt) v
  where
    of_target : (e : AffineEdge) (t : Target) → e.to ≡ t → MeetsDutiesOf OfPlaces at e → MeetsDutiesOf OfExits at e
        → (v : Vector) → at e.from v → MeetsAll e.guard v → MeetsAll e.duties v
    of_target e (Place j) is h h' = h (subst (IsOfKind OfPlaces) (sym is) tt)
    of_target e (Exit j) is h h' = h' (subst (IsOfKind OfExits) (sym is) tt)

pub safe_both : (p : AffineProgram) (at : ℕ → Vectors) (kind : DutyKind) → IsSafe p at → MeetsDuties kind p at
safe_both p at kind safe = λ k d lt of_kind. safe k d lt

pub has_duty : (p : AffineProgram) (i : ℕ) (e : AffineEdge) (k : ℕ) → slice_get p.edges i ≡ Some e → e.from ≡ k
    → 0 < length e.duties → HasDuty p k
has_duty p i e k e_is from some = record { number = i; edge = e; edge_is = e_is; from = from; some = some }

-- a large check is a large turn of the build that was checked
pub large_build : {D : Type 0} (least : Bool) (member : D → Vectors) (p : AffineProgram)
    (exit : ℕ → ℕ → Option D) (st : Stage D) (k : ℕ) (r : List ℤ) → IsBuilt least member p exit st
    → IsLargeCheck least member p st k r → IsLargeBuild least member p exit k r
large_build {D} least member p exit st k r built h = record {
  stage = st;
  built = built;
  number = h.number;
  edge = h.edge;
  edge_is = h.edge_is;
  from = h.from;
  large = record {
    source = h.source;
    source_is = subst (λ j. slice_get st.at j ≡ Some h.source) (sym h.from) h.source_is;
    large = inl (subst (λ j. LargeMet least member (width_at p j) h.edge.guard h.source r) (sym h.from) h.large);
  };
}
