-- The values of each build are below each inductive annotation, where the domain is one of least values.
use Rattle.std.proofs.Common.{◌≡◌, ℕ, inl, inr, Bool, true, List, length, Option, Some, ℤ, pos, sym, subst}
use Rattle.std.proofs.Common.{All, slice_get, slice_index_or}
use Rattle.pungi_domain.specs.Annotations.{IsInductive, IsKept, HaveWidths, MeetsAll, MeetsRows, Rows, met}
use Rattle.pungi_domain.specs.Annotations.{set_to}
use Rattle.pungi_domain.specs.Builds.{IsBuilt, IsFirst, IsMet, Stage, Turn, built_first, built_on, span_at, with_span}
use Rattle.pungi_domain.specs.Programs.{FitsEdge, IsTarget, IsWellFormed, width_at, width_to}
use Rattle.pungi_domain.specs.Spans.{Zero}
use Rattle.pungi_domain.specs.Vectors.{Vector, Vectors, Either}
use Rattle.pungi_domain.specs.declared.affine_edge.AffineEdge.{AffineEdge}
use Rattle.pungi_domain.specs.declared.affine_program.AffineProgram.{AffineProgram}
use Rattle.pungi_domain.specs.declared.target.Target.{Target}
use Rattle.pungi_domain.specs.declared.target.Target.TheVariants.{Place, Exit}
use Rattle.pungi_fixpoint.specs.Solver.{IsBelow, calls, members}
use Rattle.pungi_fixpoint.specs.Summaries.{exit_of}
use Rattle.pungi_fixpoint.specs.Duties.{IsBroken, IsOfKind, MeetsDuties}
use Rattle.pungi_fixpoint.specs.declared.duty_kind.DutyKind.{DutyKind}
use Rattle.pungi_fixpoint.proofs.Lists.{all_at, find_number}
use Rattle.pungi_fixpoint.proofs.Meets.{acts_rows, follows_rows, met_rows, zero_rows}
use Rattle.pungi_fixpoint.proofs.Sets.{set_changes, set_of, set_there}

rows_to : Rows → Target → List (List ℤ)
rows_to a (Place k) = a.at k
rows_to a (Exit k) = a.exits k

rows_wide : (p : AffineProgram) (a : Rows) (t : Target) → HaveWidths p a → IsTarget p t
    → All (λ r. length r ≡ width_to p t) (rows_to a t)
unfolding rows_to
rows_wide p a (Place k) h lt = h.at k lt
rows_wide p a (Exit k) h lt = h.exits k lt

rows_meet : (a : Rows) (t : Target) (v : Vector) → set_to (met a.at) (met a.exits) t v → MeetsRows (rows_to a t) v
unfolding rows_to
rows_meet a (Place k) v h = h
rows_meet a (Exit k) v h = h

module _ {D : Type 0} (least : Bool) (l : least ≡ true) (member : D → Vectors) (p : AffineProgram) (a : Rows)
    (well : IsWellFormed p) (wide : HaveWidths p a) where
  -- the vectors after an edge's guard
  guarded : (e : AffineEdge) (st : Stage D) (source after : D) → FitsEdge p e → IsBelow member p a st.at st.exits
      → slice_get st.at e.from ≡ Some source → IsMet least member (width_at p e.from) e.guard source after
      → (v : Vector) → member after v → MeetsRows (a.at e.from) v × MeetsAll e.guard v
  guarded e st source after fits below is guard =
      met_rows least l member (width_at p e.from) e.guard source after (a.at e.from) (wide.at e.from fits.from)
      fits.guard guard
      (λ v m. below.places e.from v fits.from (set_there member st.at e.from source is v m))

  -- a vector that breaks a duty breaks it for all rows that the members meet
  pub not_broken : (kind : DutyKind) (st : Stage D) → IsBelow member p a st.at st.exits
      → IsBroken kind least member p st → MeetsDuties kind p (met a.at) → ⊥
  not_broken kind st below b safe =
      let fits : FitsEdge p b.edge = all_at (FitsEdge p) p.edges b.number b.edge well.edges b.edge_is in
      let rows = guarded b.edge st b.source b.met fits below b.source_is b.guard b.vector b.stands in
      b.breaks (all_at
      (λ (e : AffineEdge). IsOfKind kind e.to → (v : Vector) → met a.at e.from v → MeetsAll e.guard v
      → MeetsAll e.duties v) p.edges b.number b.edge safe b.edge_is b.of_kind b.vector rows.0 rows.1)

module _ {D : Type 0} (least : Bool) (l : least ≡ true) (member : D → Vectors)
    (zero : (s : D) → member s (λ _. pos 0)) (p : AffineProgram) (exits : List (List (Option D))) (a : Rows)
    (well : IsWellFormed p) (wide : HaveWidths p a)
    (inductive : IsInductive p (calls member exits) (met a.at) (met a.exits)) where
  target_rows : (st : Stage D) (t : Target) (x : D) → IsTarget p t → IsBelow member p a st.at st.exits
      → span_at st t ≡ Some x → (v : Vector) → member x v → MeetsRows (rows_to a t) v
  unfolding rows_to
  target_rows st (Place k) x lt below e v m = below.places k v lt (set_there member st.at k x e v m)
  target_rows st (Exit k) x lt below e v m = below.classes k v lt (set_there member st.exits k x e v m)

  below_with : (st : Stage D) (t : Target) (x y : D) → IsBelow member p a st.at st.exits → span_at st t ≡ Some x
      → ((v : Vector) → member y v → MeetsRows (rows_to a t) v)
      → IsBelow member p a (with_span st t y).at (with_span st t y).exits
  unfolding rows_to
  below_with st (Place k) x y below e h = record {
    places = λ j v lt m. elim (set_changes member st.at k j x y e v m) [
      | inl here ↦ subst (λ i. met a.at i v) (sym here.0) (h v here.1)
      | inr old ↦ below.places j v lt old
    ];
    classes = below.classes;
  }
  below_with st (Exit k) x y below e h = record {
    places = below.places;
    classes = λ j v lt m. elim (set_changes member st.exits k j x y e v m) [
      | inl here ↦ subst (λ i. met a.exits i v) (sym here.0) (h v here.1)
      | inr old ↦ below.classes j v lt old
    ];
  }

  turn_below : (e : AffineEdge) (k : ℕ) (old new : Stage D) → slice_get p.edges k ≡ Some e
      → Turn least member p (exit_of exits) e old new → IsBelow member p a old.at old.exits
      → IsBelow member p a new.at new.exits
  turn_below e k old new e_is turn below =
      let fits : FitsEdge p e = all_at (FitsEdge p) p.edges k e well.edges e_is in
      let kept : IsKept p (calls member exits) (met a.at) (met a.exits) e = all_at (IsKept p (calls member exits)
      (met a.at) (met a.exits)) p.edges k e inductive.edges e_is in
      let rows = rows_to a e.to in
      let rows_fit = rows_wide p a e.to wide fits.to in
      let after = guarded least l member p a well wide e old turn.source turn.met fits below turn.source_is
      turn.guard in
      let sent : (v : Vector) → member turn.sent v → MeetsRows rows v = acts_rows least l member zero (exit_of exits)
      (calls member exits)
      (λ f c x is v m. subst (λ o. members member o v) (sym is) m)
      (width_at p e.from) (width_to p e.to) e.action turn.met turn.sent rows rows_fit fits.action turn.action
      (λ v u m sends. rows_meet a e.to u (kept v u (after v m).0 (after v m).1 sends)) in
      let target = target_rows old e.to turn.target fits.to below turn.target_is in
      let value : (v : Vector) → member turn.value v → MeetsRows rows v = follows_rows (width_to p e.to)
      (Either (member turn.target) (member turn.sent)) (member turn.value) rows rows_fit (turn.grown.1 l)
      (λ v g. elim g [ inl m ↦ target v m | inr m ↦ sent v m ]) in
      subst (λ (st : Stage D). IsBelow member p a st.at st.exits) (sym turn.others)
      (below_with old e.to turn.target turn.value below turn.target_is value)

  first_below : (st : Stage D) → IsFirst least member p st → IsBelow member p a st.at st.exits
  first_below st first = record {
    places = λ k v lt m.
        let x = set_of member st.at k v m in
        elim (find_number k p.entries) [
          | inl there ↦ all_at (λ j. (u : Vector) → met a.at j u) p.entries there.0 k inductive.entries there.1 v
          | inr none ↦ follows_rows (width_at p k) (Zero (width_at p k)) (member x.0) (a.at k) (wide.at k lt)
              ((first.others k x.0 none x.1).1 l) (zero_rows (width_at p k) (a.at k) (wide.at k lt)) v x.2
        ];
    classes = λ k v lt m.
        let x = set_of member st.exits k v m in
        let w = slice_index_or p.exits k 0 in
        follows_rows w (Zero w) (member x.0) (a.exits k) (wide.exits k lt) ((first.exits k x.0 x.1).1 l)
        (zero_rows w (a.exits k) (wide.exits k lt)) v x.2;
  }

  pub built_below : (st : Stage D) → IsBuilt least member p (exit_of exits) st → IsBelow member p a st.at st.exits
  built_below st (built_first _ first) = first_below st first
  built_below st (built_on old _ k e built e_is turn) = turn_below e k old st e_is turn (built_below old built)
