-- A step of the search: what it keeps.
--   fit_put                the exits fit after a function's were put
--   exits_fit              the exits that a program reads fit it
--   rows_inductive         rows of a family are inductive under exits that are below the family
--   below_put              the exits are below all families after that
--   reason_of              a duty that fails for an annotation fails for all families
--   said_put               the outcomes after one was set
--   settled_put            the functions after that
--   settling_kept, settling_large, settling_skip    all of it, after a step, a large one, and where none was made
use Rattle.std.proofs.Common.{◌≡◌, ◌∙◌, ◌⊎◌, inl, inr, ℕ, ◌<◌, Bool, true, false, List, [], ◌∷◌, length}
use Rattle.std.proofs.Common.{Option, Some, None, refl, sym, subst, arith, All, ℤ}
use Rattle.std.specs.Prelude.{slice_get, slice_set}
use Rattle.std.specs.List.{Contains, slice_index_or}
use Rattle.std.proofs.lemmas.Bool.{cases_eq}
use Rattle.std.proofs.lemmas.List.{length-set}
use Rattle.std.proofs.lemmas.Option.{slice_get_within}
use Rattle.pungi_domain.specs.Annotations.{IsInductive, MeetsRows, Rows, met}
use Rattle.pungi_domain.specs.Vectors.{Vector, Vectors, Either, Follows}
use Rattle.pungi_domain.specs.declared.action.Action.{Action}
use Rattle.pungi_domain.specs.declared.action.Action.TheVariants.{Map, Free, Call}
use Rattle.pungi_domain.specs.declared.affine_program.AffineProgram.{AffineProgram}
use Rattle.pungi_fixpoint.specs.Solver.{FitsCall, FitsExit, FitsExits, IsBelow, calls, members, sets}
use Rattle.pungi_fixpoint.specs.Summaries.{exit_of, flatten}
use Rattle.pungi_fixpoint.specs.declared.duty_kind.DutyKind.{DutyKind}
use Rattle.pungi_fixpoint.specs.declared.duty_kind.DutyKind.TheVariants.{OfPlaces, OfExits}
use Rattle.pungi_links.specs.Ring.{Stands}
use Rattle.pungi_summary.specs.Calls.{AreCallable, HasClass, IsCallable, IsCalled, callees_of}
use Rattle.pungi_summary.specs.Calls.{program_of, reaches_by, reaches_self}
use Rattle.pungi_summary.specs.Families.{AreInductiveRows, exits_of}
use Rattle.pungi_summary.specs.Outcomes.{is_open}
use Rattle.pungi_summary.specs.Results.{AreValues, FitExits, IsBelowAll}
use Rattle.pungi_summary.specs.Sites.{AreSites, sites_of}
use Rattle.pungi_summary.specs.Steps.{IsFailing, IsStep}
use Rattle.pungi_summary.specs.Values.{AreGrown}
use Rattle.pungi_summary.specs.Worklist.{AreOutcomes, IsOutcome, IsReason, IsSettled, Meets}
use Rattle.pungi_summary.specs.declared.call_site.CallSite.{CallSite}
use Rattle.pungi_summary.specs.declared.failing.Failing.{Failing}
use Rattle.pungi_summary.specs.declared.outcome.Outcome.{Outcome}
use Rattle.pungi_summary.specs.declared.outcome.Outcome.TheVariants.{Annotated, Large, Shapes, Waiting}
use Rattle.pungi_summary.proofs.Callees.{call_known}
use Rattle.pungi_summary.proofs.Lists.{get_other, get_same, within}
use Rattle.pungi_summary.proofs.Reading.{AreExitsPut, calls_from, calls_kept, calls_other, calls_put, exits_added}
use Rattle.pungi_summary.proofs.Reading.{inductive_under, reads_same}

-- ---- the exits fit

grown_values : {D : Type 0} (least : Bool) (member : D → Vectors) (width : D → ℕ) (ws : List ℕ)
    (old new : List (Option D)) (added : List D) → AreValues width ws old → length added ≡ length ws
    → AreGrown least member width old added new → AreValues width ws new
grown_values least member width ws old new added values count grown = record {
  count = grown.count ∙ count;
  each = λ c lt.
      let d = values.each c lt in
      let a = within added c (omega (arith, lt, count)) in
      let s = grown.each c d.0 a.0 d.1 a.1 in
      (s.0, s.1, s.2.same_width ∙ d.2);
}

pub fit_put : {D : Type 0} (width : D → ℕ) (ps : List (Option AffineProgram)) (f : ℕ) (p : AffineProgram)
    (new : List (Option D)) (exits exits' : List (List (Option D))) → program_of ps f ≡ Some p
    → AreExitsPut f new exits exits' → AreValues width p.exits new → FitExits width ps exits → FitExits width ps exits'
fit_put {D} width ps f p new exits exits' p_is change values fit = record {
  count = change.count ∙ fit.count;
  values = λ g q q_is. elim (cases_eq g f) [
    | inl here ↦
        let at = subst (λ i. program_of ps i ≡ Some q) here q_is in
        let same : p ≡ q = cc (at, p_is) in
        subst (λ (x : AffineProgram). AreValues width x.exits (slice_index_or exits' g [])) same
        (subst (λ i. AreValues width p.exits (slice_index_or exits' i [])) (sym here)
        (subst (λ (ds : List (Option D)). AreValues width p.exits ds) (sym change.this) values))
    | inr other ↦ subst (λ (ds : List (Option D)). AreValues width q.exits ds) (sym (change.others g other))
        (fit.values g q q_is)
  ];
  none = λ g is. elim (cases_eq g f) [
    | inl here ↦
        let at = subst (λ i. program_of ps i ≡ None) here is in
        absurd (cc (at, p_is))
    | inr other ↦ change.others g other ∙ fit.none g is
  ];
}

fits_exit : {D : Type 0} (width : D → ℕ) (ps : List (Option AffineProgram)) (exits : List (List (Option D)))
    (f class n : ℕ) → FitExits width ps exits → (o : Option AffineProgram) → program_of ps f ≡ o → HasClass o class n
    → FitsExit width n (exit_of exits f class)
fits_exit {D} width ps exits f class n fit None is h =
    subst (λ (ds : List (Option D)). FitsExit width n (flatten (slice_get ds class))) (sym (fit.none f is)) tt
fits_exit {D} width ps exits f class n fit (Some p) is h =
    let d = (fit.values f p is).each class h.0 in
    subst (λ (o : Option (Option D)). FitsExit width n (flatten o)) (sym d.1) (d.2 ∙ h.1)

pub exits_fit : {D : Type 0} (width : D → ℕ) (ps : List (Option AffineProgram)) (callees : List (List ℕ))
    (exits : List (List (Option D))) (f : ℕ) (p : AffineProgram) → AreCallable ps callees → program_of ps f ≡ Some p
    → FitExits width ps exits
    → FitsExits width exits p
exits_fit {D} width ps callees exits f p callable is fit = λ k d lt.
    call (slice_index_or p.edges k d).action (callable.calls f p is k d lt)
  where
    call : (a : Action) → IsCallable ps (callees_of callees f) a → FitsCall width exits a
    call (Map m) h = tt
    call (Free c) h = tt
    call (Call g class onto) h = fits_exit width ps exits g class (length onto) fit (program_of ps g) refl h.1

-- ---- families of rows

pub rows_at : (ps : List (Option AffineProgram)) (callees : List (List ℕ)) (rows : ℕ → Rows) (f g : ℕ)
    → IsCalled callees f g → AreInductiveRows ps callees rows f → AreInductiveRows ps callees rows g
rows_at ps callees rows f g call h = record {
  widths = λ j p reaches. h.widths j p (reaches_by f g j call reaches);
  inductive = λ j p reaches. h.inductive j p (reaches_by f g j call reaches);
}

pub rows_inductive : {D : Type 0} (member : D → Vectors) (ps : List (Option AffineProgram))
    (callees : List (List ℕ)) (callable : AreCallable ps callees) (exits : List (List (Option D))) (f : ℕ)
    (p : AffineProgram) (rows : ℕ → Rows) → program_of ps f ≡ Some p → IsBelowAll member ps callees exits
    → AreInductiveRows ps callees rows f → IsInductive p (calls member exits) (met (rows f).at) (met (rows f).exits)
rows_inductive member ps callees callable exits f p rows is below h =
    inductive_under p (exits_of rows) (calls member exits) (met (rows f).at) (met (rows f).exits) (met (rows f).exits)
    (λ g k call class x m. below g class x rows
    (rows_at ps callees rows f g (call_known ps callees f k g p callable is call) h) m)
    (λ c x m. m) (h.inductive f p (reaches_self f) is)

follows_rows : (w : ℕ) (G T : Vectors) (rows : List (List ℤ)) → All (λ r. length r ≡ w) rows → Follows w G T
    → ((v : Vector) → G v → MeetsRows rows v) → (v : Vector) → T v → MeetsRows rows v
follows_rows w G T rows widths f h v t = λ k d lt.
    f (slice_index_or rows k d) (widths k d lt) (λ u g. h u g k d lt) v t

module _ {D : Type 0} (least : Bool) (member : D → Vectors) (width : D → ℕ) (ps : List (Option AffineProgram))
    (callees : List (List ℕ)) (callable : AreCallable ps callees) (f : ℕ) (p : AffineProgram)
    (p_is : program_of ps f ≡ Some p) (exits : List (List (Option D))) (failing : Failing)
    (new : List (Option D)) (fit : FitExits width ps exits)
    (step : IsStep least member width p exits f failing new) where
  pub step_values : AreValues width p.exits new
  step_values = grown_values least member width p.exits (slice_index_or exits f []) new step.added (fit.values f p p_is)
      step.widths.classes step.grown

  step_below : least ≡ true → IsBelowAll member ps callees exits → (rows : ℕ → Rows)
      → AreInductiveRows ps callees rows f
      → IsBelow member p (rows f) step.at step.added
  step_below l below rows h = step.below l (rows f) (h.widths f p (reaches_self f) p_is)
      (rows_inductive member ps callees callable exits f p rows p_is below h)

  new_below : (l : least ≡ true) → IsBelowAll member ps callees exits → (c : ℕ) (v : Vector) (rows : ℕ → Rows)
      → AreInductiveRows ps callees rows f → (o : Option (Option D)) → slice_get new c ≡ o
      → members member (flatten o) v
      → exits_of rows f c v
  new_below l below c v rows h None is m = absurd m
  new_below l below c v rows h (Some None) is m = absurd m
  new_below l below c v rows h (Some (Some s)) is m =
      let count = step_values.count in
      let lt_new = slice_get_within new c (Some s) is in
      let lt : c < length p.exits = omega (arith, lt_new, count) in
      let d = (fit.values f p p_is).each c lt in
      let classes = step.widths.classes in
      let a = within step.added c (omega (arith, lt, classes)) in
      let g = step.grown.each c d.0 a.0 d.1 a.1 in
      let at = g.1 in
      let same : g.0 ≡ s = cc (at, is) in
      let mine : member g.0 v = subst (λ x. member x v) (sym same) m in
      follows_rows (width d.0) (Either (member d.0) (member a.0)) (member g.0) ((rows f).exits c)
      (subst (λ n. All (λ r. length r ≡ n) ((rows f).exits c)) (sym d.2)
      ((h.widths f p (reaches_self f) p_is).exits c lt))
      (g.2.covers.1 l)
      (λ u either. elim either [
        | inl old ↦ below f c u rows h (subst (λ (o : Option (Option D)). members member (flatten o) u) (sym d.1) old)
        | inr one ↦ (step_below l below rows h).classes c u lt
            (subst (λ (o : Option D). members member o u) (sym a.1) one)
      ]) v mine

  pub below_put : (exits' : List (List (Option D))) → AreExitsPut f new exits exits'
      → (least ≡ true → IsBelowAll member ps callees exits) → least ≡ true → IsBelowAll member ps callees exits'
  below_put exits' change below l g c v rows h m = elim (cases_eq g f) [
    | inl here ↦ subst (λ i. exits_of rows i c v) (sym here)
        (new_below l (below l) c v rows (subst (λ i. AreInductiveRows ps callees rows i) here h) (slice_get new c) refl
        (calls_from member f new exits exits' change c v (subst (λ i. calls member exits' i c v) here m)))
    | inr other ↦ below l g c v rows h (calls_other member f new exits exits' change g c v other m)
  ]

  reason_of : (kind : DutyKind) (o : Option ℕ) → (least ≡ true → IsBelowAll member ps callees exits)
      → IsFailing kind least member p step.at step.added o → IsReason kind least ps callees f p o
  reason_of kind None below h = tt
  reason_of kind (Some k) below h = (
    h.0,
    λ l rows inductive duties. h.1 l (rows f) (inductive.widths f p (reaches_self f) p_is)
        (step_below l (below l) rows inductive) duties,
  )

  pub outcome_of : (least ≡ true → IsBelowAll member ps callees exits)
      → IsOutcome least ps callees f p (Annotated failing)
  outcome_of below = (
    reason_of OfPlaces failing.places below step.places,
    reason_of OfExits failing.exits below step.exits_fail,
  )

  meets_of : (kind : DutyKind) (o : Option ℕ) → IsFailing kind least member p step.at step.added o
      → Meets kind member p step.at o
  meets_of kind None h = h
  meets_of kind (Some k) h = tt

  -- the function itself waits, or is annotated under the new exits
  pub this_settled : (lists : List (List CallSite)) (exits' : List (List (Option D))) (list : List ℕ)
      → AreSites ps callees lists → AreExitsPut f new exits exits'
      → ((s : CallSite) → Contains (sites_of lists f) s → Stands s.caller list) ⊎ (new ≡ slice_index_or exits f [])
      → IsSettled member exits' list f p (Annotated failing)
  this_settled lists exits' list sites change callers =
      elim (reads_same member ps callees callable lists f new exits exits' list sites change callers f p p_is) [
        | inl waits ↦ inl waits
        | inr same ↦ inr (record {
          at = step.at;
          inductive = inductive_under p (calls member exits) (calls member exits') (sets member step.at)
              (sets member step.added) (calls member exits' f) same
              (λ c x m. calls_put member f new exits exits' change c x (exits_added least member width p.exits
              (slice_index_or exits f []) new step.added (fit.values f p p_is) step.widths.classes step.grown c x m))
              step.inductive;
          places = meets_of OfPlaces failing.places step.places;
          exits_met = meets_of OfExits failing.exits step.exits_fail;
        })
      ]

-- another function
pub other_settled : {D : Type 0} (member : D → Vectors) (ps : List (Option AffineProgram))
    (callees : List (List ℕ)) (callable : AreCallable ps callees) (lists : List (List CallSite)) (f : ℕ)
    (new : List (Option D)) (exits exits' : List (List (Option D)))
    (list list' : List ℕ) → AreSites ps callees lists → AreExitsPut f new exits exits'
    → ((s : CallSite) → Contains (sites_of lists f) s → Stands s.caller list') ⊎ (new ≡ slice_index_or exits f [])
    → ((g : ℕ) → Stands g list → Stands g list') → (g : ℕ) (p : AffineProgram) → program_of ps g ≡ Some p
    → (g ≡ f → ⊥) → (o : Outcome) → IsSettled member exits (f ∷ list) g p o → IsSettled member exits' list' g p o
other_settled member ps callees callable lists f new exits exits' list list' sites change callers kept g p is other
    Shapes h = tt
other_settled member ps callees callable lists f new exits exits' list list' sites change callers kept g p is other
    (Large k row) h = tt
other_settled member ps callees callable lists f new exits exits' list list' sites change callers kept g p is other
    Waiting h = elim h [
      | inl here ↦ absurd (other here)
      | inr on ↦ kept g on
    ]
other_settled member ps callees callable lists f new exits exits' list list' sites change callers kept g p is other
    (Annotated x) h =
    elim h [
      | inl waits ↦ elim waits [
        | inl here ↦ absurd (other here)
        | inr on ↦ inl (kept g on)
      ]
      | inr done ↦ elim (reads_same member ps callees callable lists f new exits exits' list' sites change callers g p
          is) [
            | inl waits ↦ inl waits
            | inr same ↦ inr (record {
              at = done.at;
              inductive = inductive_under p (calls member exits) (calls member exits') (sets member done.at)
                  (calls member exits g) (calls member exits' g) same
                  (λ c v m. calls_kept member f new exits exits' change g c v other m) done.inductive;
              places = done.places;
              exits_met = done.exits_met;
            })
          ]
    ]

-- ---- outcomes

pub said_put : (least : Bool) (ps : List (Option AffineProgram)) (callees : List (List ℕ)) (f : ℕ) (p : AffineProgram)
    (old new : Outcome) (outcomes : List Outcome) → program_of ps f ≡ Some p → slice_get outcomes f ≡ Some old
    → is_open old ≡ true → (new ≡ Shapes → ⊥) → IsOutcome least ps callees f p new
    → AreOutcomes least ps callees outcomes
    → AreOutcomes least ps callees (slice_set outcomes f new)
said_put least ps callees f p old new outcomes p_is old_is open_old not_shapes says h =
    let lt = slice_get_within outcomes f old old_is in
    let this = get_same outcomes f new lt in
    record {
      count = length-set outcomes f new ∙ h.count;
      shapes = λ g is. elim (cases_eq g f) [
        | inl here ↦
            let at = subst (λ i. slice_get (slice_set outcomes f new) i ≡ Some Shapes) here is in
            absurd (not_shapes (cc (at, this)))
        | inr other ↦ h.shapes g (sym (get_other outcomes f g new other) ∙ is)
      ];
      lacking = λ g g_lt lacks. elim (cases_eq g f) [
        | inl here ↦
            let at = subst (λ i. slice_get outcomes i ≡ Some Shapes) here (h.lacking g g_lt lacks) in
            let same : old ≡ Shapes = cc (at, old_is) in
            let no : false ≡ true = subst (λ (o : Outcome). is_open o ≡ true) same open_old in
            absurd (cc)
        | inr other ↦ get_other outcomes f g new other ∙ h.lacking g g_lt lacks
      ];
      each = λ g q o q_is o_is. elim (cases_eq g f) [
        | inl here ↦
            let at = subst (λ i. slice_get (slice_set outcomes f new) i ≡ Some o) here o_is in
            let same : new ≡ o = cc (at, this) in
            let q_at = subst (λ i. program_of ps i ≡ Some q) here q_is in
            let same_program : p ≡ q = cc (q_at, p_is) in
            subst (λ i. IsOutcome least ps callees i q o) (sym here)
            (subst (λ (x : AffineProgram). IsOutcome least ps callees f x o) same_program
            (subst (λ (x : Outcome). IsOutcome least ps callees f p x) same says))
        | inr other ↦ h.each g q o q_is (sym (get_other outcomes f g new other) ∙ o_is)
      ];
    }
