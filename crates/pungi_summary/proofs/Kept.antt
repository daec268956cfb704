-- A step of the search as a whole.
--   put_of_kept            what became of the exits
--   settling_kept, settling_large, settling_skip    what the search keeps after a step, after a large one, and where
--                          none was made
--   work_kept              there is no more to do than before
--   settling_first         the search at first
--   settling_took, work_took, settling_end    a function that is taken from the queue, and the end
use Rattle.std.proofs.Common.{◌≡◌, ◌∙◌, ◌⊎◌, inl, inr, ℕ, suc, ◌+◌, ◌*◌, ◌<◌, ◌≤◌, Bool, true, false, List, [], ◌∷◌}
use Rattle.std.proofs.Common.{length}
use Rattle.std.proofs.Common.{Option, Some, None, refl, sym, ap, subst, arith, ℤ, pos, ◌*ℤ◌}
use Rattle.std.specs.Prelude.{slice_get, slice_set}
use Rattle.std.specs.List.{Contains, slice_index_or, sum_by}
use Rattle.std.proofs.Math.Nat.{mul-le-mul_left}
use Rattle.std.proofs.lemmas.Bool.{cases_eq}
use Rattle.std.proofs.lemmas.Int.{ints}
use Rattle.std.proofs.lemmas.List.{get_or-set_same, get_or-set_other, length-set}
use Rattle.std.proofs.lemmas.List.Sums.{sum_by-set, sum_by_more_le}
use Rattle.std.proofs.lemmas.Option.{slice_get_within}
use Rattle.pungi_domain.specs.Ring.{mul_zero}
use Rattle.pungi_domain.specs.Vectors.{Vector, Vectors, dot}
use Rattle.pungi_domain.specs.declared.affine_program.AffineProgram.{AffineProgram}
use Rattle.pungi_fixpoint.specs.Solver.{members}
use Rattle.pungi_fixpoint.specs.Summaries.{flatten}
use Rattle.pungi_links.specs.Pending.{PendingState, Takes}
use Rattle.pungi_links.specs.Ring.{Stands}
use Rattle.pungi_summary.specs.Builds.{IsLargeRound}
use Rattle.pungi_summary.specs.Calls.{AreCallable, program_of, reaches_self}
use Rattle.pungi_summary.specs.Families.{exits_of}
use Rattle.pungi_summary.specs.Outcomes.{is_open}
use Rattle.pungi_summary.specs.Results.{AreFirstExits, IsBelowAll}
use Rattle.pungi_summary.specs.Sites.{AreSites, sites_of}
use Rattle.pungi_summary.specs.Steps.{HasRangePlace, IsLargeStep, IsStep}
use Rattle.pungi_summary.specs.Values.{exits_room, file_room}
use Rattle.pungi_summary.specs.Worklist.{AreFirst, AreOutcomes, IsKept, IsOutcome, IsSettled, IsSettling, work}
use Rattle.pungi_summary.specs.declared.call_site.CallSite.{CallSite}
use Rattle.pungi_summary.specs.declared.failing.Failing.{Failing}
use Rattle.pungi_summary.specs.declared.outcome.Outcome.{Outcome}
use Rattle.pungi_summary.specs.declared.outcome.Outcome.TheVariants.{Annotated, Large, Shapes, Waiting}
use Rattle.pungi_summary.proofs.Lists.{get_other, get_same, program_within, took_list}
use Rattle.pungi_summary.proofs.Reading.{AreExitsPut}
use Rattle.pungi_summary.proofs.Rounds.{large_round, spans_after, spans_at_first}
use Rattle.pungi_summary.proofs.Settles.{below_put, fit_put, other_settled, outcome_of, said_put, step_values}
use Rattle.pungi_summary.proofs.Settles.{this_settled}

pub put_of_kept : {D : Type 0} (failing : Failing) (values : List (Option D)) (grew : Bool) (f : ℕ)
    (sites : List CallSite) (exits exits' : List (List (Option D))) (outcomes outcomes' : List Outcome)
    (list list' : List ℕ) → IsKept failing values grew f sites exits exits' outcomes outcomes' list list'
    → f < length exits → (grew ≡ false → values ≡ slice_index_or exits f [])
    → AreExitsPut f values exits exits'
    × (((s : CallSite) → Contains sites s → Stands s.caller list') ⊎ (values ≡ slice_index_or exits f []))
put_of_kept {D} failing values grew f sites exits exits' outcomes outcomes' list list' kept lt unchanged =
    elim kept.values_put [
      | inl h ↦ (
        subst (λ (x : List (List (Option D))). AreExitsPut f values exits x) (sym h.1) (record {
          count = length-set exits f values;
          this = get_or-set_same exits f values [] lt;
          others = λ g other. get_or-set_other exits f g values [] other;
        }),
        inl h.2,
      )
      | inr h ↦ (
        subst (λ (x : List (List (Option D))). AreExitsPut f values exits x) (sym h.1) (record {
          count = refl;
          this = sym (unchanged h.0);
          others = λ g other. refl;
        }),
        inr (unchanged h.0),
      )
    ]

settled_drop : {D : Type 0} (member : D → Vectors) (exits : List (List (Option D))) (list : List ℕ) (f g : ℕ)
    (p : AffineProgram) (o : Outcome) → (g ≡ f → ⊥) → IsSettled member exits (f ∷ list) g p o
    → IsSettled member exits list g p o
settled_drop member exits list f g p Shapes other h = tt
settled_drop member exits list f g p (Large k row) other h = tt
settled_drop member exits list f g p Waiting other h = elim h [ inl here ↦ absurd (other here) | inr on ↦ on ]
settled_drop member exits list f g p (Annotated x) other h = elim h [
  | inl waits ↦ elim waits [ inl here ↦ absurd (other here) | inr on ↦ inl on ]
  | inr done ↦ inr done
]

settled_final : {D : Type 0} (member : D → Vectors) (exits : List (List (Option D))) (list : List ℕ) (g : ℕ)
    (p : AffineProgram) (o : Outcome) → is_open o ≡ false → IsSettled member exits list g p o
settled_final member exits list g p Shapes h = tt
settled_final member exits list g p (Large k row) h = tt
settled_final member exits list g p Waiting h = absurd (cc)
settled_final member exits list g p (Annotated x) h = absurd (cc)

module _ {D : Type 0} (least : Bool) (member : D → Vectors) (width : D → ℕ) (ps : List (Option AffineProgram))
    (callees : List (List ℕ)) where
  pub settling_kept : (lists : List (List CallSite)) (f : ℕ) (p : AffineProgram) (old : Outcome) (failing : Failing)
      (values : List (Option D)) (grew : Bool) (sites : List CallSite) (exits exits' : List (List (Option D)))
      (outcomes outcomes' : List Outcome) (list list' : List ℕ) → AreCallable ps callees → AreSites ps callees lists
      → sites ≡ sites_of lists f → program_of ps f ≡ Some p → slice_get outcomes f ≡ Some old → is_open old ≡ true
      → IsSettling least member width ps callees exits outcomes (f ∷ list)
      → IsStep least member width p exits f failing values → (grew ≡ false → values ≡ slice_index_or exits f [])
      → IsKept failing values grew f sites exits exits' outcomes outcomes' list list'
      → IsSettling least member width ps callees exits' outcomes' list'
  settling_kept lists f p old failing values grew sites exits exits' outcomes outcomes' list list' callable index
      same p_is old_is open_old s step unchanged kept =
      let count = s.fit.count in
      let within_ps = program_within ps f p p_is in
      let lt : f < length exits = omega (arith, count, within_ps) in
      let change = put_of_kept failing values grew f sites exits exits' outcomes outcomes' list list' kept lt
      unchanged in
      let callers = subst (λ (l : List CallSite). ((t : CallSite) → Contains l t → Stands t.caller list')
      ⊎ (values ≡ slice_index_or exits f [])) same change.1 in
      let out_lt = slice_get_within outcomes f old old_is in
      record {
        fit = fit_put width ps f p values exits exits' p_is change.0
            (step_values least member width ps callees callable f p p_is exits failing values s.fit step) s.fit;
        said = subst (λ (x : List Outcome). AreOutcomes least ps callees x) (sym kept.noted)
            (said_put least ps callees f p old (Annotated failing) outcomes p_is old_is open_old (λ e. absurd (cc))
            (outcome_of least member width ps callees callable f p p_is exits failing values s.fit step s.below)
            s.said);
        settled = λ g q o q_is o_is.
            let o_at : slice_get (slice_set outcomes f (Annotated failing)) g ≡ Some o = subst
            (λ (x : List Outcome). slice_get x g ≡ Some o) kept.noted o_is in
            elim (cases_eq g f) [
              | inl here ↦
                  let at = subst (λ i. slice_get (slice_set outcomes f (Annotated failing)) i ≡ Some o) here o_at in
                  let this = get_same outcomes f (Annotated failing) out_lt in
                  let same_outcome : Annotated failing ≡ o = cc (at, this) in
                  let q_at = subst (λ i. program_of ps i ≡ Some q) here q_is in
                  let same_program : p ≡ q = cc (q_at, p_is) in
                  subst (λ i. IsSettled member exits' list' i q o) (sym here)
                  (subst (λ (x : AffineProgram). IsSettled member exits' list' f x o) same_program
                  (subst (λ (x : Outcome). IsSettled member exits' list' f p x) same_outcome
                  (this_settled least member width ps callees callable f p p_is exits failing values s.fit step lists
                  exits' list' index
                  change.0 callers)))
              | inr other ↦ other_settled member ps callees callable lists f values exits exits' list list' index
                  change.0 callers
                  kept.waits g q q_is other o (s.settled g q o q_is
                  (sym (get_other outcomes f g (Annotated failing) other) ∙ o_at))
            ];
        below = below_put least member width ps callees callable f p p_is exits failing values s.fit step exits'
            change.0 s.below;
        spans = spans_after least member width ps f p p_is exits (s.fit.values f p p_is) s.spans failing values exits'
            step change.0;
        large = λ g k row is. elim (cases_eq g f) [
          | inl here ↦
              let o_at : slice_get (slice_set outcomes f (Annotated failing)) g ≡ Some (Large k row) = subst
              (λ (x : List Outcome). slice_get x g ≡ Some (Large k row)) kept.noted is in
              let at = subst (λ i. slice_get (slice_set outcomes f (Annotated failing)) i ≡ Some (Large k row)) here
              o_at in
              let this = get_same outcomes f (Annotated failing) out_lt in
              absurd (cc (at, this))
          | inr other ↦
              let o_at : slice_get (slice_set outcomes f (Annotated failing)) g ≡ Some (Large k row) = subst
              (λ (x : List Outcome). slice_get x g ≡ Some (Large k row)) kept.noted is in
              s.large g k row (sym (get_other outcomes f g (Annotated failing) other) ∙ o_at)
        ];
      }

  pub settling_large : (f k : ℕ) (row : List ℤ) (p : AffineProgram) (old : Outcome)
      (exits : List (List (Option D))) (outcomes : List Outcome) (list : List ℕ) → program_of ps f ≡ Some p
      → slice_get outcomes f ≡ Some old → is_open old ≡ true
      → IsSettling least member width ps callees exits outcomes (f ∷ list) → HasRangePlace p k
      → IsLargeStep least member width p exits f row
      → IsSettling least member width ps callees exits (slice_set outcomes f (Large k row)) list
  settling_large f k row p old exits outcomes list p_is old_is open_old s place step = record {
    fit = s.fit;
    said = said_put least ps callees f p old (Large k row) outcomes p_is old_is open_old (λ e. absurd (cc)) place
        s.said;
    settled = λ g q o q_is o_is. elim (cases_eq g f) [
      | inl here ↦
          let at = subst (λ i. slice_get (slice_set outcomes f (Large k row)) i ≡ Some o) here o_is in
          let this = get_same outcomes f (Large k row) (slice_get_within outcomes f old old_is) in
          let same_outcome : Large k row ≡ o = cc (at, this) in
          subst (λ (x : Outcome). IsSettled member exits list g q x) same_outcome tt
      | inr other ↦ settled_drop member exits list f g q o other (s.settled g q o q_is
          (sym (get_other outcomes f g (Large k row) other) ∙ o_is))
    ];
    below = s.below;
    spans = s.spans;
    large = λ g j r is. elim (cases_eq g f) [
      | inl here ↦
          let at = subst (λ i. slice_get (slice_set outcomes f (Large k row)) i ≡ Some (Large j r)) here is in
          let this = get_same outcomes f (Large k row) (slice_get_within outcomes f old old_is) in
          let same_outcome : Large k row ≡ Large j r = cc (at, this) in
          let same : row ≡ r = cc in
          subst (λ i. IsLargeRound least member ps i r) (sym here)
          (subst (λ (x : List ℤ). IsLargeRound least member ps f x) same
          (large_round least member width ps f p p_is exits (s.fit.values f p p_is) s.spans row step))
      | inr other ↦ s.large g j r (sym (get_other outcomes f g (Large k row) other) ∙ is)
    ];
  }

  pub settling_skip : (f : ℕ) (exits : List (List (Option D))) (outcomes : List Outcome) (list : List ℕ)
      → (program_of ps f ≡ None) ⊎ ((o : Outcome) × (slice_get outcomes f ≡ Some o) × (is_open o ≡ false))
      → IsSettling least member width ps callees exits outcomes (f ∷ list)
      → IsSettling least member width ps callees exits outcomes list
  settling_skip f exits outcomes list why s = record {
    fit = s.fit;
    said = s.said;
    settled = λ g q o q_is o_is. elim (cases_eq g f) [
      | inl here ↦ elim why [
        | inl none ↦
            let at = subst (λ i. program_of ps i ≡ Some q) here q_is in
            absurd (cc (at, none))
        | inr final ↦
            let at = subst (λ i. slice_get outcomes i ≡ Some o) here o_is in
            let its = final.1 in
            let same : final.0 ≡ o = cc (at, its) in
            settled_final member exits list g q o (subst (λ (x : Outcome). is_open x ≡ false) same final.2)
      ]
      | inr other ↦ settled_drop member exits list f g q o other (s.settled g q o q_is o_is)
    ];
    below = s.below;
    spans = s.spans;
    large = s.large;
  }

  dot_zero : (e : List ℤ) (v : Vector) → ((i : ℕ) → i < length e → v i ≡ pos 0) → dot e v ≡ pos 0
  dot_zero [] v h = refl
  dot_zero (c ∷ e) v h =
      let a : c *ℤ v 0 ≡ pos 0 = ap (λ z. c *ℤ z) (h 0 (omega arith)) ∙ mul_zero c in
      let b = dot_zero e (λ i. v (suc i)) (λ i lt. h (suc i) (omega (arith, lt))) in
      omega (arith, ints, a, b)

  first_below : (l : least ≡ true) (exits : List (List (Option D))) → AreFirstExits least member width ps exits
      → IsBelowAll member ps callees exits
  first_below l exits first f c v rows h m = go (program_of ps f) refl
    where
      value : (p : AffineProgram) → program_of ps f ≡ Some p → (o : Option (Option D))
          → slice_get (slice_index_or exits f []) c ≡ o → members member (flatten o) v → exits_of rows f c v
      value p p_is None is n = absurd n
      value p p_is (Some None) is n = absurd n
      value p p_is (Some (Some d)) is n =
          let none = first.none f p p_is in
          let lt_list = slice_get_within (slice_index_or exits f []) c (Some d) is in
          let count = none.values.count in
          let lt : c < length p.exits = omega (arith, lt_list, count) in
          let w = slice_index_or p.exits c 0 in
          λ k r r_lt.
          let row = slice_index_or ((rows f).exits c) k r in
          let wide : length row ≡ w = (h.widths f p (reaches_self f) p_is).exits c lt k r r_lt in
          (none.none c d is).1 l row wide
          (λ u z. dot_zero row u (λ i i_lt. z i (omega (arith, i_lt, wide)))) v n

      go : (o : Option AffineProgram) → program_of ps f ≡ o → exits_of rows f c v
      go None is =
          absurd (subst (λ (ds : List (Option D)). members member (flatten (slice_get ds c)) v) (first.fit.none f is) m)
      go (Some p) is = value p is (slice_get (slice_index_or exits f []) c) refl m

  pub settling_first : (exits : List (List (Option D))) (outcomes : List Outcome) (list : List ℕ)
      → AreFirst ps callees outcomes
      → AreFirstExits least member width ps exits → ((f : ℕ) → f < length ps → Stands f list)
      → IsSettling least member width ps callees exits outcomes list
  settling_first exits outcomes list first none all = record {
    fit = none.fit;
    said = record {
      count = first.count;
      shapes = λ f is.
          let lt = slice_get_within outcomes f Shapes is in
          let count = first.count in
          elim (first.each f (omega (arith, lt, count))) [
            | inl h ↦ h.1
            | inr h ↦ let at = h.0 in absurd (cc (at, is))
          ];
      lacking = λ f lt lacks. elim (first.each f lt) [ inl h ↦ h.0 | inr h ↦ absurd (h.1 lacks) ];
      each = λ f p o p_is o_is. elim (first.each f (program_within ps f p p_is)) [
        | inl h ↦
            let at = h.0 in
            let same : Shapes ≡ o = cc (at, o_is) in
            subst (λ (x : Outcome). IsOutcome least ps callees f p x) same tt
        | inr h ↦
            let at = h.0 in
            let same : Waiting ≡ o = cc (at, o_is) in
            subst (λ (x : Outcome). IsOutcome least ps callees f p x) same tt
      ];
    };
    settled = λ f p o p_is o_is. elim (first.each f (program_within ps f p p_is)) [
      | inl h ↦
          let at = h.0 in
          let same : Shapes ≡ o = cc (at, o_is) in
          subst (λ (x : Outcome). IsSettled member exits list f p x) same tt
      | inr h ↦
          let at = h.0 in
          let same : Waiting ≡ o = cc (at, o_is) in
          subst (λ (x : Outcome). IsSettled member exits list f p x) same (all f (program_within ps f p p_is))
    ];
    below = λ l. first_below l exits none;
    spans = spans_at_first least member width ps exits none;
    large = λ f k row is.
        let lt = slice_get_within outcomes f (Large k row) is in
        let count = first.count in
        elim (first.each f (omega (arith, lt, count))) [
          | inl h ↦ let at = h.0 in absurd (cc (at, is))
          | inr h ↦ let at = h.0 in absurd (cc (at, is))
        ];
  }

-- ---- how much there is to do

sum_at : (lists : List (List CallSite)) (f : ℕ) → f < length lists → length (sites_of lists f) ≤ sum_by length lists
sum_at lists f lt = (let h = sum_by_more_le length lists f [] lt in omega (arith, h))

pub work_kept : {D : Type 0} (width rank : D → ℕ) (lists : List (List CallSite)) (failing : Failing)
    (values : List (Option D)) (grew : Bool) (f : ℕ) (sites : List CallSite) (exits exits' : List (List (Option D)))
    (outcomes outcomes' : List Outcome) (list list' : List ℕ) → sites ≡ sites_of lists f → f < length lists
    → f < length exits
    → (grew ≡ true → exits_room width rank values < exits_room width rank (slice_index_or exits f []))
    → IsKept failing values grew f sites exits exits' outcomes outcomes' list list'
    → work width rank lists exits' list' ≤ work width rank lists exits list
work_kept {D} width rank lists failing values grew f sites exits exits' outcomes outcomes' list list' same lt_lists lt
    rose kept =
    let n = 1 + sum_by length lists in
    elim kept.values_put [
      | inl h ↦
          let at_most = sum_at lists f lt_lists in
          let few : length sites ≤ sum_by length lists = subst (λ (l : List CallSite). length l ≤ sum_by length lists)
          (sym same) at_most in
          let less = rose h.0 in
          let e = sum_by-set (exits_room width rank) exits f values [] lt in
          let room : file_room width rank exits' + 1 ≤ file_room width rank exits = subst
          (λ (x : List (List (Option D))). file_room width rank x + 1 ≤ file_room width rank exits) (sym h.1)
          (omega (arith, e, less)) in
          let times = mul-le-mul_left n room in
          let more = h.3 in
          omega (arith, times, few, more)
      | inr h ↦
          let room : file_room width rank exits' ≡ file_room width rank exits = ap (file_room width rank) h.1 in
          let times : file_room width rank exits' * n ≡ file_room width rank exits * n = ap (λ r. r * n) room in
          let fewer = h.2 in
          omega (arith, times, fewer)
    ]

-- ---- the queue

pub settling_took : {D : Type 0} (least : Bool) (member : D → Vectors) (width : D → ℕ)
    (ps : List (Option AffineProgram)) (callees : List (List ℕ)) (exits : List (List (Option D)))
    (outcomes : List Outcome) (q q' : PendingState) (f : ℕ) → Takes q q' (Some f)
    → IsSettling least member width ps callees exits outcomes q.list
    → IsSettling least member width ps callees exits outcomes (f ∷ q'.list)
settling_took least member width ps callees exits outcomes q q' f took s =
    subst (λ (xs : List ℕ). IsSettling least member width ps callees exits outcomes xs) (took_list q q' f took) s

pub work_took : {D : Type 0} (width rank : D → ℕ) (lists : List (List CallSite)) (exits exits' : List (List (Option D)))
    (q q' q'' : PendingState) (f : ℕ) → Takes q q' (Some f)
    → work width rank lists exits' q''.list ≤ work width rank lists exits q'.list
    → work width rank lists exits' q''.list < work width rank lists exits q.list
work_took width rank lists exits exits' q q' q'' f took le =
    let l : length q.list ≡ length (f ∷ q'.list) = ap length (took_list q q' f took) in
    omega (arith, l, le)

pub settling_end : {D : Type 0} (least : Bool) (member : D → Vectors) (width : D → ℕ)
    (ps : List (Option AffineProgram)) (callees : List (List ℕ)) (exits : List (List (Option D)))
    (outcomes : List Outcome) (q : PendingState) → q.list ≡ []
    → IsSettling least member width ps callees exits outcomes q.list
    → IsSettling least member width ps callees exits outcomes []
settling_end least member width ps callees exits outcomes q none s =
    subst (λ (xs : List ℕ). IsSettling least member width ps callees exits outcomes xs) none s
