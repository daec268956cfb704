-- The states at the end, and what they say.
--   IsJudged               a function that reaches no large step, and all functions that it reaches, are annotated
--   View, view             what a function's state says
--   state_shapes, shapes_state, state_place, state_range, state_not_safe, annotated    the same, clause by clause
use Rattle.std.proofs.Common.{◌≡◌, ◌∙◌, ◌⊎◌, inl, inr, ℕ, ◌<◌, ◌==◌, cond, Bool, true, false, List, [], length}
use Rattle.std.proofs.Common.{Option, Some, None, refl, sym, ap, subst, arith, map, ℤ}
use Rattle.std.specs.Prelude.{slice_get, option_map, is_some}
use Rattle.std.proofs.lemmas.Bool.Decides.{eqb_tells}
use Rattle.std.proofs.lemmas.Option.{slice_get-map, slice_get_within}
use Rattle.pungi_domain.specs.Annotations.{IsInductive, Rows}
use Rattle.pungi_domain.specs.Vectors.{Vectors}
use Rattle.pungi_domain.specs.declared.affine_program.AffineProgram.{AffineProgram}
use Rattle.pungi_fixpoint.specs.Duties.{MeetsDuties}
use Rattle.pungi_fixpoint.specs.Solver.{calls, sets}
use Rattle.pungi_fixpoint.specs.Summaries.{flatten}
use Rattle.pungi_fixpoint.specs.declared.duty_kind.DutyKind.{DutyKind}
use Rattle.pungi_fixpoint.specs.declared.duty_kind.DutyKind.TheVariants.{OfPlaces, OfExits}
use Rattle.pungi_fixpoint.specs.declared.state.State.{State}
use Rattle.pungi_fixpoint.specs.declared.state.State.TheVariants.{NotSafe, Range, Safe, Shapes as Too_large}
use Rattle.pungi_links.specs.Ring.{Stands}
use Rattle.pungi_summary.specs.Calls.{AreCallable, HasPlace, LacksProgram, Reaches, program_of, reaches_self}
use Rattle.pungi_summary.specs.Families.{AreInductive, AreInductiveRows, AreSafe, AreSafeRows}
use Rattle.pungi_summary.specs.Outcomes.{is_large, is_unsafe}
use Rattle.pungi_summary.specs.Results.{AreAnnotated, HasRange}
use Rattle.pungi_summary.specs.States.{AreStates, by_failing, inherited, state_of, unless_shapes}
use Rattle.pungi_summary.specs.Ways.{IsStart, IsWay}
use Rattle.pungi_summary.specs.Worklist.{IsAnnotated, IsOutcome, IsReason, IsSettling, Meets}
use Rattle.pungi_summary.specs.declared.failing.Failing.{Failing}
use Rattle.pungi_summary.specs.declared.outcome.Outcome.{Outcome}
use Rattle.pungi_summary.specs.declared.outcome.Outcome.TheVariants.{Annotated, Large, Shapes, Waiting}
use Rattle.pungi_summary.specs.declared.way.Way.{Way}
use Rattle.pungi_summary.proofs.Callees.{reach_within, reaches_through}
use Rattle.pungi_summary.proofs.Lists.{within}
use Rattle.pungi_summary.proofs.Walks.{way_reaches}

started : (test : Outcome → Bool) (outcomes : List Outcome) (f : ℕ) → IsStart (map test outcomes) f
    → (o : Outcome) × (slice_get outcomes f ≡ Some o) × (test o ≡ true)
started test outcomes f is = go (slice_get outcomes f) refl
  where
    go : (o : Option Outcome) → slice_get outcomes f ≡ o
        → (x : Outcome) × (slice_get outcomes f ≡ Some x) × (test x ≡ true)
    go None e =
        let at : slice_get (map test outcomes) f ≡ None = slice_get-map test outcomes f ∙ ap (option_map test) e in
        absurd (cc (at, is))
    go (Some x) e =
        let at : slice_get (map test outcomes) f ≡ Some (test x) = slice_get-map test outcomes f
        ∙ ap (option_map test) e in
        (x, e, cc (at, is))

starts_at : (test : Outcome → Bool) (outcomes : List Outcome) (f : ℕ) (o : Outcome) → slice_get outcomes f ≡ Some o
    → test o ≡ true → IsStart (map test outcomes) f
starts_at test outcomes f o e holds = slice_get-map test outcomes f ∙ (ap (option_map test) e ∙ ap Some holds)

module _ {D : Type 0} (least : Bool) (member : D → Vectors) (width : D → ℕ) (ps : List (Option AffineProgram))
    (callees : List (List ℕ)) (exits : List (List (Option D))) (outcomes : List Outcome) (states : List State)
    (callable : AreCallable ps callees)
    (s : IsSettling least member width ps callees exits outcomes []) (t : AreStates ps callees outcomes states) where
  -- the outcome of a function that has no large one in reach, nor lacks a program there
  annotated_at : (g : ℕ) → g < length ps → (LacksProgram ps callees g → ⊥)
      → ((o : Outcome) → slice_get outcomes g ≡ Some o → is_large o ≡ true → ⊥)
      → (x : Failing) × (slice_get outcomes g ≡ Some (Annotated x)) × ((p : AffineProgram) × (program_of ps g ≡ Some p)
      × IsAnnotated member p exits g x × IsOutcome least ps callees g p (Annotated x))
  annotated_at g lt full not_large =
      let count = s.said.count in
      let o = within outcomes g (omega (arith, lt, count)) in
      go o.0 o.1 (program_of ps g) refl
    where
      go : (o : Outcome) → slice_get outcomes g ≡ Some o → (q : Option AffineProgram) → program_of ps g ≡ q
          → (x : Failing) × (slice_get outcomes g ≡ Some (Annotated x)) × ((p : AffineProgram)
          × (program_of ps g ≡ Some p) × IsAnnotated member p exits g x × IsOutcome least ps callees g p (Annotated x))
      go o is None none = absurd (full (g, reaches_self g, none))
      go Shapes is (Some p) p_is = absurd (full (s.said.shapes g is))
      go Waiting is (Some p) p_is = absurd (s.settled g p Waiting p_is is)
      go (Large k row) is (Some p) p_is = absurd (not_large (Large k row) is refl)
      go (Annotated x) is (Some p) p_is =
          (x, is, (p, p_is, done (s.settled g p (Annotated x) p_is is), s.said.each g p (Annotated x) p_is is))
        where
          done : Stands g [] ⊎ IsAnnotated member p exits g x → IsAnnotated member p exits g x
          done (inl waits) = absurd waits
          done (inr a) = a

  -- no large outcome and no missing program in reach
  pub record IsJudged (f : ℕ) : Type 0 where
    pub within_file : f < length ps
    pub full : LacksProgram ps callees f → ⊥
    pub small : (g : ℕ) → Reaches callees f g → (o : Outcome) → slice_get outcomes g ≡ Some o → is_large o ≡ true → ⊥

  judged_at : (f g : ℕ) → IsJudged f → Reaches callees f g → (x : Failing) × (slice_get outcomes g ≡ Some (Annotated x))
      × ((p : AffineProgram) × (program_of ps g ≡ Some p)
      × IsAnnotated member p exits g x × IsOutcome least ps callees g p (Annotated x))
  judged_at f g j reaches = annotated_at g (reach_within ps callees f g callable j.within_file reaches)
      (λ lacks. j.full (lacks.0, reaches_through callees f g lacks.0 reaches lacks.1, lacks.2)) (j.small g reaches)

  pub data View (f : ℕ) : State → Type 0 where
    view_shapes : LacksProgram ps callees f → View f Too_large
    view_range : (k : ℕ) (row : List ℤ) → (LacksProgram ps callees f → ⊥) → HasRange least member ps callees f k row
        → View f (Range k row)
    view_not_safe : (k : ℕ) → IsJudged f → HasPlace ps callees f k
        → (least ≡ true → (rows : ℕ → Rows) → AreSafeRows ps callees rows f → ⊥) → View f (NotSafe k)
    view_safe : IsJudged f
        → ((g : ℕ) (o : Outcome) → Reaches callees f g → slice_get outcomes g ≡ Some o → is_unsafe o ≡ true → ⊥)
        → ((x : Failing) → slice_get outcomes f ≡ Some (Annotated x) → x.exits ≡ None) → View f Safe

  inductive_rows : (rows : ℕ → Rows) (f g : ℕ) → Reaches callees f g → AreSafeRows ps callees rows f
      → AreInductiveRows ps callees rows g
  inductive_rows rows f g reaches h = record {
    widths = λ j p on. h.widths j p (reaches_through callees f g j reaches on);
    inductive = λ j p on. h.safe.inductive j p (reaches_through callees f g j reaches on);
  }

  reason_place : (kind : DutyKind) (f k : ℕ) (p : AffineProgram) → program_of ps f ≡ Some p
      → IsReason kind least ps callees f p (Some k) → HasPlace ps callees f k
  reason_place kind f k p is h = record { program = p; program_is = is; place = inl h.0 }

  -- a failing duty of an edge to a place, in reach
  unsafe_at : (f g : ℕ) → IsJudged f → Reaches callees f g → (o : Outcome) → slice_get outcomes g ≡ Some o
      → is_unsafe o ≡ true → least ≡ true → (rows : ℕ → Rows) → AreSafeRows ps callees rows f → ⊥
  unsafe_at f g j reaches o is bad l rows h =
      let a = judged_at f g j reaches in
      let at = a.1 in
      let same : o ≡ Annotated a.0 = cc (is, at) in
      broken a.0 a.2.0 a.2.1 a.2.3 a.0.places refl (subst (λ (x : Outcome). is_unsafe x ≡ true) same bad)
    where
      broken : (x : Failing) (p : AffineProgram) → program_of ps g ≡ Some p
          → IsOutcome least ps callees g p (Annotated x)
          → (q : Option ℕ) → x.places ≡ q → is_some x.places ≡ true → ⊥
      broken x p p_is says None e some =
          let no : false ≡ true = sym (ap is_some e) ∙ some in
          absurd (cc)
      broken x p p_is says (Some k) e some =
          let why = subst (λ (q : Option ℕ). IsReason OfPlaces least ps callees g p q) e says.0 in
          why.1 l rows (inductive_rows rows f g reaches h) (h.safe.place_duties g p reaches p_is)

  not_safe_exits : (f k : ℕ) (x : Failing) (p : AffineProgram) → program_of ps f ≡ Some p
      → IsOutcome least ps callees f p (Annotated x) → x.exits ≡ Some k → least ≡ true → (rows : ℕ → Rows)
      → AreSafeRows ps callees rows f → ⊥
  not_safe_exits f k x p p_is says e l rows h =
      let why = subst (λ (q : Option ℕ). IsReason OfExits least ps callees f p q) e says.1 in
      why.1 l rows (inductive_rows rows f f (reaches_self f) h) (h.safe.exit_duties p p_is)

  way_place : (f : ℕ) (w : Way) (p : AffineProgram) → program_of ps f ≡ Some p → IsWay ps callees f w
      → (f ≡ w.origin → ⊥) → HasPlace ps callees f w.place
  way_place f w p p_is (inl same) other = absurd (other same)
  way_place f w p p_is (inr h) other = record { program = p; program_is = p_is; place = inr (h.0, h.1) }

  way_at : (ways : List (Option Way)) (f : ℕ) (o : Option Way) → f < length ways → flatten (slice_get ways f) ≡ o
      → slice_get ways f ≡ Some o
  way_at ways f o lt e = (let h = within ways f lt in let at = h.1 in at ∙ ap Some (sym (ap flatten at) ∙ e))

  judged_view : (f : ℕ) (x : Failing) (p : AffineProgram) → IsJudged f → program_of ps f ≡ Some p
      → slice_get outcomes f ≡ Some (Annotated x) → IsOutcome least ps callees f p (Annotated x) → (way : Option Way)
      → slice_get t.failing f ≡ Some way → (a b : Option ℕ) → x.places ≡ a → x.exits ≡ b
      → View f (by_failing a b way)
  judged_view f x p j p_is is says way way_is (Some k) b e e' =
      view_not_safe k j (reason_place OfPlaces f k p p_is
      (subst (λ (q : Option ℕ). IsReason OfPlaces least ps callees f p q) e says.0))
      (λ l rows h. unsafe_at f f j (reaches_self f) (Annotated x) is (ap is_some e) l rows h)
  judged_view f x p j p_is is says way way_is None (Some k) e e' =
      view_not_safe k j (reason_place OfExits f k p p_is
      (subst (λ (q : Option ℕ). IsReason OfExits least ps callees f p q) e' says.1))
      (λ l rows h. not_safe_exits f k x p p_is says e' l rows h)
  judged_view f x p j p_is is says (Some w) way_is None None e e' =
      let sound = t.failing_ways.sound f w way_is in
      let start = started is_unsafe outcomes w.origin sound.1 in
      view_not_safe w.place j
      (way_place f w p p_is sound.0 (λ same.
      let at = subst (λ i. slice_get outcomes i ≡ Some start.0) (sym same) start.1 in
      let this : start.0 ≡ Annotated x = cc (at, is) in
      let bad : is_some x.places ≡ true = subst (λ (o : Outcome). is_unsafe o ≡ true) this start.2 in
      let no : false ≡ true = sym (ap is_some e) ∙ bad in
      absurd (cc)))
      (λ l rows h. unsafe_at f w.origin j (way_reaches ps callees f w sound.0) start.0 start.1 start.2 l rows h)
  judged_view f x p j p_is is says None way_is None None e e' =
      view_safe j
      (λ g o reaches o_is bad. t.failing_ways.complete f g way_is reaches (starts_at is_unsafe outcomes g o o_is bad))
      (λ y y_is. (let same : Annotated y ≡ Annotated x = cc (y_is, is) in
      let fields : y ≡ x = cc in ap (λ (z : Failing). z.exits) fields ∙ e'))

  range_at : (f k : ℕ) (w : Way) (row : List ℤ) → (LacksProgram ps callees f → ⊥) → IsWay ps callees f w
      → slice_get outcomes w.origin ≡ Some (Large k row) → (b : Bool)
      → ((b ≡ true) × (w.origin ≡ f)) ⊎ ((b ≡ false) × (w.origin ≡ f → ⊥))
      → HasRange least member ps callees f (cond b k w.place) row
  range_at f k w row full way is true (inl same) = own (program_of ps f) refl
    where
      own : (q : Option AffineProgram) → program_of ps f ≡ q → HasRange least member ps callees f k row
      own None none = absurd (full (f, reaches_self f, none))
      own (Some p) p_is = record {
        origin = w.origin;
        reaches = way_reaches ps callees f w way;
        large = s.large w.origin k row is;
        place = inl (
          p,
          p_is,
          s.said.each f p (Large k row) p_is
              (subst (λ i. slice_get outcomes i ≡ Some (Large k row)) same.1 is),
        );
      }
  range_at f k w row full (inl here) is false (inr other) = absurd (other.1 (sym here))
  range_at f k w row full (inr call) is false (inr other) = record {
    origin = w.origin;
    reaches = way_reaches ps callees f w (inr call);
    large = s.large w.origin k row is;
    place = inr (call.0, call.1, call.2);
  }
  range_at f k w row full way is true (inr other) = (let no = other.0 in absurd (cc))
  range_at f k w row full way is false (inl same) = (let no = same.0 in absurd (cc))

  view_inherited : (f : ℕ) → (LacksProgram ps callees f → ⊥) → (w : Way) → slice_get t.large f ≡ Some (Some w)
      → View f (inherited (slice_get outcomes w.origin) f w)
  view_inherited f full w way_is =
      let sound = t.large_ways.sound f w way_is in
      let start = started is_large outcomes w.origin sound.1 in
      subst (λ (q : Option Outcome). View f (inherited q f w)) (sym start.1) (go sound.0 start.0 start.1 start.2)
    where
      go : IsWay ps callees f w → (o : Outcome) → slice_get outcomes w.origin ≡ Some o → is_large o ≡ true
          → View f (inherited (Some o) f w)
      go way Shapes is large = absurd (cc)
      go way Waiting is large = absurd (cc)
      go way (Annotated x) is large = absurd (cc)
      go way (Large k row) is large =
          view_range (cond (w.origin == f) k w.place) row full
          (range_at f k w row full way is (w.origin == f) (eqb_tells w.origin f))

  view_at : (f : ℕ) → f < length ps → (o : Outcome) → slice_get outcomes f ≡ Some o → (lw : Option Way)
      → slice_get t.large f ≡ Some lw → (fw : Option Way) → slice_get t.failing f ≡ Some fw
      → View f (unless_shapes outcomes (Some o) f lw fw)
  view_at f lt Shapes is lw lw_is fw fw_is = view_shapes (s.said.shapes f is)
  view_at f lt Waiting is (Some w) lw_is fw fw_is = view_inherited f
      (λ lacks. (let at = s.said.lacking f lt lacks in absurd (cc (at, is)))) w lw_is
  view_at f lt Waiting is None lw_is fw fw_is = go (program_of ps f) refl
    where
      go : (q : Option AffineProgram) → program_of ps f ≡ q → View f Too_large
      go None none = view_shapes (f, reaches_self f, none)
      go (Some p) p_is = absurd (s.settled f p Waiting p_is is)
  view_at f lt (Annotated x) is (Some w) lw_is fw fw_is = view_inherited f
      (λ lacks. (let at = s.said.lacking f lt lacks in absurd (cc (at, is)))) w lw_is
  view_at f lt (Annotated x) is None lw_is fw fw_is =
      let judged : IsJudged f = record {
        within_file = lt;
        full = λ lacks. (let at = s.said.lacking f lt lacks in absurd (cc (at, is)));
        small = λ g reaches o o_is large. t.large_ways.complete f g lw_is reaches
            (starts_at is_large outcomes g o o_is large);
      } in
      let a = judged_at f f judged (reaches_self f) in
      let at = a.1 in
      let same : Annotated a.0 ≡ Annotated x = cc (at, is) in
      judged_view f x a.2.0 judged a.2.1 is
      (subst (λ (o : Outcome). IsOutcome least ps callees f a.2.0 o) same a.2.3) fw fw_is x.places x.exits refl refl
  view_at f lt (Large k row) is (Some w) lw_is fw fw_is = view_inherited f
      (λ lacks. (let at = s.said.lacking f lt lacks in absurd (cc (at, is)))) w lw_is
  view_at f lt (Large k row) is None lw_is fw fw_is =
      absurd (t.large_ways.complete f f lw_is (reaches_self f) (starts_at is_large outcomes f (Large k row) is refl))

  pub view : (f : ℕ) (st : State) → slice_get states f ≡ Some st → View f st
  view f st st_is =
      let count = t.count in
      let lt_states = slice_get_within states f st st_is in
      let lt : f < length ps = omega (arith, count, lt_states) in
      let outcomes_count = s.said.count in
      let large_count = t.large_ways.count in
      let failing_count = t.failing_ways.count in
      let o = within outcomes f (omega (arith, lt, outcomes_count)) in
      let lw = within t.large f (omega (arith, lt, large_count)) in
      let fw = within t.failing f (omega (arith, lt, failing_count)) in
      let v = view_at f lt o.0 o.1 lw.0 lw.1 fw.0 fw.1 in
      let named : state_of outcomes f (flatten (slice_get t.large f)) (flatten (slice_get t.failing f))
      ≡ unless_shapes outcomes (Some o.0) f lw.0 fw.0 =
      ap (λ q. unless_shapes outcomes q f (flatten (slice_get t.large f)) (flatten (slice_get t.failing f))) o.1
      ∙ (ap (λ q. unless_shapes outcomes (Some o.0) f (flatten q) (flatten (slice_get t.failing f))) lw.1
      ∙ ap (λ q. unless_shapes outcomes (Some o.0) f lw.0 (flatten q)) fw.1) in
      let each = t.each f lt in
      let same : unless_shapes outcomes (Some o.0) f lw.0 fw.0 ≡ st = sym named ∙ cc (each, st_is) in
      subst (View f) same v

  lacks_of : (f : ℕ) (st : State) → st ≡ Too_large → View f st → LacksProgram ps callees f
  lacks_of f st e (view_shapes lacks) = lacks
  lacks_of f st e (view_range k row full place) = absurd (cc)
  lacks_of f st e (view_not_safe k j place fails) = absurd (cc)
  lacks_of f st e (view_safe j places exits) = absurd (cc)

  shapes_of : (f : ℕ) (st : State) → View f st → LacksProgram ps callees f → st ≡ Too_large
  shapes_of f st (view_shapes lacks) h = refl
  shapes_of f st (view_range k row full place) h = absurd (full h)
  shapes_of f st (view_not_safe k j place fails) h = absurd (j.full h)
  shapes_of f st (view_safe j places exits) h = absurd (j.full h)

  pub state_shapes : (f : ℕ) → slice_get states f ≡ Some Too_large → LacksProgram ps callees f
  state_shapes f is = lacks_of f Too_large refl (view f Too_large is)

  pub shapes_state : (f : ℕ) → f < length ps → LacksProgram ps callees f → slice_get states f ≡ Some Too_large
  shapes_state f lt lacks =
      let count = t.count in
      let st = within states f (omega (arith, lt, count)) in
      st.1 ∙ ap Some (shapes_of f st.0 (view f st.0 st.1) lacks)

  range_of : (f k : ℕ) (row : List ℤ) (st : State) → st ≡ Range k row → View f st
      → HasRange least member ps callees f k row
  range_of f k row st e (view_shapes lacks) = absurd (cc)
  range_of f k row st e (view_range j r full place) = (let same : j ≡ k = cc in let rows_same : r ≡ row = cc in
      subst (λ i. HasRange least member ps callees f i row) same
      (subst (λ (x : List ℤ). HasRange least member ps callees f j x) rows_same place))
  range_of f k row st e (view_not_safe j judged place fails) = absurd (cc)
  range_of f k row st e (view_safe j places exits) = absurd (cc)

  pub state_range : (f k : ℕ) (row : List ℤ) → slice_get states f ≡ Some (Range k row)
      → HasRange least member ps callees f k row
  state_range f k row is = range_of f k row (Range k row) refl (view f (Range k row) is)

  place_of : (f k : ℕ) (st : State) → st ≡ NotSafe k → View f st → HasPlace ps callees f k
  place_of f k st e (view_shapes lacks) = absurd (cc)
  place_of f k st e (view_range j row full place) = absurd (cc)
  place_of f k st e (view_not_safe j judged place fails) = (let same : j ≡ k = cc in subst (HasPlace ps callees f) same
      place)
  place_of f k st e (view_safe j places exits) = absurd (cc)

  pub state_place : (f k : ℕ) → slice_get states f ≡ Some (NotSafe k) → HasPlace ps callees f k
  state_place f k is = place_of f k (NotSafe k) refl (view f (NotSafe k) is)

  none_safe : (f k : ℕ) (st : State) → st ≡ NotSafe k → View f st → least ≡ true → (rows : ℕ → Rows)
      → AreSafeRows ps callees rows f → ⊥
  none_safe f k st e (view_shapes lacks) = absurd (cc)
  none_safe f k st e (view_range j row full place) = absurd (cc)
  none_safe f k st e (view_not_safe j judged place fails) = fails
  none_safe f k st e (view_safe j places exits) = absurd (cc)

  pub state_not_safe : least ≡ true → (f k : ℕ) (rows : ℕ → Rows) → slice_get states f ≡ Some (NotSafe k)
      → AreSafeRows ps callees rows f → ⊥
  state_not_safe l f k rows is = none_safe f k (NotSafe k) refl (view f (NotSafe k) is) l rows

  judged_of : (f k : ℕ) (st : State) → st ≡ NotSafe k → View f st → IsJudged f
  judged_of f k st e (view_shapes lacks) = absurd (cc)
  judged_of f k st e (view_range j row full place) = absurd (cc)
  judged_of f k st e (view_not_safe j judged place fails) = judged
  judged_of f k st e (view_safe j places exits) = absurd (cc)

  -- the values at the places of a function that is annotated
  record IsChosen (g : ℕ) (at : List D) (x : Failing) (p : AffineProgram) : Type 0 where
    inductive : IsInductive p (calls member exits) (sets member at) (calls member exits g)
    places : Meets OfPlaces member p at x.places
    exits_met : Meets OfExits member p at x.exits

  chosen : (g : ℕ) → (at : List D) × ((x : Failing) (p : AffineProgram) → slice_get outcomes g ≡ Some (Annotated x)
      → program_of ps g ≡ Some p → IsChosen g at x p)
  chosen g = go (slice_get outcomes g) refl (program_of ps g) refl
    where
      go : (o : Option Outcome) → slice_get outcomes g ≡ o → (q : Option AffineProgram) → program_of ps g ≡ q
          → (at : List D) × ((x : Failing) (p : AffineProgram) → slice_get outcomes g ≡ Some (Annotated x)
          → program_of ps g ≡ Some p → IsChosen g at x p)
      go None is q q_is = ([], λ x p x_is p_is. absurd (cc (x_is, is)))
      go (Some Shapes) is q q_is = ([], λ x p x_is p_is. absurd (cc (x_is, is)))
      go (Some Waiting) is q q_is = ([], λ x p x_is p_is. absurd (cc (x_is, is)))
      go (Some (Large k row)) is q q_is = ([], λ x p x_is p_is. absurd (cc (x_is, is)))
      go (Some (Annotated y)) is None q_is = ([], λ x p x_is p_is. absurd (cc (p_is, q_is)))
      go (Some (Annotated y)) is (Some q) q_is = done (s.settled g q (Annotated y) q_is is)
        where
          done : Stands g [] ⊎ IsAnnotated member q exits g y
              → (at : List D) × ((x : Failing) (p : AffineProgram) → slice_get outcomes g ≡ Some (Annotated x)
              → program_of ps g ≡ Some p → IsChosen g at x p)
          done (inl waits) = absurd waits
          done (inr a) = (
            a.at,
            λ x p x_is p_is.
                let outcome_same : Annotated y ≡ Annotated x = cc (x_is, is) in
                let same : y ≡ x = cc in
                let program_same : q ≡ p = cc (p_is, q_is) in
                subst (λ (z : AffineProgram). IsChosen g a.at x z) program_same
                (subst (λ (z : Failing). IsChosen g a.at z q) same
                (record { inductive = a.inductive; places = a.places; exits_met = a.exits_met })),
          )

  values_at : ℕ → List D
  values_at g = (chosen g).0

  chosen_at : (f g : ℕ) (p : AffineProgram) → IsJudged f → Reaches callees f g → program_of ps g ≡ Some p
      → (x : Failing) × (slice_get outcomes g ≡ Some (Annotated x)) × IsChosen g (values_at g) x p
  unfolding values_at
  chosen_at f g p j reaches p_is =
      let a = judged_at f g j reaches in
      (a.0, a.1, (chosen g).1 a.0 p a.1 p_is)

  meets_none : (kind : DutyKind) (p : AffineProgram) (at : List D) (o : Option ℕ) → o ≡ None → Meets kind member p at o
      → MeetsDuties kind p (sets member at)
  meets_none kind p at None e h = h
  meets_none kind p at (Some k) e h = absurd (cc)

  not_some : (o : Option ℕ) → (is_some o ≡ true → ⊥) → o ≡ None
  not_some None h = refl
  not_some (Some k) h = absurd (h refl)

  judged_inductive : (f : ℕ) → IsJudged f → AreInductive ps callees (λ g. sets member (values_at g))
      (calls member exits) f
  judged_inductive f j g p reaches p_is = (chosen_at f g p j reaches p_is).2.inductive

  safe_of : (f : ℕ) (st : State) → st ≡ Safe → View f st
      → AreSafe ps callees (λ g. sets member (values_at g)) (calls member exits) f
  safe_of f st e (view_shapes lacks) = absurd (cc)
  safe_of f st e (view_range j row full place) = absurd (cc)
  safe_of f st e (view_not_safe j judged place fails) = absurd (cc)
  safe_of f st e (view_safe j places exits_none) = record {
    inductive = judged_inductive f j;
    place_duties = λ g p reaches p_is.
        let a = chosen_at f g p j reaches p_is in
        meets_none OfPlaces p (values_at g) a.0.places
        (not_some a.0.places (λ bad. places g (Annotated a.0) reaches a.1 bad)) a.2.places;
    exit_duties = λ p p_is.
        let a = chosen_at f f p j (reaches_self f) p_is in
        meets_none OfExits p (values_at f) a.0.exits (exits_none a.0 a.1) a.2.exits_met;
  }

  pub annotated : (at : ℕ → List D) × AreAnnotated member ps callees at (record { exits = exits; states = states })
  annotated = (
    values_at,
    record {
      not_safe = λ f k is. judged_inductive f (judged_of f k (NotSafe k) refl (view f (NotSafe k) is));
      safe = λ f is. safe_of f Safe refl (view f Safe is);
    },
  )
