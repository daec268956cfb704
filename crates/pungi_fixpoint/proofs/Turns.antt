-- One turn: what an edge makes of its source's value, taken in at its target.
--   target_at, target_width, width_narrow    the value of a target, with its width
--   widths_new         the widths after a value grew
--   takes_new, takes_none    what the edge sends stands at its target
--   turn_made          such a step is a turn
--   large_made, large_taken  where it is large
--   sent_made, sent_wide, sent_large    the action after the guard
use Rattle.std.proofs.Common.{◌≡◌, inl, inr, ℕ, ◌<◌, ◌≤◌, ℤ, Bool, List, length, None, Some, Result, Ok, Err, sym}
use Rattle.std.proofs.Common.{subst, ◌∙◌, arith}
use Rattle.std.specs.Prelude.{Option, slice_get, slice_set, IfOk, MatchOption, OnOk, OnErr}
use Rattle.std.specs.List.{slice_index_or}
use Rattle.std.proofs.lemmas.List.{length-set}
use Rattle.std.proofs.lemmas.Option.{slice_get_cases, slice_get_within}
use Rattle.pungi_domain.specs.Annotations.{set_to}
use Rattle.pungi_domain.specs.Builds.{Acts, Covers, IsMet, LargeAct, LargeTurn, Stage, Turn, span_at, with_span}
use Rattle.pungi_domain.specs.Programs.{FitsEdge, IsTarget, IsWellFormed, width_at, width_to}
use Rattle.pungi_domain.specs.Spans.{LargeGrow}
use Rattle.pungi_domain.specs.Vectors.{Vector, Vectors, Either}
use Rattle.pungi_domain.specs.declared.affine_edge.AffineEdge.{AffineEdge}
use Rattle.pungi_domain.specs.declared.affine_program.AffineProgram.{AffineProgram}
use Rattle.pungi_domain.specs.declared.domain_fault.DomainFault.{DomainFault}
use Rattle.pungi_domain.specs.declared.equation.Equation.{Equation}
use Rattle.pungi_domain.specs.declared.target.Target.{Target}
use Rattle.pungi_domain.specs.declared.target.Target.TheVariants.{Place, Exit}
use Rattle.pungi_fixpoint.specs.Sent.{IsSent, LargeSent}
use Rattle.pungi_fixpoint.specs.Solver.{FitsWidths, calls, members, sets}
use Rattle.pungi_fixpoint.specs.Summaries.{exit_of}
use Rattle.pungi_fixpoint.specs.Turns.{HasNoExit, IsGrown, Takes, or_else}
use Rattle.pungi_fixpoint.proofs.Gets.{set_same}
use Rattle.pungi_fixpoint.proofs.Sends.{Same, Sums, met_members, acts_members, sends_none}
use Rattle.pungi_fixpoint.proofs.Stages.{put_at}

there : {D : Type 0} (ds : List D) (k : ℕ) → k < length ds → (d : D) × (slice_get ds k ≡ Some d)
there ds k lt = elim (slice_get_cases ds k).1 [ inl h ↦ (h.0, h.2) | inr h ↦ absurd (omega (arith, lt, h.0)) ]

pub target_at : {D : Type 0} (width : D → ℕ) (p : AffineProgram) (st : Stage D) (to : Target)
    → FitsWidths width p st.at st.exits → IsTarget p to → (d : D) × (span_at st to ≡ Some d)
target_at width p st (Place k) fits lt = there st.at k (rw fits.places lt)
target_at width p st (Exit k) fits lt = there st.exits k (rw fits.classes lt)

pub target_width : {D : Type 0} (width : D → ℕ) (p : AffineProgram) (st : Stage D) (to : Target) (t : D)
    → FitsWidths width p st.at st.exits → span_at st to ≡ Some t → width t ≡ width_to p to
target_width width p st (Place k) t fits h = fits.at_widths k t h
target_width width p st (Exit k) t fits h = fits.exit_widths k t h

pub width_narrow : (p : AffineProgram) (to : Target) → IsWellFormed p → IsTarget p to → width_to p to ≤ 256
width_narrow p (Place k) well lt = well.narrow k 0 lt
width_narrow p (Exit k) well lt = well.narrow_exits k 0 lt

widths_set : {D : Type 0} (width : D → ℕ) (ws : List ℕ) (ds : List D) (k : ℕ) (t x : D) → slice_get ds k ≡ Some t
    → width x ≡ width t → ((j : ℕ) (d : D) → slice_get ds j ≡ Some d → width d ≡ slice_index_or ws j 0)
    → (j : ℕ) (d : D) → slice_get (slice_set ds k x) j ≡ Some d → width d ≡ slice_index_or ws j 0
widths_set width ws ds k t x is same h j d g = elim (put_at ds k j x d (slice_get_within ds k t is) g) [
  | inl p ↦ rw (p.0, p.1) (same ∙ h k t is)
  | inr p ↦ h j d p.1
]

pub widths_new : {D : Type 0} (width : D → ℕ) (p : AffineProgram) (st : Stage D) (to : Target) (t x : D)
    → FitsWidths width p st.at st.exits → span_at st to ≡ Some t → width x ≡ width t
    → FitsWidths width p (with_span st to x).at (with_span st to x).exits
widths_new width p st (Place k) t x fits is same = record {
  places = length-set st.at k x ∙ fits.places;
  classes = fits.classes;
  at_widths = widths_set width p.widths st.at k t x is same fits.at_widths;
  exit_widths = fits.exit_widths;
}
widths_new width p st (Exit k) t x fits is same = record {
  places = fits.places;
  classes = length-set st.exits k x ∙ fits.classes;
  at_widths = fits.at_widths;
  exit_widths = widths_set width p.exits st.exits k t x is same fits.exit_widths;
}

pub widths_after : {D : Type 0} (least : Bool) (member : D → Vectors) (width : D → ℕ) (p : AffineProgram)
    (old new : Stage D) (to : Target) (value : D) (r : Result Bool DomainFault)
    → FitsWidths width p old.at old.exits → OnOk r (IsGrown least member width old to value new)
    → OnErr r (new ≡ old) → FitsWidths width p new.at new.exits
widths_after {D} least member width p old new to value (Ok b) fits grown same =
    subst (λ (st : Stage D). FitsWidths width p st.at st.exits) (sym grown.grown_is)
    (widths_new width p old to grown.target grown.grown fits grown.target_is grown.same_width)
widths_after {D} least member width p old new to value (Err f) fits grown same =
    subst (λ (st : Stage D). FitsWidths width p st.at st.exits) (sym same) fits

set_new : {D : Type 0} (member : D → Vectors) (st : Stage D) (to : Target) (t x : D) (u : Vector)
    → span_at st to ≡ Some t → member x u
    → set_to (sets member (with_span st to x).at) (sets member (with_span st to x).exits) to u
set_new member st (Place k) t x u is m =
    subst (λ o. members member o u) (sym (set_same st.at k x (slice_get_within st.at k t is))) m
set_new member st (Exit k) t x u is m =
    subst (λ o. members member o u) (sym (set_same st.exits k x (slice_get_within st.exits k t is))) m

pub takes_new : {D : Type 0} (least : Bool) (member : D → Vectors) (width : D → ℕ) (p : AffineProgram)
    (exits : List (List (Option D))) (e : AffineEdge) (old new : Stage D) (s t : D) → Same member width → Sums member
    → FitsEdge p e → slice_get old.at e.from ≡ Some s → IsSent least member p (exit_of exits) e s t
    → width t ≡ width_to p e.to → IsGrown least member width old e.to t new
    → Takes p (calls member exits) member old new e
takes_new {D} least member width p exits e old new s t same sums fits is sent wide grown =
    λ v u stands guard sends.
    let sv : member s v = subst (λ o. members member o v) is stands in
    let mv = met_members least member (width_at p e.from) e.guard s sent.met v sent.guard sv guard in
    let tu = acts_members least member width exits (width_at p e.from) (width_to p e.to) e.action sent.met t v u same
    sums fits.action wide sent.action mv sends in
    subst (λ (st : Stage D). set_to (sets member st.at) (sets member st.exits) e.to u) (sym grown.grown_is)
    (set_new member old e.to grown.target grown.grown u grown.target_is (grown.covers.0 u (inr tu)))

pub takes_none : {D : Type 0} (member : D → Vectors) (p : AffineProgram) (exits : List (List (Option D)))
    (e : AffineEdge) (old new : Stage D) → HasNoExit (exit_of exits) e.action
    → Takes p (calls member exits) member old new e
takes_none member p exits e old new none = λ v u stands guard sends.
    absurd (sends_none member exits (width_at p e.from) (width_to p e.to) e.action v u none sends)

pub turn_made : {D : Type 0} (least : Bool) (member : D → Vectors) (width : D → ℕ) (p : AffineProgram)
    (exit : ℕ → ℕ → Option D) (e : AffineEdge) (old new : Stage D) (s t : D) → FitsWidths width p old.at old.exits
    → slice_get old.at e.from ≡ Some s → IsSent least member p exit e s t → IsGrown least member width old e.to t new
    → Turn least member p exit e old new
turn_made least member width p exit e old new s t fits is sent grown = record {
  source = s;
  source_is = is;
  met = sent.met;
  guard = sent.guard;
  sent = t;
  action = sent.action;
  target = grown.target;
  target_is = grown.target_is;
  value = grown.grown;
  grown = subst (λ n. Covers least n (Either (member grown.target) (member t)) (member grown.grown))
      (target_width width p old e.to grown.target fits grown.target_is) grown.covers;
  others = grown.grown_is;
}

pub large_made : {D : Type 0} (least : Bool) (member : D → Vectors) (p : AffineProgram) (exit : ℕ → ℕ → Option D)
    (e : AffineEdge) (old : Stage D) (s : D) (r : List ℤ) → slice_get old.at e.from ≡ Some s
    → LargeSent least member p exit e s r → LargeTurn least member p exit e old r
large_made least member p exit e old s r is (inl h) = record { source = s; source_is = is; large = inl h }
large_made least member p exit e old s r is (inr h) =
    record { source = s; source_is = is; large = inr (h.0, h.1, inl h.2) }

pub large_taken : {D : Type 0} (least : Bool) (member : D → Vectors) (width : D → ℕ) (p : AffineProgram)
    (exit : ℕ → ℕ → Option D) (e : AffineEdge) (old : Stage D) (s t : D) (r : List ℤ)
    → FitsWidths width p old.at old.exits → slice_get old.at e.from ≡ Some s → IsSent least member p exit e s t
    → (x : D) × (span_at old e.to ≡ Some x) × LargeGrow (width x) (member x) (member t) r
    → LargeTurn least member p exit e old r
large_taken least member width p exit e old s t r fits is sent h = record {
  source = s;
  source_is = is;
  large = inr (
    sent.met,
    sent.guard,
    inr (
      t,
      h.0,
      sent.action,
      h.1,
      subst (λ n. LargeGrow n (member h.0) (member t) r) (target_width width p old e.to h.0 fits h.1) h.2,
    ),
  );
}

-- what met the guard, by another name, and with its width as the program has it
pub guard_met : {D : Type 0} (least : Bool) (member : D → Vectors) (n w : ℕ) (es : List Equation) (s m : D)
    (o : Option D) → n ≡ w → m ≡ or_else o s → IsMet least member n es s (or_else o s)
    → IsMet least member w es s m
guard_met least member n w es s m o e is h =
    subst (λ x. IsMet least member w es s x) (sym is) (subst (λ k. IsMet least member k es s (or_else o s)) e h)

-- what an action makes of the value that met the guard
pub sent_made : {D : Type 0} (least : Bool) (member : D → Vectors) (width : D → ℕ) (p : AffineProgram)
    (exit : ℕ → ℕ → Option D) (e : AffineEdge) (s m : D) (w z : ℕ) (r : Result (Option D) DomainFault)
    → w ≡ width_at p e.from → z ≡ width_to p e.to → IsMet least member (width_at p e.from) e.guard s m
    → IfOk r (λ o. MatchOption o (HasNoExit exit e.action)
    (λ t. Acts least member exit w z e.action m t × (width t ≡ z)))
    → IfOk r (λ o. MatchOption o (HasNoExit exit e.action) (IsSent least member p exit e s))
sent_made least member width p exit e s m w z (Ok None) from to met h = h
sent_made least member width p exit e s m w z (Ok (Some t)) from to met h = record {
  met = m;
  guard = met;
  action = subst (λ n. Acts least member exit n (width_to p e.to) e.action m t) from
      (subst (λ n. Acts least member exit w n e.action m t) to h.0);
}
sent_made least member width p exit e s m w z (Err f) from to met h = tt

pub sent_wide : {D : Type 0} (least : Bool) (member : D → Vectors) (width : D → ℕ) (p : AffineProgram)
    (exit : ℕ → ℕ → Option D) (e : AffineEdge) (m : D) (w z : ℕ) (r : Result (Option D) DomainFault)
    → z ≡ width_to p e.to
    → IfOk r (λ o. MatchOption o (HasNoExit exit e.action)
    (λ t. Acts least member exit w z e.action m t × (width t ≡ z)))
    → IfOk r (λ o. MatchOption o (HasNoExit exit e.action) (λ t. width t ≡ width_to p e.to))
sent_wide least member width p exit e m w z (Ok None) to h = h
sent_wide least member width p exit e m w z (Ok (Some t)) to h = h.1 ∙ to
sent_wide least member width p exit e m w z (Err f) to h = tt

pub sent_large : {D : Type 0} (least : Bool) (member : D → Vectors) (p : AffineProgram) (exit : ℕ → ℕ → Option D)
    (e : AffineEdge) (s m : D) (w z : ℕ) (r : List ℤ) → w ≡ width_at p e.from → z ≡ width_to p e.to
    → IsMet least member (width_at p e.from) e.guard s m → LargeAct least member exit w z e.action m r
    → LargeSent least member p exit e s r
sent_large least member p exit e s m w z r from to met h =
    inr (
      m,
      met,
      subst (λ n. LargeAct least member exit n (width_to p e.to) e.action m r) from
          (subst (λ n. LargeAct least member exit w n e.action m r) to h),
    )
