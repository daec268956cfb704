-- Values at places: of no vectors, at entries, and after one grew.
--   NothingBelow      the values made so far are of no vectors
--   nothing_more, nothing_all     one value more, and all of them
--   enter_none, enter_more        no entries yet, and one more
--   enter_all         all entries
--   grown_at          what a domain's grow makes of a list
--   grown_place, grown_exit, room_falls    and of a moment
use Rattle.std.proofs.Common.{◌≡◌, ◌⊎◌, inl, inr, ℕ, ◌+◌, ◌-◌, ◌<◌, ◌≤◌, pos, Bool, true, List, [], ◌∷◌, ◌++◌}
use Rattle.std.proofs.Common.{length, take, Some, Result, Ok, Err, refl, sym, ap, subst, ◌∙◌, arith}
use Rattle.std.specs.Prelude.{slice_get, slice_set, OnOk}
use Rattle.std.specs.List.{slice_index_or}
use Rattle.std.proofs.lemmas.List.{length-set, length_push, take_all, take_more}
use Rattle.std.proofs.lemmas.List.Elements.{All-nil, All-pop, All-push, All-weaker}
use Rattle.pungi_domain.specs.Builds.{Covers, Stage}
use Rattle.pungi_domain.specs.Spans.{Zero}
use Rattle.pungi_domain.specs.Vectors.{Vector, Vectors, Either, Follows}
use Rattle.pungi_domain.specs.declared.domain_fault.DomainFault.{DomainFault}
use Rattle.pungi_domain.specs.declared.target.Target.TheVariants.{Place, Exit}
use Rattle.pungi_fixpoint.specs.Stages.{AreEntered, AreNothing, IsGrownAt}
use Rattle.pungi_fixpoint.specs.Turns.{IsGrown}
use Rattle.pungi_fixpoint.proofs.Gets.{get_push, same_or, set_same, set_other, some_same}
use Rattle.pungi_fixpoint.proofs.Rows.{covers_union}
use Rattle.pungi_fixpoint.proofs.Sends.{Same}

pub record NothingBelow {D : Type 0} (least : Bool) (member : D → Vectors) (width : D → ℕ) (ws : List ℕ) (i : ℕ)
    (ss : List D) : Type 0 where
  pub count : length ss ≡ i
  pub widths : (k : ℕ) (s : D) → slice_get ss k ≡ Some s → width s ≡ slice_index_or ws k 0
  pub nothing : (k : ℕ) (s : D) → slice_get ss k ≡ Some s
      → Covers least (slice_index_or ws k 0) (Zero (slice_index_or ws k 0)) (member s)

pub nothing_none : {D : Type 0} (least : Bool) (member : D → Vectors) (width : D → ℕ) (ws : List ℕ)
    → NothingBelow least member width ws 0 []
nothing_none least member width ws = record {
  count = refl;
  widths = λ k s h. absurd (cc);
  nothing = λ k s h. absurd (cc);
}

covers_zero : {D : Type 0} (least : Bool) (member : D → Vectors) (width : D → ℕ) (w : ℕ) (x : D) → Same member width
    → ((s : D) → member s (λ _. pos 0)) → width x ≡ w → (least ≡ true → Follows w (Zero w) (member x))
    → Covers least w (Zero w) (member x)
covers_zero least member width w x same zeros e h =
    (λ v z. same x (λ _. pos 0) v (λ i lt. z i (subst (λ n. i < n) e lt)) (zeros x), h)

pub nothing_more : {D : Type 0} (least : Bool) (member : D → Vectors) (width : D → ℕ) (ws : List ℕ) (i w : ℕ)
    (ss : List D) (x : D) → Same member width → ((s : D) → member s (λ _. pos 0)) → w ≡ slice_index_or ws i 0
    → width x ≡ w → (least ≡ true → Follows w (Zero w) (member x)) → NothingBelow least member width ws i ss
    → NothingBelow least member width ws (i + 1) (ss ++ x ∷ [])
nothing_more least member width ws i w ss x same zeros is e h below = record {
  count = length_push ss x ∙ ap (λ n. n + 1) below.count;
  widths = λ k s g. elim (get_push ss x k s g) [
    | inl p ↦ below.widths k s p
    | inr p ↦ let q : k ≡ i = p.0 ∙ below.count in rw (q, p.1) (e ∙ is)
  ];
  nothing = λ k s g. elim (get_push ss x k s g) [
    | inl p ↦ below.nothing k s p
    | inr p ↦
        let q : k ≡ i = p.0 ∙ below.count in
        rw (q, p.1) (subst (λ n. Covers least n (Zero n) (member x)) is
        (covers_zero least member width w x same zeros e h))
  ];
}

pub nothing_all : {D : Type 0} (least : Bool) (member : D → Vectors) (width : D → ℕ) (ws : List ℕ) (i : ℕ) (ss : List D)
    → i ≡ length ws → NothingBelow least member width ws i ss → AreNothing least member width ws ss
nothing_all least member width ws i ss e below = record {
  count = below.count ∙ e;
  widths = below.widths;
  nothing = below.nothing;
}

pub enter_none : {D : Type 0} (least : Bool) (member : D → Vectors) (width : D → ℕ) (ws : List ℕ) (ss : List D)
    → AreNothing least member width ws ss → AreEntered least member width ws [] ss
enter_none {D} least member width ws ss h = record {
  count = h.count;
  widths = h.widths;
  entries = All-nil (λ k. (s : D) → slice_get ss k ≡ Some s → (v : Vector) → member s v);
  others = λ k s no g. h.nothing k s g;
}

-- what stands at a number after x was put at k
pub put_at : {D : Type 0} (ss : List D) (k j : ℕ) (x s : D) → k < length ss → slice_get (slice_set ss k x) j ≡ Some s
    → ((j ≡ k) × (s ≡ x)) ⊎ ((j ≡ k → ⊥) × (slice_get ss j ≡ Some s))
put_at ss k j x s lt h = elim (same_or j k) [
  | inl e ↦ inl (e, some_same s x (sym h ∙ ap (slice_get (slice_set ss k x)) e ∙ set_same ss k x lt))
  | inr n ↦ inr (n, sym (set_other ss k j x n) ∙ h)
]

enter_on : {D : Type 0} (least : Bool) (member : D → Vectors) (width : D → ℕ) (ws es : List ℕ) (k : ℕ) (ss : List D)
    (x : D) → k < length ws → width x ≡ slice_index_or ws k 0 → ((v : Vector) → member x v)
    → AreEntered least member width ws es ss → AreEntered least member width ws (es ++ k ∷ []) (slice_set ss k x)
enter_on {D} least member width ws es k ss x lt wide every h =
    let n : k < length ss = rw h.count lt in
    record {
      count = length-set ss k x ∙ h.count;
      widths = λ j s g. elim (put_at ss k j x s n g) [
        | inl p ↦ rw (p.0, p.1) wide
        | inr p ↦ h.widths j s p.1
      ];
      entries = All-push (λ j. (s : D) → slice_get (slice_set ss k x) j ≡ Some s → (v : Vector) → member s v) es k
          (All-weaker (λ j. (s : D) → slice_get ss j ≡ Some s → (v : Vector) → member s v)
          (λ j. (s : D) → slice_get (slice_set ss k x) j ≡ Some s → (v : Vector) → member s v)
          (λ j old s g. elim (put_at ss k j x s n g) [
            | inl p ↦ λ v. subst (λ d. member d v) (sym p.1) (every v)
            | inr p ↦ old s p.1
          ]) es h.entries)
          (λ s g. elim (put_at ss k k x s n g) [
            | inl p ↦ λ v. subst (λ d. member d v) (sym p.1) (every v)
            | inr p ↦ absurd (p.0 refl)
          ]);
      others = λ j s none g.
          let parts = All-pop (λ e. e ≡ j → ⊥) (es ++ k ∷ []) es (Some k) refl none in
          elim (put_at ss k j x s n g) [
            | inl p ↦ absurd (parts.1 (sym p.0))
            | inr p ↦ h.others j s parts.0 p.1
          ];
    }

pub enter_more : {D : Type 0} (least : Bool) (member : D → Vectors) (width : D → ℕ) (ws es : List ℕ) (i k : ℕ)
    (ss : List D) (x : D) → i < length es → k ≡ slice_index_or es i 0 → k < length ws
    → width x ≡ slice_index_or ws k 0 → ((v : Vector) → member x v) → AreEntered least member width ws (take i es) ss
    → AreEntered least member width ws (take (i + 1) es) (slice_set ss k x)
enter_more least member width ws es i k ss x lt is within wide every h =
    subst (λ l. AreEntered least member width ws l (slice_set ss k x))
    (ap (λ y. take i es ++ y ∷ []) is ∙ sym (take_more es i 0 lt))
    (enter_on least member width ws (take i es) k ss x within wide every h)

pub grown_at : {D : Type 0} (least : Bool) (member : D → Vectors) (width : D → ℕ) (old : List D) (k : ℕ)
    (t value new : D) (r : Result Bool DomainFault) → slice_get old k ≡ Some t → width new ≡ width t
    → ((v : Vector) → member t v → member new v) → OnOk r ((v : Vector) → member value v → member new v)
    → (least ≡ true → OnOk r (Follows (width t) (Either (member t) (member value)) (member new)))
    → OnOk r (IsGrownAt least member width old k value (slice_set old k new))
grown_at least member width old k t value new (Ok b) is wide kept taken follows = record {
  target = t;
  target_is = is;
  grown = new;
  grown_is = refl;
  same_width = wide;
  covers = covers_union least (width t) (width t) (member t) (member value) (member new) refl kept taken follows;
}
grown_at least member width old k t value new (Err f) is wide kept taken follows = tt

pub enter_all : {D : Type 0} (least : Bool) (member : D → Vectors) (width : D → ℕ) (ws es : List ℕ) (i : ℕ)
    (ss : List D) → length es ≤ i → AreEntered least member width ws (take i es) ss
    → AreEntered least member width ws es ss
enter_all least member width ws es i ss le h = subst (λ l. AreEntered least member width ws l ss) (take_all i es le) h

pub room_falls : (w n r q : ℕ) → n ≡ w → r < q → q ≤ n + 1 → n + 1 - q < w + 1 - r
room_falls w n r q e lt le = omega arith

abbrev stage_of : {D : Type 0} → List D → List D → Stage D
stage_of at exits = record { at = at; exits = exits }

pub grown_place : {D : Type 0} (least : Bool) (member : D → Vectors) (width : D → ℕ) (at new exits : List D) (k : ℕ)
    (value : D) (r : Result Bool DomainFault) → OnOk r (IsGrownAt least member width at k value new)
    → OnOk r (IsGrown least member width (record { at = at; exits = exits }) (Place k) value
    (record { at = new; exits = exits }))
grown_place {D} least member width at new exits k value (Ok b) h = record {
  target = h.target;
  target_is = h.target_is;
  grown = h.grown;
  grown_is = ap (λ (l : List D). stage_of l exits) h.grown_is;
  same_width = h.same_width;
  covers = h.covers;
}
grown_place least member width at new exits k value (Err f) h = tt

pub grown_exit : {D : Type 0} (least : Bool) (member : D → Vectors) (width : D → ℕ) (at exits new : List D) (k : ℕ)
    (value : D) (r : Result Bool DomainFault) → OnOk r (IsGrownAt least member width exits k value new)
    → OnOk r (IsGrown least member width (record { at = at; exits = exits }) (Exit k) value
    (record { at = at; exits = new }))
grown_exit {D} least member width at exits new k value (Ok b) h = record {
  target = h.target;
  target_is = h.target_is;
  grown = h.grown;
  grown_is = ap (λ (l : List D). stage_of at l) h.grown_is;
  same_width = h.same_width;
  covers = h.covers;
}
grown_exit least member width at exits new k value (Err f) h = tt
