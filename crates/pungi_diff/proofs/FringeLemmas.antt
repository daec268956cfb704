-- The fringe of a search: the nodes that are to be done.
use Rattle.std.proofs.Common.{◌≡◌, ◌∙◌, ℕ, zero, ◌+◌, ◌<◌, ◌≤◌, ◌⊎◌, inl, inr, ℤ, pos, ◌≤ℤ◌, ◌<ℤ◌, List, [], ◌∷◌, ◌++◌}
use Rattle.std.proofs.Common.{length, slice_index, slice_set, refl, sym, arith, get_or-set_other, get_or-set_same}
use Rattle.std.proofs.Common.{length-set, length-append, Bool, true, false, negsuc}
use Rattle.std.specs.Int.Signed.{lt_z}
use Rattle.std.specs.List.{Contains}
use Rattle.std.proofs.lemmas.Int.{ints}
use Rattle.std.proofs.lemmas.Bool.{cases_eq}
use Rattle.std.proofs.lemmas.List.{get_or_default}
use Rattle.std.proofs.lemmas.List.Elements.{All-push, Contains-append_left, Contains-push}
use Rattle.std.proofs.lemmas.List.Sums.{sum_by-cons, sum_by-set}
use Rattle.pungi_diff.specs.declared.constraint.Constraint.{Constraint}
use Rattle.pungi_diff.specs.Constraint.{at}
use Rattle.pungi_diff.specs.Search.{Fringe, IsOpen, IsLeastIn, IsLeastOpen, NoneIn, NoneOpen, Lowers, idle_one}
use Rattle.pungi_diff.specs.Search.{idle_count}

idle_below : (z : ℤ) → z <ℤ pos 0 → idle_one z ≡ 0
idle_below z h = grind (arith, ints)

idle_above : (z : ℤ) → pos 0 ≤ℤ z → idle_one z ≡ 1
idle_above z h = grind (arith, ints)

idle_most : (z : ℤ) → idle_one z ≤ 1
idle_most z = go (lt_z z (pos 0)) refl
  where
    go : (b : Bool) → lt_z z (pos 0) ≡ b → idle_one z ≤ 1
    go true e = rw e (omega arith)
    go false e = rw e (omega arith)

idle_length : (gap : List ℤ) → idle_count gap ≤ length gap
idle_length [] = omega arith
idle_length (z ∷ gap) =
    let e = sum_by-cons idle_one z gap in let h = idle_length gap in let m = idle_most z in omega (arith, e, h, m)

some_idle : (gap : List ℤ) (u : ℕ) → u < length gap → pos 0 ≤ℤ at gap u → 0 < idle_count gap
some_idle gap u lt h =
    let e = sum_by-set idle_one gap u (negsuc 0) (pos 0) lt in
    let a = idle_above (at gap u) h in
    omega (arith, e, a)

-- only x is below 0
pub fringe_begun : (value gap : List ℤ) (rank : List ℕ) (x : ℕ) → length gap ≡ length value → x < length value
    → ((u : ℕ) → u < length value → (u ≡ x → ⊥) → at gap u ≡ pos 0) → at gap x <ℤ pos 0 → Fringe gap rank (x ∷ [])
fringe_begun value gap rank x gaps x_in others below = record {
  within = All-push (λ u. u < length gap) [] x (λ k d lt. absurd (omega arith)) (omega (arith, gaps, x_in));
  covers = λ u lt op h. elim (cases_eq u x) [
    | inl e ↦ (zero, (omega arith), sym e)
    | inr ne ↦ (let z = others u (omega (arith, gaps, lt)) ne in absurd (omega (arith, ints, z, h)))
  ];
  few = (
      let e = sum_by-set idle_one gap x (pos 0) (pos 0) (omega (arith, gaps, x_in)) in
      let a = idle_below (at gap x) below in
      let m = idle_length (slice_set gap x (pos 0)) in
      let l = length-set gap x (pos 0) in
      omega (arith, e, a, m, l)
      );
}

module _ (gap : List ℤ) (rank fringe : List ℕ) (f : Fringe gap rank fringe) where
  within_fringe : (p : ℕ) → p < length fringe → slice_index fringe p < length gap
  within_fringe p lt = f.within p 0 lt

  pub none_open : NoneIn gap rank fringe → NoneOpen gap rank
  none_open none u lt op = go (lt_z (at gap u) (pos 0)) refl
    where
      go : (b : Bool) → lt_z (at gap u) (pos 0) ≡ b → pos 0 ≤ℤ at gap u
      go true e =
          let below : at gap u <ℤ pos 0 = grind (arith, ints) in
          let h = f.covers u lt op below in
          let is : slice_index fringe h.0 ≡ u = get_or_default fringe h.0 0 u h.1 ∙ h.2 in
          let k = none h.0 h.1 (rw is op) in
          rw is at k
      go false e = grind (arith, ints)

  pub least_open : (place : ℕ) → IsLeastIn gap rank fringe place → IsLeastOpen gap rank (slice_index fringe place)
  least_open place l = record {
    within = within_fringe place l.within;
    is_open = l.is_open;
    below = l.below;
    least = least;
  }
    where
      least : (u : ℕ) → u < length gap → IsOpen rank u → at gap (slice_index fringe place) ≤ℤ at gap u
      least u lt op = go (lt_z (at gap u) (pos 0)) refl
        where
          go : (b : Bool) → lt_z (at gap u) (pos 0) ≡ b → at gap (slice_index fringe place) ≤ℤ at gap u
          go true e =
              let below : at gap u <ℤ pos 0 = grind (arith, ints) in
              let h = f.covers u lt op below in
              let is : slice_index fringe h.0 ≡ u = get_or_default fringe h.0 0 u h.1 ∙ h.2 in
              let k = l.least h.0 h.1 (rw is op) in
              rw is at k
          go false e = let k = l.below in let m : pos 0 ≤ℤ at gap u = grind (arith, ints) in omega (arith, ints, k, m)

  -- a gap falls below 0
  pub fringe_grows : (x : ℕ) (next : ℤ) → x < length gap → pos 0 ≤ℤ at gap x → next <ℤ pos 0
      → Fringe (slice_set gap x next) rank (fringe ++ x ∷ [])
  fringe_grows x next lt idle below = record {
    within = rw (length-set gap x next) (All-push (λ u. u < length gap) fringe x f.within lt);
    covers = λ u u_lt op h. elim (cases_eq u x) [
      | inl e ↦ rw e (Contains-push fringe x)
      | inr ne ↦ Contains-append_left fringe (x ∷ []) u (f.covers u (rw (length-set gap x next) at u_lt) op
          (rw (get_or-set_other gap x u next (pos 0) ne) at h))
    ];
    few = rw (length-set gap x next, length-append fringe (x ∷ []))
        (let e = sum_by-set idle_one gap x next (pos 0) lt in let a = idle_above (at gap x) idle in let b
        = idle_below next below in let k = f.few in omega (arith, e, a, b, k));
  }

  -- a gap falls, and isn't below 0 for the first time
  fringe_keeps : (x : ℕ) (next : ℤ) → x < length gap → next <ℤ at gap x → (at gap x <ℤ pos 0) ⊎ (pos 0 ≤ℤ next)
      → Fringe (slice_set gap x next) rank fringe
  fringe_keeps x next lt less or = record {
    within = rw (length-set gap x next) f.within;
    covers = λ u u_lt op h. elim (cases_eq u x) [
      | inl e ↦ here or u e op h
      | inr ne ↦ f.covers u (rw (length-set gap x next) at u_lt) op (rw (get_or-set_other gap x u next (pos 0) ne) at h)
    ];
    few = rw (length-set gap x next) (fewer or);
  }
    where
      here : (at gap x <ℤ pos 0) ⊎ (pos 0 ≤ℤ next) → (u : ℕ) → u ≡ x → IsOpen rank u
          → at (slice_set gap x next) u <ℤ pos 0 → Contains fringe u
      here (inl below) u e op h = f.covers u (rw e lt) op (rw e below)
      here (inr above) u e op h = let k : next <ℤ pos 0 = rw (e, get_or-set_same gap x next (pos 0) lt) at h in
          absurd (omega (arith, ints, above, k))

      fewer : (at gap x <ℤ pos 0) ⊎ (pos 0 ≤ℤ next) → length fringe + idle_count (slice_set gap x next) ≤ length gap
      fewer (inl below) =
          let e = sum_by-set idle_one gap x next (pos 0) lt in let a = idle_below (at gap x) below in let b
          = idle_below next (omega (arith, ints, less, below)) in let k = f.few in omega (arith, e, a, b, k)
      fewer (inr above) =
          let e = sum_by-set idle_one gap x next (pos 0) lt in let a = idle_above (at gap x)
          (omega (arith, ints, less, above)) in let b = idle_most next in let k = f.few in omega
          (arith, e, a, b, k)

  -- there is room for a node that comes in
  pub fringe_room : (x room : ℕ) → x < length gap → pos 0 ≤ℤ at gap x → length gap ≤ room → length fringe < room
  fringe_room x room lt idle le = let a = some_idle gap x lt idle in let k = f.few in omega (arith, a, k, le)

  pub fringe_lowers : (via via' : List Constraint) (gap' : List ℤ) (k : Constraint) (next : ℤ) → k.x < length gap
      → Lowers gap via k next gap' via'
      → (at gap k.x <ℤ pos 0) ⊎ (pos 0 ≤ℤ at gap' k.x) → Fringe gap' rank fringe
  fringe_lowers via via' gap' k next lt (inl l) or =
      let here : at gap' k.x ≡ next = rw (l.1) (get_or-set_same gap k.x next (pos 0) lt) in
      rw (l.1) (fringe_keeps k.x next lt l.0 (rw here at or))
  fringe_lowers via via' gap' k next lt (inr l) or = rw (l.1) f

  pub fringe_pushed : (via via' : List Constraint) (gap' : List ℤ) (k : Constraint) (next : ℤ) → k.x < length gap
      → Lowers gap via k next gap' via'
      → pos 0 ≤ℤ at gap k.x → at gap' k.x <ℤ pos 0 → Fringe gap' rank (fringe ++ k.x ∷ [])
  fringe_pushed via via' gap' k next lt (inl l) idle below =
      let here : at gap' k.x ≡ next = rw (l.1) (get_or-set_same gap k.x next (pos 0) lt) in
      rw (l.1) (fringe_grows k.x next lt idle (rw here at below))
  fringe_pushed via via' gap' k next lt (inr l) idle below = let e : at gap k.x <ℤ pos 0 = rw (l.1) at below in
      absurd (omega (arith, ints, e, idle))

  -- the node at a place is done and leaves the fringe
  pub fringe_settled : (place turn : ℕ) (fringe' : List ℕ) → place < length fringe
      → IsOpen rank (slice_index fringe place) → turn < length rank → slice_index fringe place < length rank
      → length fringe' + 1 ≡ length fringe
      → (place + 1 < length fringe → slice_index fringe' place ≡ slice_index fringe (length fringe'))
      → ((p : ℕ) → (p ≡ place → ⊥) → p + 1 < length fringe → slice_index fringe' p ≡ slice_index fringe p)
      → Fringe gap (slice_set rank (slice_index fringe place) turn) fringe'
  fringe_settled place turn fringe' lt op turn_lt from_lt len moved same = record {
    within = λ p d p_lt. rw (get_or_default fringe' p d 0 p_lt) (elim (cases_eq p place) [
      | inl e ↦ rw (e, moved (omega (arith, e, p_lt, len))) (within_fringe (length fringe') (omega (arith, len)))
      | inr ne ↦ rw (same p ne (omega (arith, p_lt, len))) (within_fringe p (omega (arith, p_lt, len)))
    ]);
    covers = λ u u_lt op' h. elim (cases_eq u (slice_index fringe place)) [
      | inl e ↦ absurd (
          let r : slice_index (slice_set rank (slice_index fringe place) turn) u
          ≡ turn = rw e (get_or-set_same rank (slice_index fringe place) turn 0 from_lt) in
          let l = length-set rank (slice_index fringe place) turn in
          omega (arith, op', r, l, turn_lt)
          )
      | inr ne ↦ stays u ne (f.covers u u_lt (
          let r = get_or-set_other rank (slice_index fringe place) u turn 0 ne in
          let l = length-set rank (slice_index fringe place) turn in
          omega (arith, op', r, l)
          ) h)
    ];
    few = (let k = f.few in omega (arith, k, len));
  }
    where
      stays : (u : ℕ) → (u ≡ slice_index fringe place → ⊥) → Contains fringe u → Contains fringe' u
      stays u ne c =
          let is : slice_index fringe c.0 ≡ u = get_or_default fringe c.0 0 u c.1 ∙ c.2 in
          let not_place : c.0 ≡ place → ⊥ = λ e. ne (sym (rw e at is)) in
          elim (cases_eq c.0 (length fringe')) [
            | inl last ↦
                let p_lt : place < length fringe' = (let a = c.1 in omega (arith, a, last, len, lt, not_place)) in
                (place, p_lt, get_or_default fringe' place u 0 p_lt ∙ moved (omega (arith, p_lt, len)) ∙ rw (← last) is)
            | inr other ↦
                let n : c.0 ≡ length fringe' → ⊥ = other in
                let c_lt : c.0 < length fringe' = (let a = c.1 in omega (arith, a, n, len)) in
                (c.0, c_lt, get_or_default fringe' c.0 u 0 c_lt ∙ same c.0 not_place (omega (arith, c_lt, len)) ∙ is)
          ]
