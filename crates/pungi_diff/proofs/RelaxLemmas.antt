-- One turn of `relax`, which goes back through the constraints on a node.
use Rattle.std.proofs.Common.{◌≡◌, ◌∙◌, ℕ, ◌+◌, ◌<◌, ◌≤◌, ◌⊎◌, inl, inr, ℤ, pos, ◌+ℤ◌, ◌-ℤ◌, ◌≤ℤ◌, ◌<ℤ◌, List, length}
use Rattle.std.proofs.Common.{slice_index, slice_index_or, slice_set, refl, sym, arith, get_or-set_other}
use Rattle.std.proofs.Common.{get_or-set_same, length-set, Option, None, Some, neg_ℤ, ◌^◌}
use Rattle.std.proofs.lemmas.Int.{ints}
use Rattle.std.proofs.lemmas.List.{get_or_default}
use Rattle.std.proofs.lemmas.List.Elements.{Contains-get_or}
use Rattle.std.proofs.lemmas.Bool.{cases_eq, cases_lt}
use Rattle.pungi_diff.specs.declared.constraint.Constraint.{Constraint}
use Rattle.pungi_diff.specs.declared.constraint.TheConstants.{NO_CONSTRAINT}
use Rattle.pungi_diff.specs.Constraint.{at, Solves, Small}
use Rattle.pungi_diff.specs.Held.{nth, IsLatest}
use Rattle.pungi_diff.specs.Search.{Stays, Drops, IsOpen, IsDone, lowered, Relaxes, Lowers, Reaches, want}

-- the number after the one that the link names
abbrev pub behind : Option ℕ → ℕ
behind None = 0
behind (Some k) = k + 1

-- the link names a constraint on `from`
abbrev pub IsLink : List Constraint → ℕ → Option ℕ → Type 0
IsLink held from None = Unit {0}
IsLink held from (Some k) = (k < length held) × ((nth held k).y ≡ from)

-- the constraints on `from` from the i-th on are met by open nodes
pub record Relaxing (held : List Constraint) (value : List ℤ) (rank : List ℕ) (gap : List ℤ) (via : List Constraint)
    (gap' : List ℤ) (via' : List Constraint) (from i : ℕ) : Type 0 where
  pub each : (u : ℕ) → u < length value → Stays gap gap' via via' u ⊎ Drops held value rank gap gap' via' from u
  pub met : (k : ℕ) → i ≤ k → k < length held → (nth held k).y ≡ from → IsOpen rank (nth held k).x
      → lowered value gap' (nth held k).x ≤ℤ (lowered value gap from +ℤ (nth held k).c)
  pub small : Small value gap' held
  pub gaps : length gap' ≡ length value
  pub vias : length via' ≡ length value

-- a node whose gap and constraint are as before
other_stays : (held : List Constraint) (value : List ℤ) (rank : List ℕ) (gap : List ℤ) (via : List Constraint)
    (gap' : List ℤ) (via' : List Constraint) (gap'' : List ℤ) (via'' : List Constraint) (from u : ℕ)
    → at gap'' u ≡ at gap' u → ((d : Constraint) → slice_index_or via'' u d ≡ slice_index_or via' u d)
    → Stays gap gap' via via' u ⊎ Drops held value rank gap gap' via' from u
    → Stays gap gap'' via via'' u ⊎ Drops held value rank gap gap'' via'' from u
other_stays held value rank gap via gap' via' gap'' via'' from u e f (inl s) = inl (e ∙ s.0, λ d. f d ∙ s.1 d)
other_stays held value rank gap via gap' via' gap'' via'' from u e f (inr h) = inr (record {
  is_open = h.is_open;
  less = rw e h.less;
  by = h.by;
  held_by = h.held_by;
  here = λ d. f d ∙ h.here d;
  to = h.to;
  comes = h.comes;
  exact = rw e h.exact;
})

-- a gap isn't above what it was
not_above : (held : List Constraint) (value : List ℤ) (rank : List ℕ) (gap : List ℤ) (via : List Constraint)
    (gap' : List ℤ) (via' : List Constraint) (from u : ℕ)
    → Stays gap gap' via via' u ⊎ Drops held value rank gap gap' via' from u → at gap' u ≤ℤ at gap u
not_above held value rank gap via gap' via' from u (inl s) = let e : at gap' u ≡ at gap u = s.0 in omega (arith, ints)
not_above held value rank gap via gap' via' from u (inr h) =
    let e : at gap' u <ℤ at gap u = h.less in omega (arith, ints)

below_wanted : (v g c w next : ℤ) → next ≡ ((v +ℤ g) +ℤ c) -ℤ w → w ≤ℤ (v +ℤ c) → g ≤ℤ next
below_wanted v g c w next e h = omega (arith, ints)

exactly : (v g c w next : ℤ) → next ≡ ((v +ℤ g) +ℤ c) -ℤ w → w +ℤ next ≡ (v +ℤ g) +ℤ c
exactly v g c w next e = omega (arith, ints)

module _ (held : List Constraint) (value : List ℤ) (rank : List ℕ) (gap : List ℤ) (via : List Constraint)
    (gap' : List ℤ) (via' : List Constraint) (from : ℕ) where
  -- no constraint between is on `from`
  relax_skips : (i : ℕ) (link : Option ℕ) → Relaxing held value rank gap via gap' via' from i
      → IsLatest held from i link → Relaxing held value rank gap via gap' via' from (behind link)
  relax_skips i link r l = record {
    each = r.each;
    met = λ k le lt y op. elim (cases_lt k i) [
      | inl below ↦ absurd (skipped link l k le below y)
      | inr above ↦ r.met
          k above lt y op
    ];
    small = r.small;
    gaps = r.gaps;
    vias = r.vias;
  }
    where
      skipped : (link : Option ℕ) → IsLatest held from i link → (k : ℕ) → behind link ≤ k → k < i
          → (nth held k).y ≡ from → ⊥
      skipped None l k le lt y = l k lt y
      skipped (Some j) l k le lt y = l.2 k (omega (arith, le)) lt y

  linked : (i : ℕ) (link : Option ℕ) → i ≤ length held → IsLatest held from i link → IsLink held from link
  linked i None le l = tt
  linked i (Some k) le l = ((let h = l.0 in omega (arith, h, le)), l.1)

  pub relax_goes : (i : ℕ) (link : Option ℕ) → i < length held → (nth held i).y ≡ from
      → Relaxing held value rank gap via gap' via' from i → IsLatest held (nth held i).y i link
      → Relaxing held value rank gap via gap' via' from (behind link) × IsLink held from link
  relax_goes i link lt y r l = let l' : IsLatest held from i link = rw y at l in
      (relax_skips i link r l', linked i link (omega (arith, lt)) l')

  relax_keeps : (i : ℕ) → Relaxing held value rank gap via gap' via' from (i + 1)
      → ((nth held i).y ≡ from → IsOpen rank (nth held i).x
      → lowered value gap' (nth held i).x ≤ℤ (lowered value gap from +ℤ (nth held i).c))
      → Relaxing held value rank gap via gap' via' from i
  relax_keeps i r here = record {
    each = r.each;
    met = λ k le lt y op. elim (cases_eq k i) [
      | inl same ↦ rw same (here (rw same at y) (rw same at op))
      | inr ne ↦ r.met k (let n : k ≡ i → ⊥ = ne in omega (arith, n, le)) lt y op
    ];
    small = r.small;
    gaps = r.gaps;
    vias = r.vias;
  }

  -- a node that is done keeps its gap
  from_stays : (i : ℕ) → Relaxing held value rank gap via gap' via' from i → from < length value → IsDone rank from
      → at gap' from ≡ at gap from
  from_stays i r lt done = elim (r.each from lt) [
    | inl s ↦ s.0
    | inr d ↦ let o : length rank
        ≤ slice_index rank from = d.is_open in absurd (omega arith)
  ]

  pub from_small : (i : ℕ) → Relaxing held value rank gap via gap' via' from i → from < length value
      → (at gap' from ≤ℤ pos 0) × (neg_ℤ (pos (2 ^ 84)) ≤ℤ at gap' from)
  from_small i r lt = r.small.gaps from lt

  relax_lowers : (i : ℕ) (k : Constraint) (next : ℤ) → Relaxing held value rank gap via gap' via' from (i + 1)
      → i < length held → k ≡ nth held i
      → k.y ≡ from → IsOpen rank k.x → k.x < length value → from < length value → IsDone rank from
      → Solves (at value) held → Small value gap held
      → next ≡ ((at value from +ℤ at gap from) +ℤ k.c) -ℤ at value k.x → next <ℤ at gap' k.x
      → Relaxing held value rank gap via (slice_set gap' k.x next) (slice_set via' k.x k) from i
  relax_lowers i k next r lt is y op x_in from_in done solved small e less = record {
    each = λ u in_u. elim (cases_eq u k.x) [
      | inl same ↦ inr (record {
        is_open = rw same op;
        less = rw (same, here) (let h : at gap' k.x ≤ℤ at gap k.x = not_above held value rank gap via gap' via' from
            k.x (r.each k.x x_in) in omega (arith, ints));
        by = k;
        held_by = rw is (Contains-get_or held i NO_CONSTRAINT lt);
        here = λ d. rw same (get_or-set_same via' k.x k d (omega (arith, r.vias)));
        to = sym same;
        comes = y;
        exact = rw (same, here) (exactly (at value from) (at gap from) k.c (at value k.x) next e);
      })
      | inr ne ↦ other_stays held value rank gap via gap' via' (slice_set gap' k.x next) (slice_set via' k.x k) from
          u (get_or-set_other gap' k.x u next (pos 0) ne) (λ d. get_or-set_other via' k.x u k d ne) (r.each u in_u)
    ];
    met = λ j le j_in y' op'. elim (cases_eq j i) [
      | inl same ↦ rw (same, ← is, here) (let h = exactly (at value from) (at gap from) k.c (at value k.x) next e in
          omega (arith, ints, h))
      | inr ne ↦
          let h = r.met j (let n : j ≡ i → ⊥ = ne in omega (arith, n, le)) j_in y' op' in
          let l = down (nth held j).x in
          omega (arith, ints, h, l)
    ];
    small = record {
      values = r.small.values;
      gaps = λ u in_u. elim (cases_eq u k.x) [
        | inl same ↦ rw (same, here) (
          (let h = (r.small.gaps k.x x_in).0 in omega (arith, ints, h)),
          (let h = below_wanted (at value from) (at gap from) k.c (at value k.x) next e solved_here in let g
              = (small.gaps from from_in).1 in omega (arith, ints, h, g)),
        )
        | inr ne ↦ rw (get_or-set_other gap' k.x u next (pos 0) ne) (r.small.gaps u in_u)
      ];
      steps = r.small.steps;
    };
    gaps = simp length-set r.gaps;
    vias = simp length-set r.vias;
  }
    where
      here : at (slice_set gap' k.x next) k.x ≡ next
      here = get_or-set_same gap' k.x next (pos 0) (omega (arith, r.gaps))

      solved_here : at value k.x ≤ℤ (at value from +ℤ k.c)
      solved_here = rw (← y, is) (solved i NO_CONSTRAINT lt)

      down : (w : ℕ) → at (slice_set gap' k.x next) w ≤ℤ at gap' w
      down w = elim (cases_eq w k.x) [
        | inl same ↦ rw (same, here) (omega (arith, ints))
        | inr ne ↦ rw (get_or-set_other gap' k.x w next (pos 0) ne) (omega (arith, ints))
      ]

  -- the constraint is on `from`, and its node is open
  relax_turn : (i : ℕ) (k : Constraint) (gap'' : List ℤ) (via'' : List Constraint)
      → Relaxing held value rank gap via gap' via' from (i + 1) → i < length held → k ≡ nth held i
      → k.y ≡ from → IsOpen rank k.x → k.x < length value → from < length value → IsDone rank from
      → Solves (at value) held → Small value gap held
      → Lowers gap' via' k (want value gap' from k) gap'' via''
      → Relaxing held value rank gap via gap'' via'' from i
  relax_turn i k gap'' via'' r lt is y op x_in from_in done solved small (inl l) =
      rw (l.1, l.2) (relax_lowers i k (want value gap' from k) r lt is y op x_in from_in done solved small
      (rw (from_stays (i + 1) r from_in done) refl) l.0)
  relax_turn i k gap'' via'' r lt is y op x_in from_in done solved small (inr l) =
      let g : at gap' from ≡ at gap from = from_stays (i + 1) r from_in done in
      let m : at gap' k.x ≤ℤ want value gap' from k = l.0 in
      rw (l.1, l.2) (relax_keeps i r (λ y' op'. rw (← is) (omega (arith, ints, g, m))))

  -- the constraint is on `from`
  pub relax_reaches : (i : ℕ) (k : Constraint) (gap'' : List ℤ) (via'' : List Constraint)
      → Relaxing held value rank gap via gap' via' from (i + 1) → i < length held → k ≡ nth held i
      → k.y ≡ from → k.x < length value → from < length value → IsDone rank from → Solves (at value) held
      → Small value gap held
      → Reaches gap' rank via' k (want value gap' from k) gap'' via''
      → Relaxing held value rank gap via gap'' via'' from i
  relax_reaches i k gap'' via'' r lt is y x_in from_in done solved small (inl l) =
      rw (l.1, l.2) (relax_keeps i r (λ y' op'. let o : IsOpen rank k.x = rw is op' in let d = l.0 in absurd
      (omega (arith, o, d))))
  relax_reaches i k gap'' via'' r lt is y x_in from_in done solved small (inr l) = relax_turn i k gap'' via'' r lt
      is y l.0 x_in from_in done solved small l.1

  pub relax_whole : Relaxing held value rank gap via gap' via' from 0 → Relaxes held value rank gap via gap' via' from
  relax_whole r = record {
    each = r.each;
    met = λ k d lt. rw (get_or_default held k d NO_CONSTRAINT lt) (r.met k (omega arith) lt);
  }

pub relax_starts : (held : List Constraint) (value : List ℤ) (rank : List ℕ) (gap : List ℤ) (via : List Constraint)
    (from : ℕ) (link : Option ℕ)
    → Small value gap held → length gap ≡ length value → length via ≡ length value
    → IsLatest held from (length held) link
    → Relaxing held value rank gap via gap via from (behind link) × IsLink held from link
relax_starts held value rank gap via from link small gaps vias l = (
  relax_skips held value rank gap via gap via from (length held) link (record {
    each = λ u lt. inl (refl, λ d. refl);
    met = λ k le lt y op. absurd (omega (arith, le, lt));
    small = small;
    gaps = gaps;
    vias = vias;
  }) l,
  linked held value rank gap via gap via from (length held) link (omega arith) l,
)
