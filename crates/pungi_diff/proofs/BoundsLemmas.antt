-- What `Bounds` keeps over an addition.
use Rattle.std.proofs.Common.{◌≡◌, ◌∙◌, ℕ, zero, suc, ◌+◌, ◌-◌, take, ◌<◌, ◌≤◌, ◌^◌, inl, inr, ℤ, pos, neg_ℤ, ◌+ℤ◌}
use Rattle.std.proofs.Common.{◌-ℤ◌, ◌≤ℤ◌, ◌<ℤ◌, List, [], ◌∷◌, ◌++◌, length, refl, sym, ap, arith, slice_index_or}
use Rattle.std.proofs.Common.{slice_index, slice_set}
use Rattle.pungi_diff.specs.Round.{GoesRound}
use Rattle.pungi_diff.proofs.RoundLemmas.{no_round}
use Rattle.std.specs.Prelude.{sum_by, replicate}
use Rattle.std.proofs.lemmas.Int.{ints}
use Rattle.std.proofs.lemmas.Bool.{cases_eq, cases_lt}
use Rattle.std.proofs.lemmas.Bool.Decides.{nat_tests}
use Rattle.std.proofs.lemmas.List.Elements.{All-push, All-contains, Contains-push}
use Rattle.std.proofs.lemmas.List.Sums.{sum_by-cons}
use Rattle.std.proofs.lemmas.List.{take_all, get_or_append_left, get_or-set_same, get_or-set_other, length-append}
use Rattle.std.proofs.lemmas.List.{length-replicate}
use Rattle.std.proofs.Math.Seq.{get_or-append_seam}
use Rattle.pungi_diff.specs.declared.constraint.Constraint.{Constraint}
use Rattle.std.specs.Vec.{with_items}
use Rattle.std.specs.Prelude.{Vec}
use Rattle.std.specs.declared.alloc.Global.{Global}
use Rattle.pungi_diff.specs.Constraint.{at, Meets, Solves, InRange, IsSmall, IsStep}
use Rattle.pungi_diff.specs.Search.{Searching, Lowered, IsOpen, IsDone, lowered, open_one}
use Rattle.pungi_diff.specs.Bounds.{Kept, Moves, Solution}
use Rattle.pungi_diff.proofs.DepthLemmas.{not_deep}

pub kept_small : (held : List Constraint) (value : List ℤ) → Kept held value → (u : ℕ) → u < length value
    → IsSmall (at value u)
kept_small held value k u lt =
    let h = not_deep (2 ^ 65) held value k.range k.solves k.steps k.top k.greatest u lt in
    let f = k.few in
    (k.top u lt, omega (arith, ints, h, f))

-- all are open
all_open : (n : ℕ) (rank : List ℕ) → ((u : ℕ) → u < length rank → n ≤ slice_index rank u)
    → sum_by (open_one n) rank ≡ length rank
all_open n [] h = refl
all_open n (r ∷ rs) h =
    let e : open_one n r ≡ 1 = (let k = h 0 (omega arith) in grind (arith, nat_tests)) in
    let g = all_open n rs (λ u lt. h (suc u) (omega (arith, lt))) in
    let f = sum_by-cons (open_one n) r rs in
    omega (arith, e, f, g)

pub started : (held : List Constraint) (value : List ℤ) (rank : List ℕ) (gap : List ℤ) (via : List Constraint)
    (new : Constraint)
    → Kept held value → IsStep new → new.x < length value → new.y < length value
    → length gap ≡ length value → length rank ≡ length value → length via ≡ length value
    → ((u : ℕ) → u < length value → (u ≡ new.x → ⊥) → at gap u ≡ pos 0)
    → at gap new.x ≡ (at value new.y +ℤ new.c) -ℤ at value new.x
    → (at value new.y +ℤ new.c) <ℤ at value new.x
    → ((u : ℕ) → u < length rank → slice_index rank u ≡ 4294967295)
    → Searching held value rank gap via new 0
started held value rank gap via new k step x_in y_in gl rl vl zero_gap first wrong open_all =
    let few = k.few in
    let is_open : (u : ℕ) → u < length value
    → IsOpen rank u = λ u lt. let h = open_all u (omega (arith, rl, lt)) in omega (arith, h, rl, few) in
    let not_done : (u : ℕ) → u < length value → IsDone rank u
    → ⊥ = λ u lt d. let h = is_open u lt in absurd (omega (arith, h, d)) in
    let y_small = kept_small held value k new.y y_in in
    let x_small = kept_small held value k new.x x_in in
    let gap_small : (u : ℕ) → u < length value
    → (at gap u ≤ℤ pos 0) × (neg_ℤ (pos (2 ^ 84)) ≤ℤ at gap u) × (at gap new.x ≤ℤ at gap u) = λ u lt.
    elim (cases_eq u new.x) [
      | inl e ↦ (let f : at gap u ≡ at gap new.x = ap (at gap) e in (
        omega (arith, ints, f, first, wrong),
        omega
            (arith, ints, f, first, y_small, x_small, step),
        omega (arith, ints, f),
      ))
      | inr ne ↦ (let f = zero_gap u lt ne in (
        omega (arith, ints, f),
        omega (arith, ints, f),
        omega
            (arith, ints, f, first, wrong),
      ))
    ] in
    record {
      gaps = gl;
      all_ranks = rl;
      vias = vl;
      relaxed = λ j d lt done. absurd (not_done _ (k.range j d lt).1 done);
      order = λ u w u_in w_in done op. absurd (not_done u u_in done);
      floor = λ u lt. (gap_small u lt).2;
      first = first;
      ranks = λ u lt done. absurd (not_done u lt done);
      tree = λ u lt below ne. let f = zero_gap u lt ne in absurd (omega (arith, ints, f, below));
      greatest = λ s solves meets below u lt. elim (cases_eq u new.x) [
        | inl e ↦ (let f : at gap u ≡ at gap new.x = ap (at gap) e in let g : at value u
            ≡ at value new.x = ap (at value) e in let h : s u ≡ s new.x = ap s e in let m = below new.y y_in in omega
            (arith, ints, f, g, h, m, first, meets))
        | inr ne ↦ (let f = zero_gap u lt ne in let m = below u lt in omega (arith, ints, f, m))
      ];
      small = record {
        values = kept_small held value k;
        gaps = λ u lt. ((gap_small u lt).0, (gap_small u lt).1);
        steps = k.steps;
      };
      count = (let f = all_open (length rank) rank (λ u lt. is_open u (omega (arith, rl, lt))) in omega (arith, f, rl));
    }

solves_front : (s : ℕ → ℤ) (held : List Constraint) (new : Constraint) → Solves s (held ++ new ∷ []) → Solves s held
solves_front s held new h k d lt =
    rw (sym (get_or_append_left held (new ∷ []) d k lt)) (h k d (let e = length-append held (new ∷ []) in omega
    (arith, e, lt)))

solves_new : (s : ℕ → ℤ) (held : List Constraint) (new : Constraint) → Solves s (held ++ new ∷ []) → Meets s new
solves_new s held new h = All-contains (Meets s) (held ++ new ∷ []) new h (Contains-push held new)

-- the constraint is met already
pub held_on : (held : List Constraint) (value : List ℤ) (new : Constraint) → Kept held value → IsStep new
    → new.x < length value → new.y < length value
    → Meets (at value) new → Kept (held ++ new ∷ []) value
held_on held value new k step x_in y_in meets = record {
  some_node = k.some_node;
  few = k.few;
  range = All-push (λ c. (c.x < length value) × (c.y < length value)) held new k.range (x_in, y_in);
  steps = All-push IsStep held new k.steps step;
  solves = All-push (Meets (at value)) held new k.solves meets;
  top = k.top;
  greatest = λ s h. k.greatest s (solves_front s held new h);
}

solves_same : (v w : ℕ → ℤ) (n : ℕ) (ks : List Constraint) → ((u : ℕ) → u < n → w u ≡ v u) → InRange n ks
    → Solves v ks → Solves w ks
solves_same v w n ks same range h k d lt =
    let a = same _ (range k d lt).0 in
    let b = same _ (range k d lt).1 in
    let c = h k d lt in
    omega (arith, ints, a, b, c)

-- the values were lowered
pub held_lower : (held : List Constraint) (value value' gap : List ℤ) (new : Constraint) → Kept held value
    → IsStep new → new.x < length value → new.y < length value
    → Lowered held value gap new → length value' ≡ length value
    → ((u : ℕ) → u < length value → at value' u ≡ lowered value gap u) → Kept (held ++ new ∷ []) value'
held_lower held value value' gap new k step x_in y_in l lens same =
    let range : InRange (length value) (held ++ new ∷ []) = All-push (λ c. (c.x < length value)
    × (c.y < length value)) held new k.range (x_in, y_in) in
    record {
      some_node = rw lens k.some_node;
      few = rw lens k.few;
      range = rw lens range;
      steps = All-push IsStep held new k.steps step;
      solves = solves_same (lowered value gap) (at value') (length value) (held ++ new ∷ []) same range
          (All-push (Meets (lowered value gap)) held new l.solves l.meets);
      top = λ u lt. let u_in : u < length value = omega (arith, lens, lt) in let a = same u u_in in let b = k.top u
          u_in in let c = (l.small.gaps u u_in).0 in omega (arith, ints, a, b, c);
      greatest = λ s h top u lt.
          let u_in : u < length value = omega (arith, lens, lt) in
          let front = solves_front s held new h in
          let low = k.greatest s front (λ w w_in. top w (omega (arith, lens, w_in))) in
          let g = l.greatest s front (solves_new s held new h) low u u_in in
          let a = same u u_in in
          omega (arith, ints, a, g);
    }

-- one value is lowered
pub applied : (value0 value gap : List ℤ) (i : ℕ) (x : ℤ) → i < length value → x ≡ at value i +ℤ at gap i
    → ((u : ℕ) → u < i → at value u ≡ lowered value0 gap u) → ((u : ℕ) → i ≤ u → at value u ≡ at value0 u)
    → ((u : ℕ) → u < i + 1 → at (slice_set value i x) u ≡ lowered value0 gap u)
    × ((u : ℕ) → i + 1 ≤ u → at (slice_set value i x) u ≡ at value0 u)
applied value0 value gap i x lt e done left = (
  (λ u u_lt. elim (cases_eq u i) [
    | inl same ↦ rw same (get_or-set_same value i x (pos 0) lt ∙ e ∙ ap (λ z. z +ℤ at gap i) (left i (omega arith)))
    | inr ne ↦ get_or-set_other value i u x (pos 0) ne ∙ done u (let h : u ≡ i → ⊥ = ne in omega (arith, h, u_lt))
  ]),
  (λ u u_le. get_or-set_other value i u x (pos 0) (λ same. omega (arith, same, u_le)) ∙ left u (omega (arith, u_le))),
)

-- for the two results of an addition
pub kept_none : (held : List Constraint) (value : List ℤ) (new : Constraint) → Kept (held ++ new ∷ []) value
    → (ks : List Constraint) → GoesRound held new ks → ⊥
kept_none held value new k = no_round (at value) held new k.solves

-- a `Vec` that was written through a slice keeps its length
pub written_length : (v : Vec ℤ Global) (ws : List ℤ) → length (with_items v ws).items ≡ length v.items
written_length v ws = sym (with_items v ws).ok.0 ∙ v.ok.0

-- one more value is moved
pub moves_on : (value values : List ℤ) (i : ℕ) (z : ℤ) → length values ≡ i
    → ((u : ℕ) → u < i → at values u ≡ at value u -ℤ at value 0) → z ≡ at value i -ℤ at value 0
    → (u : ℕ) → u < i + 1 → at (values ++ z ∷ []) u ≡ at value u -ℤ at value 0
moves_on value values i z e h is u lt = elim (cases_eq u i) [
  | inl same ↦ rw (same, ← e) (get_or-append_seam values z [] (pos 0) ∙ rw (← e) at is)
  | inr ne ↦ (let f : u ≡ i → ⊥ = ne in let l : u < i = omega (arith, f, lt) in get_or_append_left values (z ∷ [])
      (pos 0) u (omega (arith, l, e)) ∙ h u l)
]

pub solution : (nodes room : ℕ) (held cycle : List Constraint) (value values : List ℤ) → length value ≡ nodes
    → Kept held value → Moves value values
    → Solution (record { nodes = nodes; room = room; held = held; cycle = cycle }) values
solution nodes room held cycle value values e k m = record {
  all_nodes = m.lengths ∙ e;
  solves = λ j d lt.
      let a = m.each _ (k.range j d lt).0 in
      let b = m.each _ (k.range j d lt).1 in
      let h = k.solves j d lt in
      omega (arith, ints, a, b, h);
  zero = (let a = m.each 0 k.some_node in omega (arith, ints, a));
}

wider_at : (value : List ℤ) (k u : ℕ) → at (value ++ replicate k (pos 0)) u ≡ at value u
wider_at [] zero u = refl
wider_at [] (suc k) zero = refl
wider_at [] (suc k) (suc u) = wider_at [] k u
wider_at (x ∷ value) k zero = refl
wider_at (x ∷ value) k (suc u) = wider_at value k u

-- further nodes at 0
pub kept_wider : (held : List Constraint) (value : List ℤ) (k : ℕ) → length value + k ≤ 65536 → Kept held value
    → Kept held (value ++ replicate k (pos 0))
kept_wider held value k few kept =
    let len : length (value ++ replicate k (pos 0)) ≡ length value + k = length-append value (replicate k (pos 0))
    ∙ ap (λ n. length value + n) (length-replicate k (pos 0)) in
    record {
      some_node = (let h = kept.some_node in omega (arith, len, h));
      few = omega (arith, len, few);
      range = λ j d lt. let r = kept.range j d lt in (
        let a = r.0 in omega (arith, len, a),
        let b = r.1 in omega
            (arith, len, b),
      );
      steps = kept.steps;
      solves = λ j d lt. let h = kept.solves j d lt in rw (
        wider_at value k (slice_index_or held j d).x,
        wider_at
            value k (slice_index_or held j d).y,
      ) h;
      top = λ u lt. rw (wider_at value k u) (elim (cases_lt u (length value))
          [ inl l ↦ kept.top u l | inr g ↦ rw (past value u g) (omega (arith, ints)) ]);
      greatest = λ s solves top u lt. rw (wider_at value k u) (elim (cases_lt u (length value)) [
        | inl l ↦ kept.greatest s solves (λ w w_in. top w (omega (arith, len, w_in))) u l
        | inr g ↦ rw (past value u g) (top u lt)
      ]);
    }
  where
    past : (value : List ℤ) (u : ℕ) → length value ≤ u → at value u ≡ pos 0
    past [] u h = refl
    past (x ∷ xs) zero h = absurd (omega (arith, h))
    past (x ∷ xs) (suc u) h = past xs u (omega (arith, h))

pub kept_copy : (held : List Constraint) (value : List ℤ) (h : List Constraint) (v v0 : List ℤ) (n m : ℕ)
    → Kept held value → h ≡ held
    → v ≡ take n v0 ++ replicate (n - m) (pos 0) → v0 ≡ value → m ≡ length value → length value ≤ n → n ≤ 65536
    → Kept h v
kept_copy held value h v v0 n m kept h_is d e f le few =
    let v_is : v ≡ value ++ replicate (n - length value) (pos 0) = rw (d, e, f, take_all n value le) refl in
    rw (h_is, v_is) (kept_wider held value (n - length value) (omega (arith, le, few)) kept)
