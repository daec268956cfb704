-- One turn of a search: the least open node is done, and its constraints are relaxed.
use Rattle.std.proofs.Common.{◌≡◌, ◌∙◌, ℕ, ◌+◌, ◌<◌, ◌≤◌, inl, inr, ℤ, pos, ◌+ℤ◌, ◌≤ℤ◌, ◌<ℤ◌, List, length, slice_index}
use Rattle.std.proofs.Common.{slice_index_or, slice_set, ap, arith, get_or-set_other, get_or-set_same, length-set}
use Rattle.std.specs.List.{All}
use Rattle.std.proofs.lemmas.Int.{ints}
use Rattle.std.proofs.lemmas.List.Elements.{All-contains}
use Rattle.std.proofs.lemmas.List.Sums.{sum_by-set}
use Rattle.std.proofs.lemmas.Bool.{cases_eq, cases_lt}
use Rattle.std.proofs.lemmas.Bool.Decides.{nat_tests}
use Rattle.pungi_diff.specs.declared.constraint.Constraint.{Constraint}
use Rattle.pungi_diff.specs.Constraint.{at, Meets, Solves, Small, InRange}
use Rattle.pungi_diff.specs.Search.{Stays, Drops, IsOpen, IsDone, IsLeastOpen, NoneOpen, lowered, Relaxes, Searching}
use Rattle.pungi_diff.specs.Search.{HasVia, open_one, open_count, Lowered}
use Rattle.pungi_diff.specs.declared.constraint.TheConstants.{NO_CONSTRAINT}

open_is : (n r : ℕ) → n ≤ r → open_one n r ≡ 1
open_is n r h = grind (arith, nat_tests)

done_is : (n r : ℕ) → r < n → open_one n r ≡ 0
done_is n r h = grind (arith, nat_tests)

pub count_falls : (rank : List ℕ) (s t : ℕ) → s < length rank → IsOpen rank s → t < length rank
    → open_count (slice_set rank s t) + 1 ≡ open_count rank
count_falls rank s t lt op t_lt =
    let e = sum_by-set (open_one (length rank)) rank s t 0 lt in
    let a : open_one (length rank) (slice_index rank s) ≡ 1 = open_is _ _ op in
    let b : open_one (length rank) t ≡ 0 = done_is _ _ t_lt in
    rw length-set (omega (arith, e, a, b))

pub some_open : (rank : List ℕ) (s : ℕ) → s < length rank → IsOpen rank s → 0 < open_count rank
some_open rank s lt op =
    let e = sum_by-set (open_one (length rank)) rank s (length rank) 0 lt in
    let f = sum_by-set (open_one (length rank)) rank s 0 0 lt in
    let a : open_one (length rank) (slice_index rank s) ≡ 1 = open_is _ _ op in
    let b : open_one (length rank) 0 ≡ 0 = done_is _ _ (omega arith) in
    omega (arith, a, b, f)

module _ (held : List Constraint) (value : List ℤ) (rank : List ℕ) (gap : List ℤ) (via : List Constraint)
    (new : Constraint) (t s : ℕ) (gap' : List ℤ) (via' : List Constraint)
    (r : Searching held value rank gap via new t) (l : IsLeastOpen gap rank s) (solved : Solves (at value) held)
    (range : InRange (length value) held) (new_in : new.x < length value)
    (x : Relaxes held value (slice_set rank s t) gap via gap' via' s) where
  s_in : s < length value
  s_in = let h : s < length gap = l.within in let e = r.gaps in omega (arith, h, e)

  s_rank : s < length rank
  s_rank = let e = r.all_ranks in let h = s_in in omega (arith, e, h)

  pub t_lt : t < length rank
  t_lt = let h = some_open rank s s_rank l.is_open in let e = r.count in let f = r.all_ranks in omega (arith, h, e, f)

  len : length (slice_set rank s t) ≡ length rank
  len = length-set rank s t

  rank_s : slice_index (slice_set rank s t) s ≡ t
  rank_s = get_or-set_same rank s t 0 s_rank

  rank_other : (u : ℕ) → (u ≡ s → ⊥) → slice_index (slice_set rank s t) u ≡ slice_index rank u
  rank_other u ne = get_or-set_other rank s u t 0 ne

  done_s : IsDone (slice_set rank s t) s
  done_s = let a = rank_s in let b = len in let h = t_lt in omega (arith, a, b, h)

  done_before : (u : ℕ) → (u ≡ s → ⊥) → IsDone (slice_set rank s t) u → IsDone rank u
  done_before u ne d = let a = rank_other u ne in let b = len in omega (arith, a, b, d)

  not_s : (u : ℕ) → IsDone rank u → u ≡ s → ⊥
  not_s u d e = let o : length rank ≤ slice_index rank s = l.is_open in let f : slice_index rank u
      ≡ slice_index rank s = ap (slice_index rank) e in omega (arith, o, d, f)

  done_after : (u : ℕ) → IsDone rank u → IsDone (slice_set rank s t) u
  done_after u d = let a = rank_other u (not_s u d) in let b = len in omega (arith, a, b, d)

  open_not_s : (u : ℕ) → IsOpen (slice_set rank s t) u → u ≡ s → ⊥
  open_not_s u o e = let f : slice_index (slice_set rank s t) u
      ≡ slice_index (slice_set rank s t) s = ap (slice_index (slice_set rank s t)) e in let d = done_s in omega
      (arith, o, d, f)

  open_before : (u : ℕ) → IsOpen (slice_set rank s t) u → IsOpen rank u
  open_before u o = let a = rank_other u (open_not_s u o) in let b = len in omega (arith, a, b, o)

  kept : (u : ℕ) → u < length value → IsDone (slice_set rank s t) u → Stays gap gap' via via' u
  kept u lt d = elim (x.each u lt) [ inl st ↦ st | inr dr ↦ let o = dr.is_open in absurd (omega (arith, o, d)) ]

  not_more : (u : ℕ) → u < length value → at gap' u ≤ℤ at gap u
  not_more u lt = elim (x.each u lt) [
    | inl st ↦ (let h = st.0 in omega (arith, ints, h))
    | inr dr ↦
        (let h = dr.less in omega (arith, ints, h))
  ]

  drop_floor : (u : ℕ) → Drops held value (slice_set rank s t) gap gap' via' s u → at gap s ≤ℤ at gap' u
  drop_floor u dr =
      let h = All-contains (Meets (at value)) held dr.by solved dr.held_by in
      let a : at value dr.by.x ≡ at value u = ap (at value) dr.to in
      let b : at value dr.by.y ≡ at value s = ap (at value) dr.comes in
      let e = dr.exact in
      omega (arith, ints, h, a, b, e)

  open_floor : (u : ℕ) → u < length value → IsOpen (slice_set rank s t) u → at gap s ≤ℤ at gap' u
  open_floor u lt o = elim (x.each u lt) [
    | inl st ↦ (let h = st.0 in let m = l.least u (let e = r.gaps in omega (arith, e, lt)) (open_before u o) in
        omega (arith, ints, h, m))
    | inr dr ↦ drop_floor u dr
  ]

  done_ceiling : (u : ℕ) → u < length value → IsDone (slice_set rank s t) u → at gap u ≤ℤ at gap s
  done_ceiling u lt d = elim (cases_eq u s) [
    | inl e ↦ (let f : at gap u ≡ at gap s = ap (at gap) e in omega (arith, ints, f))
    | inr ne ↦ r.order u s lt s_in (done_before u ne d) l.is_open
  ]

  above_first : (u : ℕ) → u < length value → at gap new.x ≤ℤ at gap' u
  above_first u lt = elim (x.each u lt) [
    | inl st ↦ (let h = st.0 in let m = r.floor u lt in omega (arith, ints, h, m))
    | inr dr ↦ (let h = drop_floor u dr in let m = r.floor s s_in in omega (arith, ints, h, m))
  ]

  same_first : at gap' new.x ≡ at gap new.x
  same_first = let a = above_first new.x new_in in let b = not_more new.x new_in in omega (arith, ints, a, b)

  relaxed_next : All (λ k. IsDone (slice_set rank s t) k.y
      → lowered value gap' k.x ≤ℤ (lowered value gap' k.y +ℤ k.c)) held
  relaxed_next k d lt done =
      let con : Constraint = slice_index_or held k d in
      let x_in : con.x < length value = (range k d lt).0 in
      let y_in : con.y < length value = (range k d lt).1 in
      let st = (kept con.y y_in done).0 in
      elim (cases_eq con.y s) [
        | inl e ↦
            let a : at gap con.y ≡ at gap s = ap (at gap) e in
            let b : at value con.y ≡ at value s = ap (at value) e in
            elim (cases_lt (slice_index (slice_set rank s t) con.x) (length (slice_set rank s t))) [
              | inl dx ↦ (let c = done_ceiling con.x x_in dx in let f = (kept con.x x_in dx).0 in let g = solved k d
                  lt in omega (arith, ints, st, a, b, c, f, g))
              | inr ox ↦ (let m = x.met k d lt e ox in omega (arith, ints, st, a, b, m))
            ]
        | inr ne ↦ (let m = r.relaxed k d lt (done_before con.y ne done) in let n = not_more con.x x_in in omega
            (arith, ints, st, m, n))
      ]

  order_next : (u w : ℕ) → u < length value → w < length value → IsDone (slice_set rank s t) u
      → IsOpen (slice_set rank s t) w → at gap' u ≤ℤ at gap' w
  order_next u w u_in w_in du ow =
      let a = (kept u u_in du).0 in
      let b = done_ceiling u u_in du in
      let c = open_floor w w_in ow in
      omega (arith, ints, a, b, c)

  ranks_next : (u : ℕ) → u < length value → IsDone (slice_set rank s t) u → slice_index (slice_set rank s t) u < t + 1
  ranks_next u lt d = elim (cases_eq u s) [
    | inl e ↦ (let f : slice_index (slice_set rank s t) u
        ≡ slice_index (slice_set rank s t) s = ap (slice_index (slice_set rank s t)) e in let g = rank_s in omega
        (arith, f, g))
    | inr ne ↦ (let f = rank_other u ne in let g = r.ranks u lt (done_before u ne d) in omega (arith, f, g))
  ]

  greatest_next : (v : ℕ → ℤ) → Solves v held → Meets v new → ((u : ℕ) → u < length value → v u ≤ℤ at value u)
      → (u : ℕ) → u < length value → v u ≤ℤ lowered value gap' u
  greatest_next v sv mv below u lt = elim (x.each u lt) [
    | inl st ↦ (let h = st.0 in let m = r.greatest v sv mv below u lt in omega (arith, ints, h, m))
    | inr dr ↦
        let h = All-contains (Meets v) held dr.by sv dr.held_by in
        let a : v dr.by.x ≡ v u = ap v dr.to in
        let b : v dr.by.y ≡ v s = ap v dr.comes in
        let e = dr.exact in
        let m = r.greatest v sv mv below s s_in in
        omega (arith, ints, h, a, b, e, m)
  ]

  -- a constraint that held u before holds it now
  tree_stays : (u : ℕ) → u < length value → (by : Constraint) → at gap' u ≡ at gap u
      → HasVia held value rank gap by u → HasVia held value (slice_set rank s t) gap' by u
  tree_stays u lt by e h =
      let y_done : IsDone (slice_set rank s t) by.y = done_after by.y h.comes in
      let y_kept = (kept by.y h.within y_done).0 in
      record {
        held_by = h.held_by;
        to = h.to;
        within = h.within;
        comes = y_done;
        lower_there = (let a = h.lower_there in omega (arith, ints, a, y_kept));
        rank_less = (
            let a = rank_other by.y (not_s by.y h.comes) in
            elim (cases_eq u s) [
              | inl f ↦ (let g : slice_index (slice_set rank s t) u
                  ≡ slice_index (slice_set rank s t) s = ap (slice_index (slice_set rank s t)) f in let k = rank_s in
                  let m = r.ranks by.y h.within h.comes in omega (arith, a, g, k, m))
              | inr ne ↦ (let g = rank_other u ne in let m = h.rank_less in omega (arith, a, g, m))
            ]
            );
        exact = (let a = h.exact in omega (arith, ints, a, e, y_kept));
      }

  tree_drops : (u : ℕ) → (by : Constraint) → (dr : Drops held value (slice_set rank s t) gap gap' via' s u)
      → by ≡ dr.by → HasVia held value (slice_set rank s t) gap' by u
  tree_drops u by dr is =
      let kept_s = (kept s s_in done_s).0 in
      let below = l.below in
      rw is (record {
        held_by = dr.held_by;
        to = dr.to;
        within = rw dr.comes s_in;
        comes = rw dr.comes done_s;
        lower_there = rw dr.comes (omega (arith, ints, kept_s, below));
        rank_less = rw dr.comes (let a = rank_s in let o = dr.is_open in let b = len in let h = t_lt in omega
            (arith, a, o, b, h));
        exact = rw dr.comes (let e = dr.exact in omega (arith, ints, e, kept_s));
      })

  tree_next : (u : ℕ) → u < length value → at gap' u <ℤ pos 0 → (u ≡ new.x → ⊥)
      → HasVia held value (slice_set rank s t) gap' (slice_index_or via' u NO_CONSTRAINT) u
  tree_next u lt below ne = elim (x.each u lt) [
    | inl st ↦ (let e = st.0 in rw (st.1 NO_CONSTRAINT) (tree_stays u lt (slice_index_or via u NO_CONSTRAINT) e
        (r.tree u lt (omega (arith, ints, e, below)) ne)))
    | inr dr ↦ tree_drops u (slice_index_or via' u NO_CONSTRAINT) dr (dr.here NO_CONSTRAINT)
  ]

  pub settled : Small value gap' held → length gap' ≡ length value → length via' ≡ length value
      → Searching held value (slice_set rank s t) gap' via' new (t + 1)
  settled small gl vl = record {
    gaps = gl;
    all_ranks = len ∙ r.all_ranks;
    vias = vl;
    relaxed = relaxed_next;
    order = order_next;
    floor = λ u lt. let a = same_first in let b = above_first u lt in omega (arith, ints, a, b);
    first = same_first ∙ r.first;
    ranks = ranks_next;
    tree = tree_next;
    greatest = greatest_next;
    small = small;
    count = (let a = count_falls rank s t s_rank l.is_open t_lt in let b = r.count in omega (arith, a, b));
  }

-- the search ends where no open node has a gap below 0
pub ends_well : (held : List Constraint) (value : List ℤ) (rank : List ℕ) (gap : List ℤ) (via : List Constraint)
    (new : Constraint) (t : ℕ)
    → Searching held value rank gap via new t → NoneOpen gap rank → Solves (at value) held → InRange (length value) held
    → new.x < length value → new.y < length value → pos 0 ≤ℤ at gap new.y → Lowered held value gap new
ends_well held value rank gap via new t r none solved range x_in y_in y_stays = record {
  solves = λ k d lt.
      let con : Constraint = slice_index_or held k d in
      let x_in' : con.x < length value = (range k d lt).0 in
      let y_in' : con.y < length value = (range k d lt).1 in
      elim (cases_lt (slice_index rank con.y) (length rank)) [
        | inl d_y ↦ r.relaxed k d lt d_y
        | inr o_y ↦ (let a = none con.y (let e = r.gaps in omega (arith, e, y_in')) o_y in let b
            = (r.small.gaps con.x x_in').0 in let c = solved k d lt in omega (arith, ints, a, b, c))
      ];
  meets = (let a = r.first in omega (arith, ints, a, y_stays));
  greatest = r.greatest;
  small = r.small;
}
