-- The new row in its place among the changed old ones.
use Rattle.std.proofs.Common.{◌≡◌, ℕ, ◌+◌, ◌-◌, ◌<◌, ◌≤◌, ◌⊎◌, inl, inr, ℤ, pos, ◌-ℤ◌, ◌*ℤ◌, ◌<ℤ◌, List, length, cond}
use Rattle.std.proofs.Common.{ltb, arith, ◌∙◌, ap}
use Rattle.std.specs.List.{insert}
use Rattle.std.proofs.lemmas.Bool.{cases_lt, cases_eq}
use Rattle.std.proofs.lemmas.Int.{ints}
use Rattle.std.proofs.lemmas.Bool.Decides.{nat_tests}
use Rattle.std.proofs.lemmas.List.Edits.{get_or-insert_at, get_or-insert_below, get_or-insert_above, length-insert}
use Rattle.pungi_domain.specs.Vectors.{at}
use Rattle.pungi_affine.specs.Forms.{Line, line, no_line}
use Rattle.pungi_affine.specs.Steps.{residual, Steps}

-- where the old row at a place stands after the new one's insertion
abbrev pub shifted : ℕ → ℕ → ℕ
shifted p k = cond (ltb k p) k (k + 1)

pub shifted_low : (p k : ℕ) → k < p → shifted p k ≡ k
shifted_low p k lt = grind (arith, nat_tests)

pub shifted_high : (p k : ℕ) → p ≤ k → shifted p k ≡ k + 1
shifted_high p k le = grind (arith, nat_tests)

module _ (ms : List Line) (p : ℕ) (n : Line) (le : p ≤ length ms) where
  pub insert_length : length (insert ms p n) ≡ length ms + 1
  insert_length = length-insert ms p n le

  pub insert_at : line (insert ms p n) p ≡ n
  insert_at = get_or-insert_at ms p n no_line le

  pub insert_old : (k : ℕ) → k < length ms → line (insert ms p n) (shifted p k) ≡ line ms k
  insert_old k lt = elim (cases_lt k p) [
    | inl l ↦ rw (shifted_low p k l) (get_or-insert_below ms p n no_line k l le)
    | inr l ↦ rw (shifted_high p k l) (get_or-insert_above ms p n no_line k l le)
  ]

  pub insert_covers : (j : ℕ) → j < length ms + 1 → (j ≡ p) ⊎ ((k : ℕ) × (k < length ms) × (shifted p k ≡ j))
  insert_covers j lt = elim (cases_lt j p) [
    | inl l ↦ inr (j, omega (arith, le, l), shifted_low p j l)
    | inr l ↦ elim (cases_eq j p) [
      | inl e ↦ inl e
      | inr ne ↦ (let m : j ≡ p → ⊥ = ne in inr (
        j - 1,
        omega (arith, lt, l, m),
        shifted_high p (j - 1)
            (omega (arith, l, m)) ∙ omega (arith, l, m),
      ))
    ]
  ]

pub steps_insert : (w : ℕ) (d : ℤ) (ls : List Line) (v : ℕ → ℤ) (d' : ℤ) (ms : List Line) (p : ℕ) (n : Line)
    (u : ℕ → ℤ) (h : ℤ) (q : ℕ)
    → (h ≡ pos 0 → ⊥) → ((i : ℕ) → i < w → residual d ls v i ≡ h *ℤ u i) → q < w → pos 0 <ℤ u q
    → ((i : ℕ) → i < q → u i ≡ pos 0)
    → d' ≡ d *ℤ u q → length ms ≡ length ls → p ≤ length ms
    → n.pivot ≡ q → ((i : ℕ) → i < w → at n.entries i ≡ d *ℤ u i)
    → ((k : ℕ) → k < length ls → (line ms k).pivot ≡ (line ls k).pivot)
    → ((k i : ℕ) → k < length ls → i < w → at (line ms k).entries i
    ≡ (u q *ℤ at (line ls k).entries i) -ℤ (at (line ls k).entries q *ℤ u i))
    → Steps w d ls v d' (insert ms p n)
steps_insert w d ls v d' ms p n u h q h_not u_is q_in q_entry q_first d_is len le n_pivot n_row o_pivot o_row = record {
  u = u;
  h = h;
  h_not = h_not;
  u_is = u_is;
  q = q;
  q_within = q_in;
  q_entry = q_entry;
  q_first = q_first;
  g = pos 1;
  g_positive = omega (arith, ints);
  d_is = omega (arith, ints, d_is);
  new = p;
  new_in = (let e = insert_length ms p n le in omega (arith, e, le));
  place = shifted p;
  place_in = λ k lt. (let e = insert_length ms p n le in let b = below k in omega (arith, e, len, lt, b));
  covers = λ j lt. elim (insert_covers ms p n le j (let e = insert_length ms p n le in omega (arith, e, lt))) [
    | inl e ↦ inl e
    | inr o ↦ inr (o.0, (let f = o.1 in omega (arith, len, f)), o.2)
  ];
  new_pivot = ap (λ l. l.pivot) (insert_at ms p n le) ∙ n_pivot;
  new_row = λ i lt. (let e : at (line (insert ms p n) p).entries i
      ≡ at n.entries i = ap (λ l. at l.entries i) (insert_at ms p n le) in let f = n_row i lt in omega
      (arith, ints, e, f));
  old_pivot = λ k lt. ap (λ l. l.pivot) (old k lt) ∙ o_pivot k lt;
  old_row = λ k i lt i_lt. (let e : at (line (insert ms p n) (shifted p k)).entries i
      ≡ at (line ms k).entries i = ap (λ l. at l.entries i) (old k lt) in let f = o_row k i lt i_lt in omega
      (arith, ints, e, f));
}
  where
    old : (k : ℕ) → k < length ls → line (insert ms p n) (shifted p k) ≡ line ms k
    old k lt = insert_old ms p n le k (omega (arith, len, lt))

    below : (k : ℕ) → shifted p k ≤ k + 1
    below k = elim (cases_lt k p) [
      | inl l ↦ (let e = shifted_low p k l in omega (arith, e))
      | inr l ↦
          (let e = shifted_high p k l in omega (arith, e))
    ]
