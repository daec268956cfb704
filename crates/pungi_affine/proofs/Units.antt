-- The rows of all coordinates are kept as they are, and any vector is a member of their span; what a unit vector adds.
use Rattle.std.proofs.Common.{◌≡◌, ◌∙◌, ℕ, ◌+◌, ◌-◌, ◌<◌, ◌≤◌, inl, inr, ℤ, pos, ◌+ℤ◌, ◌-ℤ◌, ◌*ℤ◌, List, [], ◌∷◌, ◌++◌}
use Rattle.std.proofs.Common.{length, refl, sym, ap, subst, arith}
use Rattle.std.proofs.lemmas.Int.{ints}
use Rattle.std.proofs.lemmas.Bool.{cases_eq, cases_lt}
use Rattle.std.proofs.lemmas.List.{get_or_past}
use Rattle.std.proofs.lemmas.Bool.Decides.{nat_tests}
use Rattle.pungi_domain.specs.Vectors.{Vector, Vectors, at, Freed, Follows}
use Rattle.pungi_domain.specs.Spans.{unit, Plus}
use Rattle.pungi_domain.specs.Ring.{mul_comm, mul_zero}
use Rattle.pungi_affine.specs.Spans.{InSpan, SameMembers}
use Rattle.pungi_affine.specs.Forms.{Line, line, vectors, IsForm, IsBox}
use Rattle.pungi_affine.specs.Rows.{entry_at}
use Rattle.pungi_affine.specs.Units.{IsUnitLine, AreUnits}
use Rattle.pungi_affine.specs.States.{IsKept}
use Rattle.pungi_affine.proofs.Reduced.{passes_in, fill_one_by}
use Rattle.pungi_affine.proofs.Rows.{entry_before, entry_from}
use Rattle.pungi_affine.proofs.Shared.{each_more, more_lines}
use Rattle.pungi_affine.proofs.Sums.{plus_meets}

pub unit_own : (c : ℕ) → unit c c ≡ pos 1
unit_own c = grind (arith, nat_tests)

pub unit_other : (c i : ℕ) → (i ≡ c → ⊥) → unit c i ≡ pos 0
unit_other c i ne = grind (arith, nat_tests, ne)

unit_box : (c i : ℕ) → IsBox (unit c i)
unit_box c i = elim (cases_eq i c) [
  | inl e ↦ subst (λ (z : ℤ). IsBox z) (sym (ap (unit c) e ∙ unit_own c)) (omega (arith, ints), omega (arith, ints))
  | inr ne ↦ subst (λ (z : ℤ). IsBox z) (sym (unit_other c i ne)) (omega (arith, ints), omega (arith, ints))
]

pub units_more : (w k : ℕ) (ls : List Line) (l : Line) → length ls ≡ k
    → ((j : ℕ) → j < k → IsUnitLine w j (line ls j)) → IsUnitLine w k l → (j : ℕ) → j < k + 1
    → IsUnitLine w j (line (ls ++ l ∷ []) j)
units_more w k ls l e h last j lt =
    each_more (λ i x. IsUnitLine w i x) ls l (λ i i_lt. h i (omega (arith, e, i_lt)))
    (subst (λ (n : ℕ). IsUnitLine w n l) (sym e) last) j (let m = more_lines ls l in omega (arith, m, e, lt))

module _ (w : ℕ) (narrow : w ≤ 256) (ls : List Line) (u : AreUnits w ls) where
  in_w : (k : ℕ) → k < length ls → k < w
  in_w k lt = (let n = u.count in omega (arith, n, lt))

  at_row : (k i : ℕ) → k < length ls → i < w → at (line ls k).entries i ≡ unit k i
  at_row k i lt i_lt = (u.each k (in_w k lt)).each i i_lt

  pivot_at : (k : ℕ) → k < length ls → (line ls k).pivot ≡ k
  pivot_at k lt = (u.each k (in_w k lt)).pivot

  units_form : IsForm w (pos 1) ls
  units_form = record {
    positive = omega (arith, ints);
    within = λ k lt. (let p = pivot_at k lt in let l = in_w k lt in omega (arith, p, l));
    own = λ k lt. ap (at (line ls k).entries) (pivot_at k lt) ∙ at_row k k lt (in_w k lt) ∙ unit_own k;
    others = λ j k j_lt k_lt ne. ap (at (line ls k).entries) (pivot_at j j_lt) ∙ at_row k j k_lt (in_w j j_lt)
        ∙ unit_other k j ne;
    before = λ k i lt i_lt. (let p = pivot_at k lt in let l = in_w k lt in at_row k i lt (omega (arith, p, l, i_lt))
        ∙ unit_other k i (λ e. absurd (omega (arith, e, p, i_lt))));
  }

  pub units_kept : IsKept w (pos 1) ls
  units_kept = record {
    narrow = narrow;
    few = (let n = u.count in omega (arith, n));
    form = units_form;
    order = λ j k lt k_lt. (let a = pivot_at j (omega (arith, lt, k_lt)) in let b = pivot_at k k_lt in omega
        (arith, a, b, lt));
    coprime = λ m e h all. record { by = h.by; is = (let x = h.is in omega (arith, ints, x)) };
    scale = (omega (arith, ints), omega (arith, ints));
    widths = λ k lt. (u.each k (in_w k lt)).lengths;
    small = λ k lt i i_lt. subst (λ (z : ℤ). IsBox z) (sym (at_row k i lt (let l = (u.each k (in_w k lt)).lengths in
        omega (arith, l, i_lt)))) (unit_box k i);
  }

  pub units_all : (v : Vector) → InSpan w (vectors ls) v
  units_all v = passes_in w (pos 1) ls units_form v (λ i lt.
      let i_l : i < length ls = (let n = u.count in omega (arith, n, lt)) in
      let f = fill_one_by ls v i i i_l (λ j j_lt ne. ap (λ z. v (line ls j).pivot *ℤ z)
      (at_row j i j_lt lt ∙ unit_other j i (λ e. ne (sym e))) ∙ mul_zero (v (line ls j).pivot)) in
      let g : v (line ls i).pivot *ℤ at (line ls i).entries i
      ≡ v i *ℤ pos 1 = ap (λ p. v p *ℤ at (line ls i).entries i) (pivot_at i i_l)
      ∙ ap (λ z. v i *ℤ z) (at_row i i i_l lt ∙ unit_own i) in
      let c = mul_comm (v i) (pos 1) in
      omega (arith, ints, f, g, c))

-- a vector that differs from a member at one coordinate is in the span with the unit vector
pub freed_plus : (w c : ℕ) (S : Vectors) (v : Vector) → Freed c S v → Plus w S (unit c) v
freed_plus w c S v h = record {
  times = pos 1;
  not_zero = λ e. absurd (omega (arith, ints, e));
  part = h.0;
  part_in = h.1;
  factor = v c -ℤ h.0 c;
  exact = λ i lt. elim (cases_eq i c) [
    | inl e ↦ subst (λ (j : ℕ). pos 1 *ℤ v j ≡ h.0 j +ℤ ((v c -ℤ h.0 c) *ℤ unit c j)) (sym e)
        (let a : (v c -ℤ h.0 c) *ℤ unit c c ≡ (v c -ℤ h.0 c) *ℤ pos 1 = ap (λ z. (v c -ℤ h.0 c) *ℤ z) (unit_own c) in
        omega (arith, ints, a))
    | inr ne ↦ (let a : (v c -ℤ h.0 c) *ℤ unit c i ≡ (v c -ℤ h.0 c) *ℤ pos 0 = ap (λ z. (v c -ℤ h.0 c) *ℤ z)
        (unit_other c i ne) in let b = mul_zero (v c -ℤ h.0 c) in let e = h.2 i ne in omega (arith, ints, a, b, e))
  ];
}

pub freed_least : (w c : ℕ) (S T : Vectors) → S (λ i. pos 0) → SameMembers (Plus w S (unit c)) T
    → Follows w (Freed c S) T
freed_least w c S T zeros s e len meets v m =
    plus_meets w S (unit c) e len (λ x p. meets x (x, p, λ i ne. refl)) (meets (unit c)
    ((λ i. pos 0), zeros, λ i ne. unit_other c i ne)) v (s.back v m)

pub unit_entry : (c i : ℕ) → entry_at c (pos 1 ∷ []) i ≡ unit c i
unit_entry c i = elim (cases_lt i c) [
  | inl l ↦ entry_before c (pos 1 ∷ []) i l ∙ sym (unit_other c i (λ e. absurd (omega (arith, l, e))))
  | inr g ↦ entry_from c (pos 1 ∷ []) i g ∙ elim (cases_eq i c) [
    | inl e ↦ (let z : i - c ≡ 0 = omega (arith, e) in ap (at (pos 1 ∷ [])) z) ∙ sym (ap (unit c) e ∙ unit_own c)
    | inr ne ↦ get_or_past (pos 1 ∷ []) (i - c) (pos 0) (let m : i ≡ c → ⊥ = ne in omega (arith, g, m)) ∙ sym (unit_other c i ne)
  ]
]
