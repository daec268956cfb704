-- Lists of known constants.
use Rattle.std.proofs.Common.{◌≡◌, ◌∙◌, ℕ, ◌+◌, ◌<◌, ◌≤◌, ◌^◌, inl, inr, ℤ, List, length, Option, None, Some, IsSome}
use Rattle.std.proofs.Common.{Bool, true, false, cond, refl, sym, ap, subst, arith, slice_set}
use Rattle.std.specs.Prelude.{count_by, is_none}
use Rattle.std.proofs.lemmas.Int.{ints}
use Rattle.std.proofs.lemmas.Bool.{cases_eq}
use Rattle.std.proofs.lemmas.List.{get_or-set_same, get_or-set_other}
use Rattle.std.proofs.lemmas.List.Sums.{sum_by-set}
use Rattle.std.proofs.Math.ListN.{length-set}
use Rattle.pungi_domain.specs.Vectors.{IsWithin}
use Rattle.pungi_domain.specs.Flat.{constant_at, or_zero, IsSmall}
use Rattle.pungi_domain.specs.Constants.{AreJoinedBelow, IsJoinedAt}

pub value_within : (o : Option ℤ) → IsSmall o → IsWithin (2 ^ 31) (or_zero o)
value_within None h = (omega (arith, ints), omega (arith, ints))
value_within (Some c) h = h

lacks : Option ℤ → ℕ
lacks o = cond (is_none o) 1 0

has_none : (o : Option ℤ) → IsSome o → lacks o ≡ 0
unfolding lacks
has_none None h = absurd (cc)
has_none (Some c) h = refl

-- a constant lost is one more coordinate without one
one_more : (cs : List (Option ℤ)) (i : ℕ) → i < length cs → IsSome (constant_at cs i)
    → count_by is_none cs < count_by is_none (slice_set cs i None)
unfolding lacks
one_more cs i lt h =
    let e = sum_by-set lacks cs i None None lt in
    let z = has_none (constant_at cs i) h in
    omega (arith, e, z)

module _ (old from cur new : List (Option ℤ)) (i : ℕ) (changed : Bool) where
  pub join_dropped : i < length old → AreJoinedBelow old from i cur changed → IsJoinedAt cur from i new true
      → AreJoinedBelow old from (i + 1) new true
  join_dropped lt h j = subst (λ (cs : List (Option ℤ)). AreJoinedBelow old from (i + 1) cs true) (sym j.0) (record {
    lengths = length-set cur i None ∙ h.lengths;
    kept = λ k c e. elim (cases_eq k i) [
      | inl same ↦ absurd (gone k c same e)
      | inr ne ↦ h.kept k c (sym (get_or-set_other cur i k None None ne) ∙ e)
    ];
    agreed = λ k c k_lt e. elim (cases_eq k i) [
      | inl same ↦ absurd (gone k c same e)
      | inr ne ↦ h.agreed k c (let n : k ≡ i → ⊥ = ne in omega (arith, n, k_lt))
          (sym (get_or-set_other cur i k None None ne) ∙ e)
    ];
    all = λ k c e f. elim (cases_eq k i) [
      | inl same ↦ absurd (j.2 (ap (constant_at cur) (sym same) ∙ h.all k c e f
          ∙ sym (ap (constant_at from) (sym same) ∙ f)))
      | inr ne ↦ get_or-set_other cur i k None None ne ∙ h.all k c e f
    ];
    same = λ e. absurd (cc);
    more = λ _. (let m = one_more cur i in_cur j.1 in omega (arith, m, grown));
  })
    where
      in_cur : i < length cur
      in_cur = (let l = h.lengths in omega (arith, l, lt))

      gone : (k : ℕ) (c : ℤ) → k ≡ i → constant_at (slice_set cur i None) k ≡ Some c → ⊥
      gone k c same e = (let f : constant_at (slice_set cur i None) i
          ≡ None = get_or-set_same cur i None None in_cur in let g : constant_at (slice_set cur i None) i
          ≡ Some c = subst (λ (m : ℕ). constant_at (slice_set cur i None) m ≡ Some c) same e in cc)

      grown : count_by is_none old ≤ count_by is_none cur
      grown = go changed h.same h.more
        where
          go : (b : Bool) → (b ≡ false → cur ≡ old) → (b ≡ true → count_by is_none old < count_by is_none cur)
              → count_by is_none old ≤ count_by is_none cur
          go true s m = (let l = m refl in omega (arith, l))
          go false s m = (let e = ap (count_by is_none) (s refl) in omega (arith, e))

  pub join_kept : AreJoinedBelow old from i cur changed → IsJoinedAt cur from i new false
      → AreJoinedBelow old from (i + 1) new changed
  join_kept h j = subst (λ (cs : List (Option ℤ)). AreJoinedBelow old from (i + 1) cs changed) (sym j.0) (record {
    lengths = h.lengths;
    kept = h.kept;
    agreed = λ k c k_lt e. elim (cases_eq k i) [
      | inl same ↦ (let e' : constant_at cur i ≡ Some c = subst (λ (m : ℕ). constant_at cur m ≡ Some c) same e in
          subst (λ (m : ℕ). constant_at from m ≡ Some c) (sym same) (elim j.1 [
            | inl none ↦ absurd
                (let n : constant_at cur i ≡ None = none in cc)
            | inr eq ↦ sym eq ∙ e'
          ]))
      | inr ne ↦ h.agreed k c (let n : k ≡ i → ⊥ = ne in omega (arith, n, k_lt)) e
    ];
    all = h.all;
    same = h.same;
    more = h.more;
  })
