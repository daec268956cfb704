-- Numbers in order, each once, are the same list where the same numbers are among them.
--   Rise ns                 each is less than all after it
use Rattle.std.proofs.Common.{◌≡◌, ◌∙◌, ◌⊎◌, inl, inr, ℕ, ◌<◌, List, [], ◌∷◌, refl, sym, ap, subst, arith}
use Rattle.std.specs.List.{IsAmong}
use Rattle.std.specs.Ordering.{nat_cmp}
use Rattle.std.specs.declared.cmp.Ordering.{Ordering}
use Rattle.std.specs.declared.cmp.Ordering.TheVariants.{Less, Equal, Greater}
use Rattle.std.specs.Cmp.{nat_cmp_is}
use Rattle.std.proofs.lemmas.Bool.{cases_lt, cases_eq}
use Rattle.pungi_shape.specs.Named.{in_order, put_by, put_number, put_numbers}
use Rattle.pungi_shape.proofs.NamedLemmas.{in_order_is}
use Rattle.pungi_shape.proofs.sound.InOrder.{numbers_have, numbers_only}
use Rattle.pungi_shape.proofs.sound.Members.{first_among, later_among, nothing_in, one_of}

abbrev Rise : List ℕ → Type 0
Rise [] = Unit {0}
Rise (n ∷ ns) = ((m : ℕ) → IsAmong ns m → n < m) × Rise ns

less-lt : (n k : ℕ) → nat_cmp n k ≡ Less → n < k
less-lt n k e = elim (cases_lt n k) [
  | inl lt ↦ lt
  | inr le ↦ elim (cases_eq n k) [
    | inl same ↦ let h : Equal ≡ nat_cmp n k = nat_cmp_is n k Equal same in absurd (cc)
    | inr differ ↦
        let h : Greater ≡ nat_cmp n k = nat_cmp_is n k Greater (omega (arith, le, differ)) in absurd (cc)
  ]
]

greater-lt : (n k : ℕ) → nat_cmp n k ≡ Greater → k < n
greater-lt n k e = elim (cases_lt k n) [
  | inl lt ↦ lt
  | inr le ↦ elim (cases_eq n k) [
    | inl same ↦ let h : Equal ≡ nat_cmp n k = nat_cmp_is n k Equal same in absurd (cc)
    | inr differ ↦ let h : Less ≡ nat_cmp n k = nat_cmp_is n k Less (omega (arith, le, differ)) in absurd (cc)
  ]
]

put-only : (n : ℕ) (ks : List ℕ) (m : ℕ) → IsAmong (put_number n ks) m → (m ≡ n) ⊎ IsAmong ks m
put-only n [] m there = one_of n [] m there
put-only n (k ∷ ks) m there = at (nat_cmp n k) there (put-only n ks m)
  where
    at : (o : Ordering) → IsAmong (put_by o (n ∷ k ∷ ks) (k ∷ ks) (k ∷ put_number n ks)) m
        → (IsAmong (put_number n ks) m → (m ≡ n) ⊎ IsAmong ks m) → (m ≡ n) ⊎ IsAmong (k ∷ ks) m
    at Less here rest = one_of n (k ∷ ks) m here
    at Equal here rest = inr here
    at Greater here rest = elim (one_of k (put_number n ks) m here) [
      | inl e ↦ inr (0, (omega arith, e))
      | inr later ↦ elim (rest later) [ inl e ↦ inl e | inr old ↦ inr (later_among k ks m old) ]
    ]

rise-put : (n : ℕ) (ks : List ℕ) → Rise ks → Rise (put_number n ks)
rise-put n [] rise = (λ m there. absurd (nothing_in m there), tt)
rise-put n (k ∷ ks) rise = at (nat_cmp n k) refl (rise-put n ks rise.1)
  where
    at : (o : Ordering) → nat_cmp n k ≡ o → Rise (put_number n ks)
        → Rise (put_by o (n ∷ k ∷ ks) (k ∷ ks) (k ∷ put_number n ks))
    at Less e rest =
        let lt : n < k = less-lt n k e in (
          λ m there. elim (one_of k ks m there) [
            | inl same ↦ omega (arith, lt, same)
            | inr later ↦ let more = rise.0 m later in omega (arith, lt, more)
          ],
          rise,
        )
    at Equal e rest = rise
    at Greater e rest =
        let lt : k < n = greater-lt n k e in (
          λ m there. elim (put-only n ks m there) [
            | inl same ↦ omega (arith, lt, same)
            | inr old ↦ rise.0 m old
          ],
          rest,
        )

put_numbers-rise : (ms : List ℕ) → Rise (put_numbers ms [])
put_numbers-rise [] = tt
put_numbers-rise (m ∷ ms) = rise-put m (put_numbers ms []) (put_numbers-rise ms)

rise-same : (ms ns : List ℕ) → Rise ms → Rise ns → ((k : ℕ) → IsAmong ms k → IsAmong ns k)
    → ((k : ℕ) → IsAmong ns k → IsAmong ms k) → ms ≡ ns
rise-same [] [] one two to from = refl
rise-same [] (n ∷ ns) one two to from = absurd (nothing_in n (from n (first_among n ns)))
rise-same (m ∷ ms) [] one two to from = absurd (nothing_in m (to m (first_among m ms)))
rise-same (m ∷ ms) (n ∷ ns) one two to from =
    let le : (m ≡ n) ⊎ (n < m) = elim (one_of n ns m (to m (first_among m ms))) [
      | inl e ↦ inl e
      | inr later ↦ inr (two.0 m later)
    ] in
    let ge : (n ≡ m) ⊎ (m < n) = elim (one_of m ms n (from n (first_among n ns))) [
      | inl e ↦ inl e
      | inr later ↦ inr (one.0 n later)
    ] in
    let same : m ≡ n = elim le [
      | inl e ↦ e
      | inr less ↦ elim ge [ inl e ↦ sym e | inr more ↦ absurd (omega (arith, less, more)) ]
    ] in
    ap (λ k. k ∷ ms) same
    ∙ ap (λ ks. n ∷ ks) (rise-same ms ns one.1 two.1
    (λ k there. elim (one_of n ns k (to k (later_among m ms k there))) [
      | inl e ↦ let lt = one.0 k there in absurd (omega (arith, lt, e, same))
      | inr later ↦ later
    ])
    (λ k there. elim (one_of m ms k (from k (later_among n ns k there))) [
      | inl e ↦ let lt = two.0 k there in absurd (omega (arith, lt, e, same))
      | inr later ↦ later
    ]))

pub same-in_order : (ms ns : List ℕ) → ((k : ℕ) → IsAmong ms k → IsAmong ns k)
    → ((k : ℕ) → IsAmong ns k → IsAmong ms k) → in_order ms ≡ in_order ns
same-in_order ms ns to from =
    rise-same (in_order ms) (in_order ns)
    (subst Rise (sym (in_order_is ms)) (put_numbers-rise ms))
    (subst Rise (sym (in_order_is ns)) (put_numbers-rise ns))
    (λ k there. numbers_have ns k (to k (numbers_only ms k there)))
    (λ k there. numbers_have ms k (from k (numbers_only ns k there)))
