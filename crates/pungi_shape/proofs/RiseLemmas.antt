-- Lists that rise in a total order: the number of an item is where it stands; and a list whose items are all in another
-- is no longer than that.
use Rattle.std.proofs.Common.{◌≡◌, ◌∙◌, inl, inr, ℕ, zero, suc, ◌<◌, ◌≤◌, List, [], ◌∷◌, length, get_or, sym, ap}
use Rattle.std.proofs.Common.{arith}
use Rattle.std.specs.List.{All, IsAmong, position_or_len}
use Rattle.std.specs.Cmp.{IsTotalOrder}
use Rattle.std.specs.Ordering.{is_eq, ordering_reverse}
use Rattle.std.specs.declared.cmp.Ordering.{Ordering}
use Rattle.std.specs.declared.cmp.Ordering.TheVariants.{Less, Greater}
use Rattle.std.proofs.lemmas.Bool.{cases_lt}
use Rattle.std.proofs.lemmas.Cmp.{lists_total, nat_list_cmp_total, on_total, tied_itself}
use Rattle.std.proofs.lemmas.List.{get_or_default}
use Rattle.std.proofs.lemmas.List.Sums.{position_or_len_is}
use Rattle.pungi_shape.specs.Places.{numbers_of_place, place_cmp}
use Rattle.pungi_shape.specs.Programs.{exit_cmp, Rises}
use Rattle.pungi_shape.specs.Shapes.{numbers_of_shape}

pub place-total : IsTotalOrder place_cmp
place-total = on_total numbers_of_place (lists_total nat_list_cmp_total)

pub exit-total : IsTotalOrder exit_cmp
exit-total = on_total numbers_of_shape nat_list_cmp_total

as-long : {A : Type 0} (xs ys : List A) → ((i : ℕ) → A → i < length xs → i < length ys) → length xs ≤ length ys
as-long [] ys h = omega arith
as-long (x ∷ xs) ys h = let lt = h (length xs) x (omega arith) in omega (arith, lt)

module _ {A : Type 0} (R : A → A → Ordering) (total : IsTotalOrder R) where
  pub rises-number : (xs : List A) → Rises R xs → (x : A) → (there : IsAmong xs x)
      → position_or_len (λ y. is_eq (R x y)) xs ≡ there.0
  rises-number xs rise x there =
      let i = there.0 in
      let lt = there.1.0 in
      position_or_len_is (λ y. is_eq (R x y)) xs i x (omega (arith, lt))
      (λ k below.
      let before : R (get_or xs k x) x ≡ Less = ap (R (get_or xs k x)) there.1.1 ∙ rise k i x below lt in
      ap is_eq (total.antisymm x (get_or xs k x) ∙ ap ordering_reverse before))
      (λ _. ap is_eq (ap (R x) (sym there.1.1) ∙ tied_itself total x))

  pub no-loop : (x y : A) → R x y ≡ Less → R y x ≡ Less → ⊥
  no-loop x y this that =
      let bad : Less ≡ Greater = sym this ∙ total.antisymm x y ∙ ap ordering_reverse that in absurd (cc)

  module _ (xs ys : List A) (rise : Rises R xs) (others : Rises R ys) (all : All (IsAmong ys) xs) where
    pub at-most : (i : ℕ) (d : A) (lt : i < length xs) → i ≤ (all i d lt).0
    at-most zero d lt = omega arith
    at-most (suc i) d lt =
        let before : i < length xs = omega (arith, lt) in
        let j = all i d before in
        let k = all (suc i) d lt in
        let below = at-most i d before in
        let this : get_or xs i d ≡ get_or ys j.0 d = j.1.1 ∙ get_or_default ys j.0 (get_or xs i d) d j.1.0 in
        let that : get_or xs (suc i) d ≡ get_or ys k.0 d =
        k.1.1 ∙ get_or_default ys k.0 (get_or xs (suc i) d) d k.1.0 in
        let less : R (get_or ys j.0 d) (get_or ys k.0 d) ≡ Less =
        ap (λ z. R z (get_or ys k.0 d)) (sym this) ∙ ap (R (get_or xs i d)) (sym that)
        ∙ rise i (suc i) d (omega arith) lt in
        elim (cases_lt j.0 k.0) [
          | inl after ↦ omega (arith, below, after)
          | inr le ↦ elim (cases_lt k.0 j.0) [
            | inl back ↦
                absurd (no-loop (get_or ys j.0 d) (get_or ys k.0 d) less (others k.0 j.0 d back j.1.0))
            | inr ge ↦
                let same : j.0 ≡ k.0 = omega (arith, le, ge) in
                let tied : R (get_or ys k.0 d) (get_or ys k.0 d) ≡ Less =
                ap (λ n. R (get_or ys n d) (get_or ys k.0 d)) (sym same) ∙ less in
                absurd (no-loop (get_or ys k.0 d) (get_or ys k.0 d) tied tied)
          ]
        ]

    pub rises-shorter : length xs ≤ length ys
    rises-shorter =
        as-long xs ys
        (λ i d lt. let le = at-most i d lt in let below = (all i d lt).1.0 in omega (arith, le, below))
