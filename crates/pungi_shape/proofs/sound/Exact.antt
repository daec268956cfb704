-- Lists that compare as equal are one.
--   IsExact R               what compares as equal is one
use Rattle.std.proofs.Common.{◌≡◌, [], ◌∷◌, refl, ap, ◌∙◌}
use Rattle.std.specs.Ordering.{ordering_then}
use Rattle.std.specs.Cmp.Lexicographic.{slice_cmp}
use Rattle.std.specs.declared.cmp.Ordering.{Ordering}
use Rattle.std.specs.declared.cmp.Ordering.TheVariants.{Less, Equal, Greater}

abbrev pub IsExact : {K : Type 0} → (K → K → Ordering) → Type 0
IsExact {K} R = (x y : K) → R x y ≡ Equal → x ≡ y

pub then_equal : (o p : Ordering) → ordering_then o p ≡ Equal → (o ≡ Equal) × (p ≡ Equal)
then_equal Less p e = absurd (cc)
then_equal Equal p e = (refl, e)
then_equal Greater p e = absurd (cc)

pub exact_lists : {K : Type 0} (R : K → K → Ordering) → IsExact R → IsExact (slice_cmp R)
exact_lists R exact [] [] e = refl
exact_lists R exact [] (y ∷ ys) e = absurd (cc)
exact_lists R exact (x ∷ xs) [] e = absurd (cc)
exact_lists R exact (x ∷ xs) (y ∷ ys) e =
    let both = then_equal (R x y) (slice_cmp R xs ys) e in
    ap (λ z. z ∷ xs) (exact x y both.0) ∙ ap (λ zs. y ∷ zs) (exact_lists R exact xs ys both.1)
