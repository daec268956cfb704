use Rattle.std.proofs.Common.{◌∙◌, ℕ, zero, suc, ◌<◌, ℤ, pos, List, [], ◌∷◌, ◌++◌, arith, ap, subst, sym}
use Rattle.std.specs.Prelude.{eqb}
use Rattle.std.specs.List.{All, IsDistinct}
use Rattle.pungi_domain.specs.Vectors.{IsMatrix, IsMatrixRow}
use Rattle.pungi_tests.proofs.affine_tests.identity.Goals as goal

once : (i : ℕ) → IsDistinct eqb (i ∷ [])
unfolding IsDistinct
once i = (tt, tt)

within : (i : ℕ) → i < 3 → All (λ (p : ℕ × ℤ). p.0 < 3) ((i, pos 1) ∷ [])
within i lt zero d h = lt
within i lt (suc k) d h = absurd (omega (arith, h))

row : (i : ℕ) → i < 3 → IsMatrixRow 3 ((i, pos 1) ∷ [])
row i lt = record { within = within i lt; once = once i }

rows : IsMatrix 3 (((0, pos 1) ∷ []) ∷ ((1, pos 1) ∷ []) ∷ ((2, pos 1) ∷ []) ∷ [])
rows zero d h = row 0 (omega arith)
rows (suc zero) d h = row 1 (omega arith)
rows (suc (suc zero)) d h = row 2 (omega arith)
rows (suc (suc (suc k))) d h = absurd (omega (arith, h))

pub returns-clause-matrix : goal.returns-clause-matrix
returns-clause-matrix c =
    let none = c.new-2.ensures ∙ c.new.ensures.items in
    let first = c.in_ok-first.ensures ∙ ap (λ (xs : List (List (ℕ × ℤ))). xs ++ ((0, pos 1) ∷ []) ∷ []) none in
    let second = c.in_ok-second.ensures ∙ ap (λ (xs : List (List (ℕ × ℤ))). xs ++ ((1, pos 1) ∷ []) ∷ []) first in
    let third = c.in_ok-rows.ensures ∙ ap (λ (xs : List (List (ℕ × ℤ))). xs ++ ((2, pos 1) ∷ []) ∷ []) second in
    subst (λ (xs : List (List (ℕ × ℤ))). IsMatrix 3 xs) (sym third) rows
