use Rattle.std.proofs.Common.{◌∙◌, ℕ, zero, suc, ◌<◌, ◌^◌, ℤ, List, [], ◌∷◌, length, arith, subst, sym}
use Rattle.std.proofs.lemmas.Int.{to_z-of_z}
use mir.Syntax.{w128}
use Rattle.pungi_domain.specs.Vectors.{at, IsWithin}
use Rattle.pungi_tests.proofs.affine_tests.with.Goals as goal

three : (n : ℕ) (a b c : ℤ) → IsWithin n a → IsWithin n b → IsWithin n c → (i : ℕ) → i < 3
    → IsWithin n (at (a ∷ b ∷ c ∷ []) i)
three n a b c p q r zero lt = p
three n a b c p q r (suc zero) lt = q
three n a b c p q r (suc (suc zero)) lt = r
three n a b c p q r (suc (suc (suc i))) lt = absurd (omega (arith, lt))

pub add_vector-requires-clause-within : goal.add_vector-requires-clause-within
add_vector-requires-clause-within c =
    let e = rw (
      to_z-of_z w128 c.args.a c.ranges.a,
      to_z-of_z w128 c.args.b c.ranges.b,
      to_z-of_z w128 c.args.c
          c.ranges.c,
    ) at c.in_ok-vector.ensures.items in
    subst (λ (xs : List ℤ). (i : ℕ) → i < length xs → IsWithin (2 ^ 126) (at xs i))
    (sym (c.as_slice.ensures.value ∙ e)) (three (2 ^ 126) c.args.a c.args.b c.args.c c.requires.a c.requires.b
    c.requires.c)
