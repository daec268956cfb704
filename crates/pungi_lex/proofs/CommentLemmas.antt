-- How long the pieces are that go to an end.
use Rattle.std.specs.Prelude.{codes}
use Rattle.std.proofs.Common.{◌≡◌, ℕ, zero, suc, ◌+◌, ◌<◌, false, List, [], ◌∷◌, length, drop, Option, Some, None, refl}
use Rattle.std.proofs.Common.{ap, ◌∙◌, arith}
use Rattle.pungi_lex.specs.Bytes.{begins_with}
use Rattle.pungi_lex.specs.Comment.{close_count}
use Rattle.pungi_lex.specs.Lengths.{add_to}

pub add_twice : (a b : ℕ) (n : Option ℕ) → add_to a (add_to b n) ≡ add_to (a + b) n
add_twice a b None = refl
add_twice a b (Some n) = ap Some (omega arith)

close_drop : (i : ℕ) (text : List ℕ) → i < length text → begins_with (codes "*/") (drop i text) ≡ false
    → close_count (drop i text) ≡ add_to 1 (close_count (drop (suc i) text))
close_drop i [] h other = absurd (omega arith)
close_drop zero (b ∷ text) h other = rw other refl
close_drop (suc i) (b ∷ text) h other = close_drop i text (omega arith) other

pub close_step : (i : ℕ) (text : List ℕ) → close_count text ≡ add_to i (close_count (drop i text)) → i < length text
    → begins_with (codes "*/") (drop i text) ≡ false
    → close_count text ≡ add_to (i + 1) (close_count (drop (i + 1) text))
close_step i text so_far h other =
    let next : suc i ≡ i + 1 = omega arith in
    so_far ∙ ap (add_to i) (close_drop i text h other) ∙ add_twice i 1 (close_count (drop (suc i) text))
    ∙ ap (λ (n : ℕ). add_to (i + 1) (close_count (drop n text))) next
