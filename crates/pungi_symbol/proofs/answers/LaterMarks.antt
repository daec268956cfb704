-- The answers to a question by their numbers.
use Rattle.std.proofs.Common.{◌≡◌, ℕ, zero, suc, ◌-◌, ◌<◌, List, ◌∷◌, ap, arith}
use Rattle.pungi_symbol.specs.declared.states.mark.Mark.{Mark}
use Rattle.pungi_symbol.specs.states.Terms.{mark_at}

-- past the first answer the others count
pub mark_later : (m : Mark) (ms : List Mark) (k : ℕ) → 0 < k → mark_at ms (k - 1) ≡ mark_at (m ∷ ms) k
mark_later m ms zero h = absurd (omega (arith, h))
mark_later m ms (suc k) h = let e : suc k - 1 ≡ k = omega arith in ap (mark_at ms) e
