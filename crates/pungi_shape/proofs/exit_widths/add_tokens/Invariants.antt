use Rattle.std.proofs.Common.{◌≡◌, ◌++◌, ℕ, List, take}
use Rattle.pungi_shape.specs.Shapes.{distinct, tokens_in}
use Rattle.pungi_shape.proofs.exit_widths.add_tokens.Given as goal

abbrev pub invariant-loop-holding : goal.invariant-loop-holding
invariant-loop-holding l =
    (seen : List ℕ) → l.fn.tokens.items ≡ distinct seen
    → l.tokens.items ≡ distinct (seen ++ tokens_in (take l.holding-index l.holdings))
