use Rattle.std.proofs.Common.{◌≡◌, ◌++◌, ℕ, List, map, take}
use Rattle.pungi_shape.specs.Shapes.{distinct, holding_of_static, tokens_in}
use Rattle.pungi_shape.proofs.exit_widths.add_static_tokens.Given as goal

abbrev pub invariant-loop-holding : goal.invariant-loop-holding
invariant-loop-holding l =
    (seen : List ℕ) → l.fn.tokens.items ≡ distinct seen
    → l.tokens.items ≡ distinct (seen ++ tokens_in (map holding_of_static (take l.holding-index l.statics)))
