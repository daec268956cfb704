use Rattle.std.proofs.Common.{◌≡◌, ◌≤◌, List, ◌∷◌, length}
use Rattle.pungi_base.specs.declared.punct.Punct.{Punct}
use Rattle.pungi_tree.specs.Balanced.{closes}
use Rattle.pungi_spelling.proofs.balanced.+after_group.Given as goal

abbrev pub decreases-after_group : goal.decreases-after_group
decreases-after_group l = length l.tokens.now

abbrev pub decreases-loop-token : goal.decreases-loop-token
decreases-loop-token l = length l.rest

abbrev pub invariant-loop-token : goal.invariant-loop-token
invariant-loop-token l =
    (length l.rest ≤ length l.tokens) × ((awaited : List Punct)
    → closes l.rest (l.close ∷ awaited) ≡ closes l.tokens (l.close ∷ awaited))
