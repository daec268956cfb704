use Rattle.std.proofs.Common.{◌≤◌, length}
use Rattle.pungi_parse.specs.types.TypeReader.{stars}
use Rattle.pungi_tree.specs.Placed.{placed}
use Rattle.pungi_parse.proofs.tokens.WordLoops.{ReadTo}
use Rattle.pungi_parse.proofs.tokens.words.stars.Given as goal

abbrev pub invariant-loop-after : goal.invariant-loop-after
invariant-loop-after l =
    ReadTo stars (stars (placed l.fn.tokens)).0 (stars (placed l.fn.tokens)).1 l.counts.items (placed l.rest)
    × (length l.rest ≤ length l.fn.tokens)

abbrev pub decreases-loop-after : goal.decreases-loop-after
decreases-loop-after l = length l.rest
