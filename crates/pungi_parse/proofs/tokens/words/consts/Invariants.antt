use Rattle.std.proofs.Common.{◌≤◌, length}
use Rattle.pungi_parse.specs.types.TypeReader.{consts}
use Rattle.pungi_tree.specs.Placed.{placed}
use Rattle.pungi_parse.proofs.tokens.WordLoops.{CountTo}
use Rattle.pungi_parse.proofs.tokens.words.consts.Given as goal

abbrev pub invariant-loop-after : goal.invariant-loop-after
invariant-loop-after l =
    CountTo (consts (placed l.fn.tokens)).0 (consts (placed l.fn.tokens)).1 l.count (placed l.rest)
    × (length l.rest ≤ length l.fn.tokens)

abbrev pub decreases-loop-after : goal.decreases-loop-after
decreases-loop-after l = length l.rest
