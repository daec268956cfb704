use Rattle.std.proofs.Common.{◌+◌, ◌≤◌, length, vec_len}
use Rattle.pungi_parse.specs.types.TypeReader.{texts}
use Rattle.pungi_tree.specs.Placed.{placed}
use Rattle.pungi_parse.proofs.tokens.WordLoops.{ReadTo}
use Rattle.pungi_parse.proofs.tokens.words.texts.Given as goal

abbrev pub invariant-loop-name : goal.invariant-loop-name
invariant-loop-name l =
    ReadTo texts (texts (placed l.fn.tokens)).0 (texts (placed l.fn.tokens)).1 l.names.items (placed l.rest)
    × (vec_len l.names + length l.rest ≤ length l.fn.tokens)

abbrev pub decreases-loop-name : goal.decreases-loop-name
decreases-loop-name l = length l.rest
