use Rattle.std.proofs.Common.{◌∷◌, ◌≤◌, length}
use Rattle.pungi_parse.specs.types.TypeReader.{keywords}
use Rattle.pungi_tree.specs.Operators.{is_base_word}
use Rattle.pungi_tree.specs.Placed.{placed}
use Rattle.pungi_parse.proofs.tokens.WordLoops.{ReadTo}
use Rattle.pungi_parse.proofs.tokens.words.base_words.Given as goal

abbrev pub invariant-loop-key : goal.invariant-loop-key
invariant-loop-key l =
    ReadTo (keywords is_base_word) (l.fn.first ∷ (keywords is_base_word (placed l.fn.tokens)).0)
    (keywords is_base_word (placed l.fn.tokens)).1 l.keys.items (placed l.rest)
    × (length l.rest ≤ length l.fn.tokens)

abbrev pub decreases-loop-key : goal.decreases-loop-key
decreases-loop-key l = length l.rest
