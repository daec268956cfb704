use Rattle.std.proofs.Common.{◌≡◌, drop}
use Rattle.pungi_tree.specs.Operators.{all_keys, is_base_word}
use Rattle.pungi_spelling.proofs.operators.base_words.Given as goal

abbrev pub invariant-loop-key : goal.invariant-loop-key
invariant-loop-key l = all_keys is_base_word (drop l.key-index l.keys.items) ≡ all_keys is_base_word l.keys.items
