use Rattle.std.proofs.Common.{◌≡◌, drop}
use Rattle.pungi_tree.specs.Operators.{all_keys, is_qualifier}
use Rattle.pungi_spelling.proofs.operators.qualifiers.Given as goal

abbrev pub invariant-loop-key : goal.invariant-loop-key
invariant-loop-key l = all_keys is_qualifier (drop l.key-index l.keys.items) ≡ all_keys is_qualifier l.keys.items
