use Rattle.std.proofs.Common.{◌≡◌, ◌++◌, take}
use Rattle.pungi_tree.specs.Tokens.{keys_flat}
use Rattle.pungi_spelling.proofs.tokens.put_keys.Given as goal

abbrev pub invariant-loop-key : goal.invariant-loop-key
invariant-loop-key l = l.out.items ≡ l.fn.out.items ++ keys_flat (take l.key-index l.keys)
