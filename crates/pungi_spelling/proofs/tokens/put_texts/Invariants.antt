use Rattle.std.proofs.Common.{◌≡◌, ◌++◌, take}
use Rattle.pungi_tree.specs.Tokens.{texts_flat}
use Rattle.pungi_spelling.proofs.tokens.put_texts.Given as goal

abbrev pub invariant-loop-text : goal.invariant-loop-text
invariant-loop-text l = l.out.items ≡ l.fn.out.items ++ texts_flat (take l.text-index l.texts)
