use Rattle.std.proofs.Common.{◌≡◌, ◌++◌}
use Rattle.pungi_tree.specs.Tokens.{consts_flat}
use Rattle.pungi_spelling.proofs.tokens.put_consts.Given as goal

abbrev pub invariant-loop : goal.invariant-loop
invariant-loop l = l.out.items ≡ l.fn.out.items ++ consts_flat l.counter
