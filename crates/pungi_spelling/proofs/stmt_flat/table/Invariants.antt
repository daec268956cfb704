use Rattle.std.proofs.Common.{◌≡◌, ◌++◌, drop}
use Rattle.pungi_tree.specs.Placed.{kinds}
use Rattle.pungi_spelling.proofs.stmt_flat.table.Given as goal

abbrev pub invariant-loop-t : goal.invariant-loop-t
invariant-loop-t l = l.out.items ++ kinds (drop l.t-index l.tokens.items) ≡ l.fn.out.items ++ kinds l.tokens.items
