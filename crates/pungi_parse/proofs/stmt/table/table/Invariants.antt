use Rattle.std.proofs.Common.{◌≡◌, ◌≤◌, [], length}
use Rattle.pungi_parse.specs.stmt.StmtReader.{table_in}
use Rattle.pungi_parse.specs.stmt.Table.{with_tokens}
use Rattle.pungi_tree.specs.Placed.{placed}
use Rattle.pungi_parse.proofs.stmt.table.table.Given as goal

abbrev pub invariant-each : goal.invariant-each
invariant-each l = record {
  goes_on : with_tokens l.found.items (table_in l.awaited (placed l.rest)) ≡ table_in [] (placed l.fn.tokens);
  shorter : length l.rest ≤ length l.fn.tokens;
}

abbrev pub decreases-each : goal.decreases-each
decreases-each l = length l.rest
