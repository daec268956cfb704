use Rattle.std.proofs.Common.{◌≡◌, ◌++◌, drop, map, IsTrue}
use Rattle.pungi_api.specs.Rows.{plain_row, are_new}
use Rattle.pungi_api.proofs.table.add_plain.Given as goal

abbrev pub invariant-loop-row : goal.invariant-loop-row
invariant-loop-row l = record {
  new : IsTrue (are_new l.rows.entries (map plain_row (drop l.row-index l.plain)));
  so_far : l.rows.entries ++ map plain_row (drop l.row-index l.plain) ≡ l.fn.rows.entries ++ map plain_row l.plain;
}
