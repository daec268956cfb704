use Rattle.std.proofs.Common.{◌≡◌, ◌++◌, drop, map, IsTrue}
use Rattle.pungi_api.specs.Rows.{special_row, are_new}
use Rattle.pungi_api.proofs.table.add_special.Given as goal

abbrev pub invariant-loop-row : goal.invariant-loop-row
invariant-loop-row l = record {
  new : IsTrue (are_new l.rows.entries (map special_row (drop l.row-index l.special)));
  so_far : l.rows.entries ++ map special_row (drop l.row-index l.special)
      ≡ l.fn.rows.entries ++ map special_row l.special;
}
