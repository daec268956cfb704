use Rattle.std.proofs.Common.{◌≡◌, map, take}
use Rattle.pungi_names.specs.RowsView.{entry_view}
use Rattle.pungi_names.proofs.rows.put_rows.Given as goal

abbrev pub invariant-loop-at : goal.invariant-loop-at
invariant-loop-at l = map entry_view l.entries.items ≡ take l.at l.rows
