use Rattle.std.proofs.Common.{◌≡◌, ℕ, drop, map, option_map, nat_eq}
use Rattle.indexmap.specs.IndexMap.{get}
use Rattle.pungi_api.specs.Rows.{row_in}
use Rattle.pungi_names.specs.First.{or_first}
use Rattle.pungi_names.specs.RowsView.{call_view, row_seen, entry_view}
use Rattle.pungi_names.proofs.rows.note_rows.Given as goal

abbrev pub invariant-loop-entry : goal.invariant-loop-entry
invariant-loop-entry l =
    (w : ℕ) → or_first (option_map call_view (get nat_eq l.calls w)) (option_map row_seen
    (row_in (map entry_view (drop l.entry-index l.entries.items)) w))
    ≡ or_first (option_map call_view (get nat_eq l.fn.calls w)) (option_map row_seen
    (row_in (map entry_view l.entries.items) w))
