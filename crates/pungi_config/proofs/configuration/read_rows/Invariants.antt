use Rattle.std.proofs.Common.{◌≡◌, ◌+◌, ◌≤◌, length, map, string_cmp, IsTrue}
use Rattle.std.specs.List.Sorted.{IsStrictlySortedBy}
use Rattle.std.specs.Map.{keys_of}
use Rattle.toml.specs.View.{table_view, members_view}
use Rattle.pungi_api.specs.Rows.{named_row, are_new}
use Rattle.pungi_base.specs.Names.{Extends}
use Rattle.pungi_config.specs.Limits.{row_limit}
use Rattle.pungi_config.specs.Configuration.{read_rows, with_names}
use Rattle.pungi_config.proofs.NewRows.{AreBefore}
use Rattle.pungi_config.proofs.ReadAfter.{after}
use Rattle.pungi_config.proofs.configuration.read_rows.Given as goal

abbrev pub invariant-loop-name : goal.invariant-loop-name
invariant-loop-name l = record {
  can_next : (goal.iterator-loop-name).can_next l.name-iterator;
  ends : (goal.iterator-loop-name).is_finite l.name-iterator;
  rows : after (map named_row l.rows.items) (read_rows l.table l.names (members_view l.name-iterator))
      ≡ read_rows l.table l.fn.names (table_view l.functions);
  named : with_names l.names (members_view l.name-iterator) ≡ with_names l.fn.names (table_view l.functions);
  grown : Extends l.fn.names l.names;
  few : length l.names + length l.name-iterator ≤ length l.fn.names + row_limit;
  sorted : IsStrictlySortedBy string_cmp (keys_of l.name-iterator);
  before : AreBefore l.names (keys_of l.name-iterator) (map named_row l.rows.items);
  new : IsTrue (are_new l.table (map named_row l.rows.items));
}
