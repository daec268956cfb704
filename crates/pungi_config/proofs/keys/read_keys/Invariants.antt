use Rattle.std.proofs.Common.{◌≡◌}
use Rattle.toml.specs.View.{table_view, members_view}
use Rattle.pungi_config.specs.Keys.{read_keys, empty_row}
use Rattle.pungi_config.proofs.keys.read_keys.Given as goal

abbrev pub invariant-loop-key : goal.invariant-loop-key
invariant-loop-key l = record {
  can_next : (goal.iterator-loop-key).can_next l.key-iterator;
  ends : (goal.iterator-loop-key).is_finite l.key-iterator;
  left : read_keys l.row (members_view l.key-iterator) ≡ read_keys empty_row (table_view l.keys);
}
