use Rattle.std.proofs.Common.{◌≡◌}
use Rattle.toml.specs.View.{table_view, members_view}
use Rattle.pungi_api.specs.Terms.{nothing_declared}
use Rattle.pungi_config.specs.Conventions.{read_convention_keys}
use Rattle.pungi_config.proofs.conventions.read_convention_keys.Given as goal

abbrev pub invariant-loop-key : goal.invariant-loop-key
invariant-loop-key l = record {
  can_next : (goal.iterator-loop-key).can_next l.key-iterator;
  ends : (goal.iterator-loop-key).is_finite l.key-iterator;
  left : read_convention_keys l.convention (members_view l.key-iterator)
      ≡ read_convention_keys nothing_declared (table_view l.keys);
}
