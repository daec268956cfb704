use Rattle.std.proofs.Common.{◌≡◌}
use Rattle.toml.specs.View.{table_view, members_view}
use Rattle.pungi_config.specs.Configuration.{wrong_top}
use Rattle.pungi_config.proofs.configuration.wrong_top.Given as goal

abbrev pub invariant-loop-key : goal.invariant-loop-key
invariant-loop-key l = record {
  can_next : (goal.iterator-loop-key).can_next l.key-iterator;
  ends : (goal.iterator-loop-key).is_finite l.key-iterator;
  left : wrong_top (members_view l.key-iterator) ≡ wrong_top (table_view l.members);
}
