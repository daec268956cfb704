use Rattle.std.proofs.Common.{◌≡◌, ◌+◌, ◌≤◌, length, string_cmp}
use Rattle.std.specs.List.Sorted.{IsStrictlySortedBy}
use Rattle.std.specs.Map.{keys_of}
use Rattle.toml.specs.View.{table_view, members_view}
use Rattle.pungi_base.specs.Names.{Extends}
use Rattle.pungi_config.specs.Limits.{convention_limit}
use Rattle.pungi_config.specs.Configuration.{read_conventions, with_names, functions_in}
use Rattle.pungi_config.proofs.NewRows.{AreBefore}
use Rattle.pungi_config.proofs.ReadAfter.{after}
use Rattle.pungi_config.proofs.configuration.read_conventions.Given as goal

abbrev pub invariant-loop-name : goal.invariant-loop-name
invariant-loop-name l = record {
  can_next : (goal.iterator-loop-name).can_next l.name-iterator;
  ends : (goal.iterator-loop-name).is_finite l.name-iterator;
  read : after l.terms.conventions
      (read_conventions l.table (functions_in (table_view l.members)) l.names (members_view l.name-iterator))
      ≡ read_conventions l.table (functions_in (table_view l.members)) l.fn.names (table_view l.conventions);
  profile : l.terms.profile ≡ l.fn.terms.profile;
  named : with_names l.names (members_view l.name-iterator) ≡ with_names l.fn.names (table_view l.conventions);
  grown : Extends l.fn.names l.names;
  few : length l.names + length l.name-iterator ≤ length l.fn.names + convention_limit;
  sorted : IsStrictlySortedBy string_cmp (keys_of l.name-iterator);
  before : AreBefore l.names (keys_of l.name-iterator) l.terms.conventions;
}
