use Rattle.std.proofs.Common.{codes, refl}
use Rattle.toml.specs.View.{table_view}
use Rattle.pungi_config.specs.Limits.{convention_limit}
use Rattle.pungi_config.proofs.Counts.{few_entries}
use Rattle.pungi_config.proofs.configuration.read_terms.Goals as goal

pub read_conventions-requires-clause-few : goal.read_conventions-requires-clause-few
read_conventions-requires-clause-few c =
    few_entries (codes "convention") convention_limit (table_view c.args.members.now) c.in-Some.conventions.now.entries (λ d. refl)
    c.requires.right c.in-Some.ensures
