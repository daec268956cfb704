use Rattle.std.proofs.Common.{codes, refl}
use Rattle.toml.specs.View.{table_view}
use Rattle.pungi_config.specs.Limits.{row_limit}
use Rattle.pungi_config.proofs.Counts.{few_entries}
use Rattle.pungi_config.proofs.configuration.read_functions.Goals as goal

pub read_rows-requires-clause-few : goal.read_rows-requires-clause-few
read_rows-requires-clause-few c =
    few_entries (codes "function") row_limit (table_view c.args.members.now) c.in-Some.functions.now.entries (λ d. refl)
    c.requires.right c.in-Some.ensures
