use Rattle.pungi_config.proofs.Counts.{table_within_is}
use Rattle.pungi_config.proofs.configuration.is_table_within.Goals as goal

pub returns-in-Some : goal.returns-in-Some
returns-in-Some c =
    table_within_is c.args.limit _ c.in-Some.members.now.entries c.len.result c.in-Some.ensures c.len.ensures.len
