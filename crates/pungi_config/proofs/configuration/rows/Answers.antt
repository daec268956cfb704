use Rattle.std.proofs.Common.{sym, ap, ◌∙◌, map}
use Rattle.toml.specs.View.{table_view}
use Rattle.pungi_api.specs.Rows.{named_row}
use Rattle.pungi_config.specs.Wrong.{config_read}
use Rattle.pungi_config.proofs.PlainRows.{members_plain}
use Rattle.pungi_config.proofs.configuration.rows.Goals as goal

pub returns-in-Ok-2-clause-plain : goal.returns-in-Ok-2-clause-plain
returns-in-Ok-2-clause-plain c =
    let config = c.in-Ok-2.config in
    members_plain (table_view c.in-Ok.members) c.args.table.now c.args.names.now (map named_row config.rows.items)
    config.terms (sym c.in_ok-config.ensures.config ∙ ap config_read c.in-Ok-2.is)
