use Rattle.pungi_api.proofs.RowLemmas.{found_in_rows}
use Rattle.pungi_api.proofs.table.Table.row.Goals as goal

pub returns-clause-form : goal.returns-clause-form
returns-clause-form c =
    found_in_rows c.self.inside.rows.entries c.args.name.0 c.get.result c.self.invariant c.get.ensures.value
