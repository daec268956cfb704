use Rattle.std.proofs.Common.{ap}
use Rattle.std.specs.Prelude.{is_some}
use Rattle.pungi_symbol.proofs.runs.Models.{no_table_at_all}
use Rattle.pungi_symbol.proofs.runs.numbers.model_of.Goals as goal

pub returns-in-None : goal.returns-in-None
returns-in-None c = no_table_at_all c.args.state.now (c.in_ok-solved.ensures.none (ap is_some c.in-None.is))
