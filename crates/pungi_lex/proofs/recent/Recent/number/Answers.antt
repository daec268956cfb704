use Rattle.pungi_lex.proofs.NameLemmas.{numbered_stays}
use Rattle.pungi_lex.proofs.recent.Recent.number.Goals as goal

pub returns-in-Some-clause-ok : goal.returns-in-Some-clause-ok
returns-in-Some-clause-ok c = numbered_stays c.args.names.now c.in-Some.name.0 c.args.text.now c.in-Some.ensures
