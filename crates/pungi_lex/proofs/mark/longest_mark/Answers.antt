use Rattle.pungi_lex.proofs.MarkLemmas.{mark_is}
use Rattle.pungi_lex.proofs.mark.longest_mark.Goals as goal

pub returns-clause-longest : goal.returns-clause-longest
returns-clause-longest c =
    mark_is c.mark_found.result c.args.text.now c.mark_found.ensures.mark c.mark_found.ensures.spelled
    c.mark_found.ensures.some
