use Rattle.std.proofs.Common.{◌∷◌, [], ◌∙◌, arith}
use Rattle.pungi_symbol.proofs.answers.LaterMarks.{mark_later}
use Rattle.pungi_symbol.proofs.answers.outcomes.one_of_three.Goals as goal

pub returns-else-k-eq0 : goal.returns-else-k-eq0
returns-else-k-eq0 c = c.one_of_two.ensures ∙ mark_later c.args.a (c.args.b ∷ c.args.c ∷ []) c.args.k (omega arith)
