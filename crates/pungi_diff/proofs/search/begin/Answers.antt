use Rattle.std.proofs.Common.{◌∙◌, arith, pos}
use Rattle.std.proofs.lemmas.Int.{ints}
use Rattle.std.proofs.lemmas.List.{get_or-set_same}
use Rattle.pungi_diff.proofs.search.begin.Goals as goal

pub returns-clause-first : goal.returns-clause-first
returns-clause-first c =
    get_or-set_same c.clear_gaps.new.gap c.args.new.now.x _ (pos 0) (omega arith) ∙ omega (arith, ints)
