use Rattle.std.proofs.Common.{◌<◌, length, sym, ap, arith}
use Rattle.pungi_tree.specs.ExprView.{expr_view}
use Rattle.pungi_resolve.specs.Outputs.{number_in_front}
use Rattle.pungi_resolve.proofs.OperandLemmas.{none_third}
use Rattle.pungi_resolve.proofs.outputs.least_items.Goals as goal

pub returns-in_default : goal.returns-in_default
returns-in_default c =
    let short : length c.args.list.now < 3 = omega arith in
    sym (ap number_in_front (none_third expr_view c.args.list.now short))
