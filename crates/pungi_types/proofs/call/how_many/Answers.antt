use Rattle.std.proofs.Common.{sym}
use Rattle.pungi_tree.specs.ExprView.{expr_view}
use Rattle.pungi_types.proofs.ArgumentLemmas.{counted_exprs}
use Rattle.pungi_types.proofs.call.how_many.Goals as goal

pub returns : goal.returns
returns c = sym (counted_exprs expr_view c.args.list.now)
