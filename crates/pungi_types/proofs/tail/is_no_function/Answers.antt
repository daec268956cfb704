use Rattle.std.proofs.Common.{◌∙◌, sym, ap}
use Rattle.pungi_types.specs.Names.{is_no_function}
use Rattle.pungi_tree.specs.ExprView.{tail_view}
use Rattle.pungi_types.proofs.TailLemmas.{declr_tail-view, tail_view-sizes}
use Rattle.pungi_types.proofs.tail.is_no_function.Goals as goal

pub returns-in-Sizes : goal.returns-in-Sizes
returns-in-Sizes c =
    sym (ap is_no_function (declr_tail-view c.args.declr.now ∙ ap tail_view c.in-Sizes.is
    ∙ tail_view-sizes c.in-Sizes.field-0))
