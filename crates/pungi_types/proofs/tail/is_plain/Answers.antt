use Rattle.std.proofs.Common.{◌∙◌, sym, ap}
use Rattle.pungi_types.specs.Files.{is_plain_tail}
use Rattle.pungi_tree.specs.ExprView.{tail_view}
use Rattle.pungi_types.proofs.TailLemmas.{declr_tail-view, tail_view-sizes}
use Rattle.pungi_types.proofs.tail.is_plain.Goals as goal

pub returns-in-Sizes : goal.returns-in-Sizes
returns-in-Sizes c =
    c.is_no_array.ensures ∙ sym (ap is_plain_tail (declr_tail-view c.args.declr.now ∙ ap tail_view c.in-Sizes.is
    ∙ tail_view-sizes c.in-Sizes.sizes))
