use Rattle.std.proofs.Common.{◌∙◌, ap}
use Rattle.std.specs.Prelude.{option_map}
use Rattle.pungi_tree.specs.ExprView.{expr_view}
use Rattle.pungi_types.proofs.FormatLemmas.{arg_at-exprs, lent_item, seen_copied}
use Rattle.pungi_types.proofs.formats.arg_at.Goals as goal

pub returns : goal.returns
returns c =
    seen_copied expr_view c.get.result
    ∙ ap (option_map expr_view) (lent_item c.args.list.now c.args.place c.get.result c.get.ensures.lookup)
    ∙ arg_at-exprs expr_view c.args.place c.args.list.now
