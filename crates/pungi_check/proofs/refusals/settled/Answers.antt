use Rattle.std.proofs.Common.{ap, sym, ◌∙◌}
use Rattle.pungi_names.specs.NamesView.{file_of}
use Rattle.pungi_types.specs.TypesView.{definition_view}
use Rattle.pungi_check.specs.Graph.{Node}
use Rattle.pungi_check.proofs.CallsNone.{alone-settled, none-of}
use Rattle.pungi_check.proofs.refusals.settled.Goals as goal

pub returns-then-is_empty : goal.returns-then-is_empty
returns-then-is_empty c =
    ap (λ (n : Node). n.alone) c.requires
    ∙ alone-settled (file_of c.args.names.now) c.args.refused.now.keys (definition_view c.args.f.now)
    (sym (ap (λ (n : Node). n.calls) c.requires) ∙ none-of c.args.node.now.callees c.if-is_empty.ensures)
