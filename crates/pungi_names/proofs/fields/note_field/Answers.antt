use Rattle.std.proofs.Common.{◌∙◌, sym, ap, nat_eq}
use Rattle.indexmap.specs.IndexMap.{get}
use Rattle.pungi_tree.specs.ExprView.{field_view}
use Rattle.pungi_tree.specs.UnitView.{unit_view}
use Rattle.pungi_names.specs.StructsView.{field_or, kept_or}
use Rattle.pungi_names.proofs.SpecLemmas.{field_view-members}
use Rattle.pungi_names.proofs.fields.note_field.Goals as goal

pub returns-in_ok-note_declrs-in-Members : goal.returns-in_ok-note_declrs-in-Members
returns-in_ok-note_declrs-in-Members c =
    let file = unit_view c.args.kinds.now.cores.unit.now in
    λ w r.
    c.in_ok-note_declrs-in-Members.ensures w r
    ∙ ap (λ f. kept_or (get nat_eq c.args.fields.now w) (field_or file f w r))
    (sym (ap field_view c.in-Members.is ∙ field_view-members _ c.in-Members.spec c.in-Members.declrs))
