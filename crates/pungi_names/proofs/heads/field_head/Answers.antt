use Rattle.std.proofs.Common.{◌∙◌, sym, ap, map, Some}
use Rattle.pungi_tree.specs.ExprView.{field_view, declr_view, declrs_of}
use Rattle.pungi_tree.specs.UnitView.{unit_view}
use Rattle.pungi_types.specs.Kinds.{is_head}
use Rattle.pungi_names.specs.StructsView.{field_head, first_declr}
use Rattle.pungi_names.proofs.SpecLemmas.{spec_base-view, field_view-members}
use Rattle.pungi_names.proofs.heads.field_head.Goals as goal

pub returns-in-Members : goal.returns-in-Members
returns-in-Members c =
    let file = unit_view c.args.cores.now.unit.now in
    let ds = c.in-Members.declrs in
    ap Some (c.is_first_head.ensures ∙ ap (λ b. is_head file (first_declr b (declrs_of (map declr_view ds.items))))
    (sym (spec_base-view c.in-Members.spec)))
    ∙ sym (ap (field_head file) (ap field_view c.in-Members.is ∙ field_view-members _ c.in-Members.spec ds))
