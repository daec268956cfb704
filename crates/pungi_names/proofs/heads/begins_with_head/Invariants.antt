use Rattle.std.proofs.Common.{◌≡◌, drop, map, Some}
use Rattle.pungi_tree.specs.ExprView.{field_view, fields_of}
use Rattle.pungi_tree.specs.UnitView.{unit_view}
use Rattle.pungi_types.specs.Kinds.{begins_with_head}
use Rattle.pungi_names.proofs.heads.begins_with_head.Given as goal

abbrev pub invariant-loop-field : goal.invariant-loop-field
invariant-loop-field l =
    begins_with_head (unit_view l.cores.unit.now) (Some (fields_of (map field_view
    (drop l.field-index l.fields.items))))
    ≡ begins_with_head (unit_view l.cores.unit.now) (Some (fields_of (map field_view l.fields.items)))
