use Rattle.std.proofs.Common.{◌≡◌, ℕ, drop, map, nat_eq}
use Rattle.indexmap.specs.IndexMap.{get}
use Rattle.pungi_tree.specs.ExprView.{field_view, fields_of}
use Rattle.pungi_tree.specs.UnitView.{unit_view}
use Rattle.pungi_types.specs.Kinds.{field_in}
use Rattle.pungi_names.specs.StructsView.{kept_or}
use Rattle.pungi_names.proofs.fields.note_fields.Given as goal

abbrev pub invariant-loop-field : goal.invariant-loop-field
invariant-loop-field l =
    (w : ℕ) → kept_or (get nat_eq l.found w) (field_in (unit_view l.kinds.cores.unit.now)
    (fields_of (map field_view (drop l.field-index l.fields.items))) w)
    ≡ kept_or (get nat_eq l.fn.found w) (field_in (unit_view l.kinds.cores.unit.now)
    (fields_of (map field_view l.fields.items)) w)
