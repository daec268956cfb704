use Rattle.std.proofs.Common.{◌≡◌, ℕ, drop, map, nat_eq, Option}
use Rattle.indexmap.specs.IndexMap.{get}
use Rattle.pungi_tree.specs.ExprView.{declr_view, declrs_of, spec_view}
use Rattle.pungi_tree.specs.UnitView.{unit_view}
use Rattle.pungi_types.specs.Kinds.{member_kind, declr_named}
use Rattle.pungi_types.specs.declared.kind.ValueKind.{ValueKind}
use Rattle.pungi_names.specs.StructsView.{kept_or}
use Rattle.pungi_names.proofs.fields.note_declrs.Given as goal

abbrev pub invariant-loop-declr : goal.invariant-loop-declr
invariant-loop-declr l =
    (w : ℕ) (r : Option ValueKind)
    → kept_or (get nat_eq l.fields w) (member_kind (unit_view l.kinds.cores.unit.now) (spec_view l.spec)
    (declr_named (declrs_of (map declr_view (drop l.declr-index l.declrs.items))) w) r)
    ≡ kept_or (get nat_eq l.fn.fields w) (member_kind (unit_view l.kinds.cores.unit.now) (spec_view l.spec)
    (declr_named (declrs_of (map declr_view l.declrs.items)) w) r)
