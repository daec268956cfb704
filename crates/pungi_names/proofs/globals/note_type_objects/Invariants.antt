use Rattle.std.proofs.Common.{◌≡◌, drop, map}
use Rattle.pungi_declared.specs.DeclaredView.{variable_view}
use Rattle.pungi_tree.specs.UnitView.{unit_view}
use Rattle.pungi_types.specs.Names.{type_objects_in}
use Rattle.pungi_names.proofs.globals.note_type_objects.Given as goal

abbrev pub invariant-loop-variable : goal.invariant-loop-variable
invariant-loop-variable l =
    type_objects_in (unit_view l.kinds.cores.unit.now) l.objects.keys (map variable_view
    (drop l.variable-index l.variables.items))
    ≡ type_objects_in (unit_view l.kinds.cores.unit.now) l.fn.objects.keys (map variable_view l.variables.items)
