use Rattle.std.proofs.Common.{◌≡◌, ℕ, drop, map, nat_eq}
use Rattle.indexmap.specs.IndexMap.{get}
use Rattle.pungi_declared.specs.DeclaredView.{variable_view}
use Rattle.pungi_tree.specs.UnitView.{unit_view}
use Rattle.pungi_types.specs.Names.{global_in}
use Rattle.pungi_names.specs.StructsView.{kept_or}
use Rattle.pungi_names.proofs.globals.note_globals.Given as goal

abbrev pub invariant-loop-variable : goal.invariant-loop-variable
invariant-loop-variable l =
    (w : ℕ) → kept_or (get nat_eq l.globals w) (global_in (unit_view l.kinds.cores.unit.now)
    (map variable_view (drop l.variable-index l.variables.items)) w)
    ≡ kept_or (get nat_eq l.fn.globals w) (global_in (unit_view l.kinds.cores.unit.now)
    (map variable_view l.variables.items) w)
