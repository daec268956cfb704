use Rattle.std.proofs.Common.{◌≡◌, ℕ, ◌||◌, drop, map, nat_eq}
use Rattle.indexmap.specs.IndexSet.{contains}
use Rattle.pungi_declared.specs.DeclaredView.{variable_view}
use Rattle.pungi_tree.specs.UnitView.{unit_view}
use Rattle.pungi_types.specs.Names.{module_in}
use Rattle.pungi_names.proofs.globals.note_modules.Given as goal

abbrev pub invariant-loop-variable : goal.invariant-loop-variable
invariant-loop-variable l =
    (w : ℕ) → (contains nat_eq l.modules w || module_in (unit_view l.kinds.cores.unit.now)
    (map variable_view (drop l.variable-index l.variables.items)) w)
    ≡ (contains nat_eq l.fn.modules w || module_in (unit_view l.kinds.cores.unit.now)
    (map variable_view l.variables.items) w)
