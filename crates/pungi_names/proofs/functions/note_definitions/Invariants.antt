use Rattle.std.proofs.Common.{◌≡◌, ℕ, drop, map, option_map, nat_eq}
use Rattle.indexmap.specs.IndexMap.{get}
use Rattle.pungi_declared.specs.DeclaredView.{function_view}
use Rattle.pungi_tree.specs.UnitView.{unit_view}
use Rattle.pungi_types.specs.Files.{definition_in}
use Rattle.pungi_names.specs.CallsView.{signature_view, function_signature}
use Rattle.pungi_names.specs.First.{or_first}
use Rattle.pungi_names.proofs.functions.note_definitions.Given as goal

abbrev pub invariant-loop-function : goal.invariant-loop-function
invariant-loop-function l =
    (w : ℕ) → or_first (option_map signature_view (get nat_eq l.signatures w))
    (option_map (function_signature (unit_view l.kinds.cores.unit.now)) (definition_in
    (map function_view (drop l.function-index l.functions.items)) w))
    ≡ or_first (option_map signature_view (get nat_eq l.fn.signatures w)) (option_map
    (function_signature (unit_view l.kinds.cores.unit.now)) (definition_in (map function_view l.functions.items)
    w))
