use Rattle.std.proofs.Common.{◌≡◌, ℕ, ◌≤◌, length, drop, map, nat_eq}
use Rattle.indexmap.specs.IndexMap.{get}
use Rattle.pungi_declared.specs.DeclaredView.{function_view}
use Rattle.pungi_types.specs.Files.{number_in}
use Rattle.pungi_names.proofs.numbers.note_numbers.Given as goal

-- the functions from here on have their numbers
abbrev pub invariant-functions : goal.invariant-functions
invariant-functions l = record {
  within : l.i ≤ length l.functions.items;
  found : (w : ℕ) → get nat_eq l.numbers w ≡ number_in l.i (map function_view (drop l.i l.functions.items)) w;
}

abbrev pub decreases-functions : goal.decreases-functions
decreases-functions l = l.i
