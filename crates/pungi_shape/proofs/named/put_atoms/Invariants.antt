use Rattle.std.proofs.Common.{◌≡◌, ◌≤◌, drop, length}
use Rattle.std.specs.List.{flat_map}
use Rattle.pungi_shape.specs.Named.{put_numbers, static_in}
use Rattle.pungi_shape.proofs.named.put_atoms.Given as goal

abbrev pub invariant-loop-i : goal.invariant-loop-i
invariant-loop-i l = record {
  i_in : l.i ≤ length l.atoms;
  puts : l.ns.items ≡ put_numbers (flat_map static_in (drop l.i l.atoms)) l.initial.ns.items;
}

abbrev pub decreases-loop-i : goal.decreases-loop-i
decreases-loop-i l = l.i
