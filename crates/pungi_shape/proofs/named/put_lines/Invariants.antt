use Rattle.std.proofs.Common.{◌≡◌, ◌≤◌, drop, length}
use Rattle.std.specs.List.{flat_map}
use Rattle.pungi_shape.specs.Named.{put_numbers, statics_in}
use Rattle.pungi_shape.proofs.named.put_lines.Given as goal

abbrev pub invariant-loop-i : goal.invariant-loop-i
invariant-loop-i l = record {
  i_in : l.i ≤ length l.lines;
  puts : l.ns.items ≡ put_numbers (flat_map statics_in (drop l.i l.lines)) l.initial.ns.items;
}

abbrev pub decreases-loop-i : goal.decreases-loop-i
decreases-loop-i l = l.i
