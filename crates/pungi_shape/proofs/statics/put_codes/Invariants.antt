use Rattle.std.proofs.Common.{◌≡◌, ◌≤◌, drop, length}
use Rattle.std.specs.List.{flat_map}
use Rattle.pungi_shape.specs.Named.{put_numbers, statics_from}
use Rattle.pungi_shape.proofs.statics.put_codes.Given as goal

abbrev pub invariant-loop-i : goal.invariant-loop-i
invariant-loop-i l = record {
  i_in : l.i ≤ length l.functions;
  puts : l.ns.items ≡ put_numbers (flat_map (statics_from l.codes) (drop l.i l.functions)) l.initial.ns.items;
}

abbrev pub decreases-loop-i : goal.decreases-loop-i
decreases-loop-i l = l.i
