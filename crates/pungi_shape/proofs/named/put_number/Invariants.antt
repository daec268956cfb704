use Rattle.std.proofs.Common.{◌≡◌, ◌-◌, ◌++◌, ◌≤◌, drop, length, take}
use Rattle.pungi_shape.specs.Named.{put_number}
use Rattle.pungi_shape.proofs.named.put_number.Given as goal

abbrev pub invariant-loop-i : goal.invariant-loop-i
invariant-loop-i l = record {
  i_in : l.i ≤ length l.ns.items;
  puts : put_number l.n l.ns.items ≡ take l.i l.ns.items ++ put_number l.n (drop l.i l.ns.items);
}

abbrev pub decreases-loop-i : goal.decreases-loop-i
decreases-loop-i l = length l.ns.items - l.i
