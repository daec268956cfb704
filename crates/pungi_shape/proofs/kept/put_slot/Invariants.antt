use Rattle.std.proofs.Common.{◌≡◌, ◌++◌, ◌≤◌, drop, length, reverse, take}
use Rattle.pungi_shape.specs.Numbered.{put_spot}
use Rattle.pungi_shape.proofs.kept.put_slot.Given as goal

abbrev pub invariant-loop-i : goal.invariant-loop-i
invariant-loop-i l = record {
  i_in : l.i ≤ length l.last_first.items;
  same : l.last_first ≡ l.initial.last_first;
  spots : put_spot l.numbering l.r (reverse l.last_first.items)
      ≡ reverse (drop l.i l.last_first.items) ++ put_spot l.numbering l.r (reverse (take l.i l.last_first.items));
}

abbrev pub decreases-loop-i : goal.decreases-loop-i
decreases-loop-i l = l.i
