use Rattle.std.proofs.Common.{◌≡◌, ◌≤◌, drop, length, reverse}
use Rattle.std.specs.List.{filter}
use Rattle.pungi_shape.specs.Numbered.{kept_by, put_spots}
use Rattle.pungi_shape.proofs.kept.slots_in_order.Given as goal

abbrev pub invariant-loop-i : goal.invariant-loop-i
invariant-loop-i l = record {
  i_in : l.i ≤ length l.slots;
  spots : reverse l.last_first.items
      ≡ put_spots l.numbering (filter (λ r. kept_by l.marks r.spot) (drop l.i l.slots));
}

abbrev pub decreases-loop-i : goal.decreases-loop-i
decreases-loop-i l = l.i
