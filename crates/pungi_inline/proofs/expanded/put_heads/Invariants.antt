use Rattle.std.proofs.Common.{◌≡◌, ◌++◌, drop, map}
use Rattle.pungi_inline.specs.Moved.{moved_head}
use Rattle.pungi_inline.specs.Places.{place_in}
use Rattle.pungi_inline.proofs.expanded.put_heads.Given as goal

abbrev pub invariant-loop-head : goal.invariant-loop-head
invariant-loop-head l =
    l.out.items ++ map (moved_head (place_in l.places.starts.items)) (drop l.head-index l.heads)
    ≡ l.initial.out.items ++ map (moved_head (place_in l.places.starts.items)) l.heads
