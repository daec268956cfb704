use Rattle.std.proofs.Common.{◌≡◌, ◌++◌, drop, map}
use Rattle.pungi_code.specs.Run.{label_of}
use Rattle.pungi_code.proofs.heads.loop_heads.Given as goal

abbrev pub invariant-loop-head : goal.invariant-loop-head
invariant-loop-head l = l.labels.items ++ map label_of (drop l.head-index l.code.heads) ≡ map label_of l.code.heads
