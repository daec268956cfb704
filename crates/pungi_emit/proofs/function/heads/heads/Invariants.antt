use Rattle.std.proofs.Common.{◌≡◌}
use Rattle.pungi_layout.specs.code.Heads.{heads_below}
use Rattle.pungi_emit.proofs.function.heads.heads.Given as goal

abbrev pub invariant-loop-place : goal.invariant-loop-place
invariant-loop-place l = l.heads.items ≡ heads_below l.marks l.code l.place
