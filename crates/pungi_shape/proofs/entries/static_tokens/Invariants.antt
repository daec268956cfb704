use Rattle.std.proofs.Common.{◌≡◌, ◌+◌, ◌++◌, drop}
use Rattle.pungi_shape.specs.Places.{tokens_from}
use Rattle.pungi_shape.proofs.entries.static_tokens.Given as goal

abbrev pub invariant-loop-i : goal.invariant-loop-i
invariant-loop-i l = l.list ++ tokens_from (l.t + l.i) (drop l.i l.statics) ≡ tokens_from l.t l.statics
