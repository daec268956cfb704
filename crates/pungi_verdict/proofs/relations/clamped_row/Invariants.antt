use Rattle.std.proofs.Common.{◌≡◌, map, take}
use Rattle.pungi_verdict.specs.Relations.{clamped}
use Rattle.pungi_verdict.proofs.relations.clamped_row.Given as goal

abbrev pub invariant-loop-n : goal.invariant-loop-n
invariant-loop-n l = l.numbers ≡ map clamped (take l.n-index l.row)
