use Rattle.std.proofs.Common.{◌≡◌, ◌++◌, ◌-◌, replicate}
use Rattle.pungi_meaning.proofs.stack.note_used.Given as goal

abbrev pub invariant-loop-i : goal.invariant-loop-i
invariant-loop-i l = l.used.items ++ replicate (l.count - l.i) l.pos ≡ l.initial.used.items ++ replicate l.count l.pos
