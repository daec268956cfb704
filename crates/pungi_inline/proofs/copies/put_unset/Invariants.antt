use Rattle.std.proofs.Common.{◌≡◌, ◌+◌, ◌-◌, ◌++◌}
use Rattle.pungi_inline.specs.Copies.{unset}
use Rattle.pungi_inline.proofs.copies.put_unset.Given as goal

abbrev pub invariant-loop-n : goal.invariant-loop-n
invariant-loop-n l =
    l.out.items ++ unset l.pos l.window (l.first + l.n) (l.count - l.n)
    ≡ l.initial.out.items ++ unset l.pos l.window l.first l.count
