use Rattle.std.proofs.Common.{◌≡◌, ◌++◌, drop}
use Rattle.pungi_inline.specs.Copies.{passed}
use Rattle.pungi_inline.proofs.copies.put_passed.Given as goal

abbrev pub invariant-loop-n : goal.invariant-loop-n
invariant-loop-n l =
    l.out.items ++ passed l.pos l.window l.n (drop l.n l.args) ≡ l.initial.out.items ++ passed l.pos l.window 0 l.args
