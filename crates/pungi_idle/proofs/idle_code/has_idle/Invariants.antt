use Rattle.std.proofs.Common.{◌≡◌, drop}
use Rattle.pungi_idle.specs.IdleCode.{idle_kinds}
use Rattle.pungi_idle.proofs.idle_code.has_idle.Given as goal

abbrev pub invariant-loop-x : goal.invariant-loop-x
invariant-loop-x l =
    idle_kinds l.lines l.taken l.params l.x (drop l.x l.kinds) ≡ drop l.x l.kinds
    → idle_kinds l.lines l.taken l.params 0 l.kinds ≡ l.kinds
