use Rattle.std.proofs.Common.{◌≡◌, take}
use Rattle.pungi_shape.specs.Forms.{scale}
use Rattle.pungi_shape.proofs.factors.scaled.Given as goal

abbrev pub invariant-loop-p : goal.invariant-loop-p
invariant-loop-p l = l.out ≡ scale l.n (take l.p-index l.fs)
