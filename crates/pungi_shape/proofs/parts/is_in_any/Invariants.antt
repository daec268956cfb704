use Rattle.std.proofs.Common.{◌≡◌, drop}
use Rattle.pungi_shape.specs.Liveness.{is_among}
use Rattle.pungi_shape.specs.Parts.{vars_in_all}
use Rattle.pungi_shape.proofs.parts.is_in_any.Given as goal

abbrev pub invariant-loop-a : goal.invariant-loop-a
invariant-loop-a l = is_among (vars_in_all (drop l.a-index l.atoms)) l.x ≡ is_among (vars_in_all l.atoms) l.x
