use Rattle.std.proofs.Common.{◌≡◌, drop, map}
use Rattle.pungi_shape.specs.Numbered.{mark_all}
use Rattle.pungi_shape.specs.Shapes.{holding_of_static}
use Rattle.pungi_shape.proofs.kept.mark_statics.Given as goal

abbrev pub invariant-loop-k : goal.invariant-loop-k
invariant-loop-k l =
    mark_all (map holding_of_static (drop l.k-index l.statics)) l.marks
    ≡ mark_all (map holding_of_static l.statics) l.initial.marks
