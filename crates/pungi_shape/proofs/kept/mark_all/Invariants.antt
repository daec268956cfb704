use Rattle.std.proofs.Common.{◌≡◌, drop}
use Rattle.pungi_shape.specs.Numbered.{mark_all}
use Rattle.pungi_shape.proofs.kept.mark_all.Given as goal

abbrev pub invariant-loop-h : goal.invariant-loop-h
invariant-loop-h l = mark_all (drop l.h-index l.holdings) l.marks ≡ mark_all l.holdings l.initial.marks
