use Rattle.pungi_shape.proofs.ReachingLemmas.{IsReaching}
use Rattle.pungi_shape.proofs.statics.functions_from.Given as goal

abbrev pub invariant-reaching : goal.invariant-reaching
invariant-reaching l = IsReaching l.codes l.f l.marks.items l.list.items l.i
