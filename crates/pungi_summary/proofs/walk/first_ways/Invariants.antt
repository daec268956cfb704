use Rattle.pungi_summary.proofs.Visits.{AreFirstWays}
use Rattle.pungi_summary.proofs.walk.first_ways.Given as goal

abbrev pub invariant-loop-f : goal.invariant-loop-f
invariant-loop-f l = AreFirstWays l.starts l.f l.ways.items
