use Rattle.std.proofs.Common.{◌+◌, length}
use Rattle.pungi_summary.specs.Ways.{IsWalking, to_find}
use Rattle.pungi_summary.proofs.walk.walk_back.Given as goal

abbrev pub invariant-functions : goal.invariant-functions
invariant-functions l = IsWalking l.programs l.callees l.starts l.ways.items l.pending

abbrev pub decreases-functions : goal.decreases-functions
decreases-functions l = to_find l.ways.items + length l.pending.list
