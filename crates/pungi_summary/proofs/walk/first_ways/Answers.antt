use Rattle.std.proofs.Common.{true, false}
use Rattle.pungi_summary.proofs.Visits.{ways_none, ways_start, ways_other, start_is}
use Rattle.pungi_summary.proofs.walk.first_ways.Goals as goal
use Rattle.pungi_summary.proofs.walk.first_ways.Goals.{then-starts-f+in_ok-push, else-starts-f+in_ok-push-2}

pub loop-f-init : goal.loop-f-init
loop-f-init c = rw c.new-ways.ensures.items (ways_none c.args.starts.now)

pub loop-f-preserved : goal.loop-f-preserved
loop-f-preserved c =
    let starts = c.args.starts.now in
    elim c.if-starts-f.branch [
      | then-starts-f+in_ok-push w ↦ rw (w.ways-is, w.in_ok-push.ensures.items) (ways_start starts c.loop-f.f 0
          c.loop-f.ways.items (start_is starts c.loop-f.f true _ c.loop-f-test.true w.if-starts-f.true)
          c.loop-f.invariant)
      | else-starts-f+in_ok-push-2 w ↦ rw (w.ways-is, w.in_ok-push-2.ensures.items) (ways_other starts c.loop-f.f
          c.loop-f.ways.items (λ is.
          let not_so = start_is starts c.loop-f.f false _ c.loop-f-test.true w.if-starts-f.false in
          absurd (cc (is, not_so)))
          c.loop-f.invariant)
    ]
