use Rattle.std.proofs.Common.{◌≡◌, ◌++◌, length, map}
use Rattle.pungi_types.specs.WantsView.{wants_view}
use Rattle.pungi_resolve.specs.Exprs.{wanted_kind}
use Rattle.pungi_resolve.proofs.call.put_kinds.Given as goal

abbrev pub invariant-loop-want : goal.invariant-loop-want
invariant-loop-want l =
    l.kinds ++ map wanted_kind (wants_view l.rest) ≡ l.fn.kinds ++ map wanted_kind (wants_view l.wants)

abbrev pub decreases-loop-want : goal.decreases-loop-want
decreases-loop-want l = length (wants_view l.rest)
