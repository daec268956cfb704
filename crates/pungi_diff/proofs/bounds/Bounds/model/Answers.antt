use Rattle.std.proofs.lemmas.Result.{IfOk-weaker}
use Rattle.pungi_diff.proofs.BoundsLemmas.{kept_small, solution}
use Rattle.pungi_diff.proofs.bounds.Bounds.model.Goals as goal

pub moved_values-requires-clause-small : goal.moved_values-requires-clause-small
moved_values-requires-clause-small c = rw c.as_slice.ensures.value (kept_small _ _ c.self.invariant.0)

pub returns : goal.returns
returns c =
    rw (← c.self.view_is) (IfOk-weaker c.moved_values.result _ _ (λ v m. solution _ _ _ _ _ _
    c.self.invariant.1.values c.self.invariant.0 (rw c.as_slice.ensures.value at m)) c.moved_values.ensures)
