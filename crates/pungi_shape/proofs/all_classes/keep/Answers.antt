use Rattle.std.proofs.Common.{inl, inr, refl}
use Rattle.pungi_shape.proofs.all_classes.keep.Goals as goal

pub returns-then-has_more-clause-kept : goal.returns-then-has_more-clause-kept
returns-then-has_more-clause-kept c =
    inl (record {
      more = cc;
      put = c.set.ensures;
      kept = c.put_callers.ensures.kept;
      wait = c.put_callers.ensures.put;
      few = c.put_callers.ensures.few;
    })

pub returns-else-has_more-clause-kept : goal.returns-else-has_more-clause-kept
returns-else-has_more-clause-kept c = inr (record { less = cc; classes = refl; same = refl })
