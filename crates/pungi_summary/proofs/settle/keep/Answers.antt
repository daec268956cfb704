use Rattle.std.proofs.Common.{inl, inr, refl, arith}
use Rattle.pungi_summary.proofs.settle.keep.Goals as goal

pub returns-then-grew-clause-kept : goal.returns-then-grew-clause-kept
returns-then-grew-clause-kept g c = record {
  noted = refl;
  waits = c.put_callers.ensures.kept;
  values_put = inl (c.if-grew.true, c.put_exits.ensures.exits, c.put_callers.ensures.put, c.put_callers.ensures.few);
}

pub returns-else-grew-clause-kept : goal.returns-else-grew-clause-kept
returns-else-grew-clause-kept g c = record {
  noted = refl;
  waits = λ f s. s;
  values_put = inr (c.if-grew.false, refl, omega arith);
}
