use Rattle.std.proofs.Common.{sym, subst}
use Rattle.pungi_domain.specs.Vectors.{at}
use Rattle.pungi_affine.specs.States.{SpanState}
use Rattle.pungi_affine.specs.Adds.{Adds}
use Rattle.pungi_affine.proofs.SumLemmas.{step_none, step_some}
use Rattle.pungi_affine.proofs.sum.step.Goals as goal

pub returns-in-Nothing-clause-step : goal.returns-in-Nothing-clause-step
returns-in-Nothing-clause-step c =
    step_none c.args.grown.span c.args.grown.changed (at c.args.vector.now.entries.items)
    (rw (c.in-Nothing.is, c.as_slice.ensures.value) at c.in_ok-change_by.ensures.change)

pub returns-in_ok-span-in-Plain-clause-step : goal.returns-in_ok-span-in-Plain-clause-step
returns-in_ok-span-in-Plain-clause-step c =
    let p = rw (c.in-Plain.is, c.as_slice.ensures.value) at c.in_ok-change_by.ensures.change in
    let e = c.in_ok-span-in-Plain.ensures in
    step_some c.args.grown.span c.args.grown.changed (at c.args.vector.now.entries.items)
    c.in_ok-span-in-Plain.span
    (subst (λ (t : SpanState). Adds c.args.grown.span (at c.args.vector.now.entries.items) t) (sym e.is)
    (p.adds c.in_ok-span-in-Plain.span.lines e.rows))

pub returns-in-Other-clause-step : goal.returns-in-Other-clause-step
returns-in-Other-clause-step c =
    step_some c.args.grown.span c.args.grown.changed (at c.args.vector.now.entries.items) c.in-Other.span
    (rw (c.in-Other.is, c.as_slice.ensures.value) at c.in_ok-change_by.ensures.change)

pub returns-in-Nothing-clause-range : goal.returns-in-Nothing-clause-range
returns-in-Nothing-clause-range c = rw c.as_slice.ensures.value at c.in_ok-change_by.ensures.range

pub returns-in_ok-span-in-Plain-clause-range : goal.returns-in_ok-span-in-Plain-clause-range
returns-in_ok-span-in-Plain-clause-range c = rw c.as_slice.ensures.value at c.in_ok-change_by.ensures.range

pub returns-in-Other-clause-range : goal.returns-in-Other-clause-range
returns-in-Other-clause-range c = rw c.as_slice.ensures.value at c.in_ok-change_by.ensures.range
