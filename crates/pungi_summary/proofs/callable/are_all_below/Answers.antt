use Rattle.std.proofs.Common.{◌<◌, List, ℕ, All, rules}
use Rattle.pungi_summary.proofs.Lists.{all_more, all_taken}
use Rattle.pungi_summary.proofs.callable.are_all_below.Goals as goal

pub loop-numbers-preserved : goal.loop-numbers-preserved
loop-numbers-preserved c =
    all_more (λ (fs : List ℕ). All (λ g. g < c.args.limit) fs) c.args.callees.now c.loop-numbers.numbers-index
    c.numbers-item.result c.loop-numbers-test.true c.numbers-item.is c.loop-numbers.invariant
    (rw c.as_slice.ensures at (c.are_below.ensures.0 c.if-not-are_below.false))

pub returns : goal.returns
returns c = (
  λ _. all_taken (λ (fs : List ℕ). All (λ g. g < c.args.limit) fs) c.args.callees.now c.loop-numbers.numbers-index
      c.loop-numbers-test.false c.loop-numbers.invariant,
  λ _. search rules,
)
