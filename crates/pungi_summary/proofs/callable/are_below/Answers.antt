use Rattle.std.proofs.Common.{◌<◌, arith, rules}
use Rattle.std.proofs.lemmas.List.Elements.{All-more}
use Rattle.pungi_summary.proofs.Lists.{all_taken}
use Rattle.pungi_summary.proofs.callable.are_below.Goals as goal

pub loop-number-preserved : goal.loop-number-preserved
loop-number-preserved c =
    All-more (λ g. g < c.args.limit) c.args.numbers.now c.loop-number.number-index 0 c.loop-number-test.true
    c.loop-number.invariant (omega arith)

pub returns : goal.returns
returns c = (
  λ _. all_taken (λ g. g < c.args.limit) c.args.numbers.now c.loop-number.number-index c.loop-number-test.false
      c.loop-number.invariant,
  λ _. search rules,
)
