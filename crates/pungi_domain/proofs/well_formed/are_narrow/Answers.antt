use Rattle.std.proofs.Common.{◌≤◌, rules}
use Rattle.std.proofs.lemmas.List.Elements.{All-more}
use Rattle.pungi_domain.proofs.Tests.{all_taken}
use Rattle.pungi_domain.proofs.well_formed.are_narrow.Goals as goal

pub loop-width-preserved : goal.loop-width-preserved
loop-width-preserved c =
    All-more (λ w. w ≤ 256) c.args.widths.now c.loop-width.width-index 0 c.loop-width-test.true
    c.loop-width.invariant c.if-width-gt256.false

pub returns : goal.returns
returns c = (
  λ _. all_taken (λ w. w ≤ 256) c.args.widths.now c.loop-width.width-index c.loop-width-test.false
      c.loop-width.invariant,
  λ _. search rules,
)
