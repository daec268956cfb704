use Rattle.std.proofs.Common.{◌∙◌, ◌++◌, ap, take}
use Rattle.pungi_shape.specs.declared.holding.Holding.TheVariants.{Dead}
use Rattle.pungi_shape.specs.Shapes.{distinct, tokens_in}
use Rattle.pungi_shape.proofs.FoundTokens.{one-holding}
use Rattle.pungi_shape.proofs.exit_widths.add_tokens.Goals as goal

pub loop-holding-preserved : goal.loop-holding-preserved
loop-holding-preserved c =
    let hs = c.args.holdings.now in
    let i = c.loop-holding.holding-index in
    λ seen is.
    c.in_ok-add_token.ensures {u = tt} (seen ++ tokens_in (take i hs)) (c.loop-holding.invariant seen is)
    ∙ ap distinct (one-holding seen hs i Dead c.loop-holding-test.true)
