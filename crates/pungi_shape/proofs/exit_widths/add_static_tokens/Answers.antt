use Rattle.std.proofs.Common.{◌∙◌, ◌++◌, ap, map, take}
use Rattle.pungi_shape.specs.Shapes.{distinct, holding_of_static, tokens_in}
use Rattle.pungi_shape.proofs.FoundTokens.{one-holder}
use Rattle.pungi_shape.proofs.exit_widths.add_static_tokens.Goals as goal

pub loop-holding-preserved : goal.loop-holding-preserved
loop-holding-preserved c =
    let ks = c.args.statics.now in
    let i = c.loop-holding.holding-index in
    λ seen is.
    c.in_ok-add_token.ensures {u = tt} (seen ++ tokens_in (map holding_of_static (take i ks)))
    (c.loop-holding.invariant seen is)
    ∙ ap distinct (one-holder holding_of_static seen ks i _ c.loop-holding-test.true)
