use Rattle.std.proofs.Common.{◌∙◌, ◌++◌, [], ap, length, map}
use Rattle.pungi_shape.specs.Shapes.{distinct, holding_of_static, tokens_in}
use Rattle.pungi_shape.proofs.FoundTokens.{exit-tokens}
use Rattle.pungi_shape.proofs.exit_widths.count_of_tokens.Goals as goal

pub returns : goal.returns
returns c =
    let x = c.args.exit.now in
    let entry =
    c.in_ok-add_tokens.ensures {u = tt} [] c.new-tokens.ensures.items
    ∙ ap (λ l. distinct (tokens_in l)) c.as_slice.ensures in
    let statics =
    c.in_ok-add_static_tokens.ensures {u = tt} (tokens_in x.entry) entry
    ∙ ap (λ l. distinct (tokens_in x.entry ++ tokens_in (map holding_of_static l))) c.as_slice-2.ensures in
    let all =
    c.in_ok-add_token.ensures {u = tt} (tokens_in x.entry ++ tokens_in (map holding_of_static x.statics)) statics in
    ap length (c.as_slice-3.ensures.value ∙ all ∙ exit-tokens x c.requires.vars c.requires.slots)
