use Rattle.std.proofs.Common.{◌≡◌, length, map, ap, ◌∙◌}
use Rattle.pungi_shape.specs.Shapes.{distinct, holding_of_static, tokens_in}
use Rattle.pungi_shape.proofs.ExitClassLemmas.{statics-numbered}
use Rattle.pungi_shape.proofs.joins.statics_differ.Goals as goal

pub returns : goal.returns
returns c =
    let s = c.args.shape.now in
    let e : length c.in_ok-numbering.numbering.tokens ≡ length (distinct (tokens_in (map holding_of_static s.statics)))
    = ap length (ap (λ m. m.tokens) c.in_ok-numbering.ensures ∙ statics-numbered s c.requires) in
    cc
