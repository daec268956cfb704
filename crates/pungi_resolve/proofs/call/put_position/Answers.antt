use Rattle.std.proofs.Common.{◌∙◌, ap, map}
use Rattle.pungi_resolve.specs.Outputs.{and_last}
use Rattle.pungi_resolved.specs.ValueView.{value_view, values_of}
use Rattle.pungi_resolve.proofs.ListLemmas.{values_of-last}
use Rattle.pungi_resolve.proofs.call.put_position.Goals as goal

pub returns : goal.returns
returns c =
    let old = c.args.values.now.items in
    ap (λ ys. values_of (map value_view ys)) c.in_ok-push.ensures.items
    ∙ values_of-last value_view old c.position_value.result
    ∙ ap (and_last (values_of (map value_view old))) c.position_value.ensures
