use Rattle.std.proofs.Common.{◌∙◌, ◌++◌, ap, sym, slice_get}
use Rattle.std.specs.Option.{option_to_list}
use Rattle.pungi_names.proofs.PlaceLemmas.{take-more}
use Rattle.pungi_names.proofs.rows.put_rows.Goals as goal

pub loop-at-preserved : goal.loop-at-preserved
loop-at-preserved c =
    let rows = c.args.rows.now in
    let at = c.loop-at.at in
    c.in_ok-put_row.ensures ∙ ap (λ ys. ys ++ option_to_list (slice_get rows at)) c.loop-at.invariant
    ∙ sym (take-more at rows)
