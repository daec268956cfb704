use Rattle.std.proofs.Common.{◌≡◌, ◌∙◌, length, sym}
use Rattle.pungi_affine.specs.Forms.{lines}
use Rattle.pungi_affine.proofs.LineLemmas.{lines_length}
use Rattle.pungi_affine.proofs.sum.rank.Goals as goal

pub returns : goal.returns
returns c =
    let e : c.len.result ≡ length (lines c.span.inside.rows.items) = c.len.ensures ∙ c.span.inside.rows.ok.0
    ∙ sym (lines_length c.span.inside.rows.items) in
    rw (← c.span.view_is) e
