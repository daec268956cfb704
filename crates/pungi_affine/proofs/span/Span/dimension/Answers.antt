use Rattle.std.proofs.Common.{◌≡◌, ◌∙◌, length, sym, arith}
use Rattle.pungi_affine.specs.Forms.{lines}
use Rattle.pungi_affine.proofs.LineLemmas.{lines_length}
use Rattle.pungi_affine.proofs.SpanLemmas.{dimension_is}
use Rattle.pungi_affine.proofs.span.Span.dimension.Goals as goal

pub overflow_cast-result : goal.overflow_cast-result
overflow_cast-result c =
    let f = c.self.invariant.few in
    let n = c.self.invariant.narrow in
    let e = c.len.ensures in
    let l = lines_length c.self.inside.rows.items in
    grind (arith, f, n, e, l)

pub returns : goal.returns
returns c =
    let e : c.len.result ≡ length (lines c.self.inside.rows.items) = c.len.ensures ∙ c.self.inside.rows.ok.0
    ∙ sym (lines_length c.self.inside.rows.items) in
    rw (← c.self.view_is, e) (dimension_is c.self.inside.width c.self.inside.scale _ c.self.invariant.form)
