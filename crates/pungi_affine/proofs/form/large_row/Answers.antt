use Rattle.std.proofs.Common.{◌∙◌, List, ℤ, below_more, subst, sym, ap}
use Rattle.pungi_affine.specs.Forms.{WithinBox}
use Rattle.pungi_affine.specs.Parts.{wide_line}
use Rattle.pungi_affine.proofs.LineLemmas.{mapped_at}
use Rattle.pungi_affine.proofs.form.large_row.Goals as goal

pub loop-k-preserved : goal.loop-k-preserved
loop-k-preserved c = below_more _ _ c.loop-k.invariant
    (subst (λ (xs : List ℤ). WithinBox xs) (c.as_slice.ensures.value
    ∙ sym (ap (λ l. l.entries) (mapped_at wide_line c.args.rows.now c.loop-k.k c.index-rows-k.result
    c.loop-k-test.true)))
    (c.has_large.ensures.no c.if-has_large.false))
