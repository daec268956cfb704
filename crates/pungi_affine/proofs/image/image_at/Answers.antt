use Rattle.std.proofs.Common.{◌≡◌, ◌∙◌, ℕ, ℤ, List, [], length, slice_index_or, ap, rules, sym, subst}
use Rattle.std.proofs.lemmas.Int.{to_z-of_z}
use Rattle.std.proofs.lemmas.List.{get_or_default}
use mir.Syntax.{w128}
use mir.Val.{SFits}
use Rattle.pungi_domain.specs.Vectors.{at, row_sum, IsMatrixRow}
use Rattle.pungi_affine.proofs.image.image_at.Goals as goal

pub image_entry-requires-clause-row : goal.image_entry-requires-clause-row
image_entry-requires-clause-row c =
    let b : c.as_slice.result.now ≡ slice_index_or c.args.matrix.now c.args.i c.index-matrix-i.result = cc
    (c.as_slice.ensures, c.index-matrix-i.is) in
    subst (λ (r : List (ℕ × ℤ)). IsMatrixRow (length c.args.entries.now) r) (sym b)
    (c.requires.matrix c.args.i c.index-matrix-i.result c.requires.i)

pub returns-clause-value : goal.returns-clause-value
returns-clause-value c =
    let b : c.as_slice.result.now ≡ slice_index_or c.args.matrix.now c.args.i c.index-matrix-i.result = cc
    (c.as_slice.ensures, c.index-matrix-i.is) in
    let f : SFits w128 c.image_entry.result = search rules in
    to_z-of_z w128 c.image_entry.result f ∙ c.image_entry.ensures.value
    ∙ ap (λ r. row_sum r (at c.args.entries.now)) (b ∙ get_or_default c.args.matrix.now c.args.i
    c.index-matrix-i.result [] c.requires.i)
