use Rattle.std.proofs.Common.{◌∙◌, ap}
use Rattle.std.specs.List.{insert}
use Rattle.pungi_affine.specs.Forms.{lines, line_of}
use Rattle.pungi_affine.proofs.LineLemmas.{mapped_insert}
use Rattle.pungi_affine.proofs.join.joined_rows.Goals as goal

pub returns : goal.returns
returns c = record {
  place = c.place-at.result;
  is_place = rw c.as_slice.ensures.value at c.place-at.ensures;
  rows = ap lines c.in_ok-insert.ensures.items
      ∙ mapped_insert line_of c.place-at.result c.args.rows.items c.in_ok-row.row
      ∙ ap (λ l. insert (lines c.args.rows.items) c.place-at.result l) c.in_ok-row.ensures;
}
