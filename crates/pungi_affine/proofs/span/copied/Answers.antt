use Rattle.std.proofs.Common.{◌∙◌, ℤ, List, ap, refl}
use Rattle.pungi_affine.specs.Forms.{Line}
use Rattle.pungi_affine.specs.declared.row.Row.{Row}
use Rattle.pungi_affine.proofs.Rows.{same_entries}
use Rattle.pungi_affine.proofs.span.copied.Goals as goal

pub returns : goal.returns
returns c =
    let row = c.args.row.now in
    let copy : Row = record {
      pivot = row.pivot;
      width = row.width;
      start = row.start;
      entries = c.in_ok-entries.entries;
    } in
    ap (λ (xs : List ℤ). let l : Line = record { pivot = row.pivot; entries = xs } in l)
    (same_entries copy row refl refl (c.in_ok-entries.ensures.items ∙ c.as_slice.ensures.value))
