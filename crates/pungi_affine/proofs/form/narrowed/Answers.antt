use Rattle.std.proofs.Common.{◌∙◌, ◌≤◌, ℤ, List, length, ap, refl, arith}
use Rattle.pungi_affine.specs.Forms.{Line}
use Rattle.pungi_affine.specs.declared.row.Row.{Row}
use Rattle.pungi_affine.proofs.Rows.{kept_entries}
use Rattle.pungi_affine.proofs.form.narrowed.Goals as goal

pub returns : goal.returns
returns c =
    let wide = c.as_slice-wide.result.now in
    let row : Row = record {
      pivot = c.args.row.now.pivot;
      width = length wide;
      start = c.first_entry-start.result;
      entries = c.in_ok-entries.entries;
    } in
    let m = c.max-end.ensures in
    let a = c.first_entry-start.ensures.within in
    let b = c.end_of.ensures.within in
    let from : c.first_entry-start.result ≤ c.max-end.result = omega (arith, m) in
    let to : c.max-end.result ≤ length c.as_slice-wide.result.now = omega (arith, m, a, b) in
    ap (λ (xs : List ℤ). let l : Line = record { pivot = c.args.row.now.pivot; entries = xs } in l)
    (kept_entries row wide c.max-end.result refl from to c.first_entry-start.ensures.before
    (λ i ge lt. c.end_of.ensures.zeros i (omega (arith, m, ge)) lt) c.in_ok-entries.ensures
    ∙ c.as_slice-wide.ensures.value)
