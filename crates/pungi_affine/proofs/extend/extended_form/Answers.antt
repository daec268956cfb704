use Rattle.std.proofs.Common.{◌∙◌, ap, rules}
use Rattle.std.proofs.lemmas.Int.{to_z-of_z}
use mir.Syntax.{w64, w128}
use mir.Val.{SFits}
use Rattle.pungi_affine.specs.Parts.{wide_line, wide_lines}
use Rattle.pungi_affine.proofs.LineLemmas.{mapped_insert}
use Rattle.pungi_affine.proofs.extend.extended_form.Goals as goal

pub returns : goal.returns
returns c =
    let f : SFits w128 c.multiple_entry-scale.result = search rules in
    let m = rw c.as_slice-u.ensures.value at c.in_ok-wide.ensures in
    let d = rw (to_z-of_z w64 c.args.d c.ranges.d) at c.in_ok-row.ensures in
    let s = rw (to_z-of_z w64 c.args.d c.ranges.d, c.as_slice-u.ensures.value) at
    c.multiple_entry-scale.ensures.value in
    record {
      mixes = wide_lines c.in_ok-wide.wide.items;
      mixed = m;
      new = wide_line c.in_ok-row.row;
      multiple = d;
      place = c.place.result;
      is_place = c.place.ensures;
      rows = ap wide_lines c.in_ok-insert.ensures.items ∙ mapped_insert wide_line c.place.result
          c.in_ok-wide.wide.items c.in_ok-row.row;
      scale = to_z-of_z w128 c.multiple_entry-scale.result f ∙ s;
    }
