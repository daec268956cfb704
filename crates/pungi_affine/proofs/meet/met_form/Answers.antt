use Rattle.std.proofs.Common.{◌∙◌, ◌+◌, ◌^◌, lit<, ap, rules}
use Rattle.std.proofs.lemmas.Int.{to_z-of_z}
use mir.Syntax.{w64, w128}
use mir.Val.{SFits}
use Rattle.pungi_affine.specs.Parts.{wide_line, wide_lines}
use Rattle.pungi_affine.proofs.AddLemmas.{long_of}
use Rattle.pungi_affine.proofs.LineLemmas.{mapped_remove}
use Rattle.pungi_affine.proofs.meet.met_form.Goals as goal

pub returns : goal.returns
returns c =
    let f : SFits w128 c.multiple_entry.result = search rules in
    let s = rw (to_z-of_z w64 c.args.d c.ranges.d) at c.multiple_entry.ensures.value in
    record {
      crosses = wide_lines c.in_ok-wide.wide.items;
      crossed = c.in_ok-wide.ensures;
      rows = ap wide_lines c.remove.ensures.items ∙ mapped_remove wide_line c.args.p c.in_ok-wide.wide.items;
      scale = to_z-of_z w128 c.multiple_entry.result f ∙ s;
      long = rw (to_z-of_z w128 c.multiple_entry.result f) (long_of (2 ^ 125 + 2 ^ 90) c.multiple_entry.result
          (lit< tt) c.multiple_entry.ensures.within);
    }
