use Rattle.std.proofs.Common.{◌≡◌, ◌+◌, ◌^◌, rules}
use Rattle.std.proofs.lemmas.Int.{to_z-of_z}
use mir.Syntax.{w128}
use mir.Val.{SFits}
use Rattle.pungi_domain.specs.Vectors.{at, IsWithin}
use Rattle.pungi_affine.specs.Forms.{line, lines}
use Rattle.pungi_affine.specs.Meets.{crossed_entry}
use Rattle.pungi_affine.proofs.Exact.{each_pushed}
use Rattle.pungi_affine.proofs.meet.crossed_row.Goals as goal

pub loop-i-preserved : goal.loop-i-preserved
loop-i-preserved c =
    let f : SFits w128 c.crossed_entry.result = search rules in
    record {
      lengths = search rules;
      each = rw (c.in_ok-push.ensures.items, to_z-of_z w128 c.crossed_entry.result f)
          (each_pushed (λ j x. (x ≡ crossed_entry (at c.args.sums.now c.args.p) (line (lines c.args.rows.now)
          c.args.k) (at c.args.sums.now c.args.k) (line (lines c.args.rows.now) c.args.p) j)
          × IsWithin (2 ^ 126 + 2 ^ 91) x) c.loop-i.entries.items c.loop-i.i c.crossed_entry.result
          c.loop-i.invariant.lengths c.loop-i.invariant.each (
            c.crossed_entry.ensures.value,
            c.crossed_entry.ensures.within,
          ));
    }
