use Rattle.std.proofs.Common.{length, arith}
use Rattle.pungi_domain.proofs.FlatLemmas.{image_meets}
use Rattle.pungi_domain.proofs.constants.image_constants.Goals as goal

pub returns-clause-members : goal.returns-clause-members
returns-clause-members c v m =
    rw c.new.ensures (image_meets (length c.args.constants.now) c.args.constants.now c.loop-i.images.items
    c.args.rows.now v m c.requires.within (record {
      lengths = omega arith;
      each = λ i lt. c.loop-i.invariant.each i
          (omega arith);
    }))
