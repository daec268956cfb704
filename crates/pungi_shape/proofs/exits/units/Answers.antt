use Rattle.std.proofs.Common.{sym, arith}
use Rattle.std.proofs.lemmas.List.FromFn.{map-range_with_len_more}
use Rattle.pungi_shape.specs.Forms.{unit}
use Rattle.pungi_shape.proofs.exits.units.Goals as goal

pub loop-k-preserved : goal.loop-k-preserved
loop-k-preserved c =
    rw (c.in_ok-push.ensures.ok, c.loop-k.invariant, c.in_ok-unit.ensures)
    (sym (map-range_with_len_more (unit c.args.width) 0 c.loop-k.k c.loop-k.k (omega arith)))
