use Rattle.std.proofs.Common.{map}
use Rattle.pungi_shape.specs.Shapes.{holding_of_static}
use Rattle.pungi_shape.proofs.ArrivalParts.{number_tokens_shape}
use Rattle.pungi_shape.proofs.numbering.Numbering.put_shape.Goals as goal

pub returns : goal.returns
returns c =
    let s = c.args.shape.now in
    let h = rw (
      c.in_ok-put_statics.ensures,
      c.in_ok-put_holdings-2.ensures,
      c.in_ok-put_holdings.ensures,
      c.as_slice.ensures,
      c.as_slice-2.ensures,
      c.as_slice-3.ensures,
    ) at c.put_holding.ensures in
    rw (number_tokens_shape s.entry s.vars (map holding_of_static s.statics) s.returned c.args.self.now) h
