use Rattle.std.proofs.Common.{◌∙◌, arith, sym}
use Rattle.std.specs.Cmp.Lexicographic.{slice_cmp}
use Rattle.pungi_shape.specs.Programs.{pair_cmp}
use Rattle.pungi_shape.proofs.OrderLemmas.{cmp-end}
use Rattle.pungi_shape.proofs.edge_order.compare_rows.Goals as goal

pub returns : goal.returns
returns c =
    let last = c.loop-i-test.false in
    let within = c.loop-i.auto.i-end in
    let end = c.min-i-end.ensures in
    c.cmp.ensures
    ∙ sym (cmp-end (slice_cmp pair_cmp) c.args.a.now c.args.b.now c.loop-i.i (omega (arith, within, end))
    (omega (arith, within, end)) (omega (arith, last, end)))
    ∙ c.loop-i.invariant
