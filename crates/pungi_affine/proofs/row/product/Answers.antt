use Rattle.std.proofs.Common.{◌^◌, ◌∙◌}
use Rattle.std.proofs.lemmas.Int.{to_z-of_z}
use mir.Syntax.{w64, w128}
use Rattle.pungi_affine.proofs.Products.{product_within, number_within, wide, within_fits}
use Rattle.pungi_affine.proofs.row.product.Goals as goal

pub returns-clause-within : goal.returns-clause-within
returns-clause-within c =
    let a = c.from.ensures ∙ to_z-of_z w64 c.args.a c.ranges.a in
    let b = c.from-2.ensures ∙ to_z-of_z w64 c.args.b c.ranges.b in
    let h = product_within c.args.a c.args.b (2 ^ 63) (2 ^ 31) (number_within c.args.a c.ranges.a) c.requires in
    rw (
      a,
      b,
      to_z-of_z w128 c.args.a (wide c.args.a c.ranges.a),
      to_z-of_z w128 c.args.b
          (wide c.args.b c.ranges.b),
      to_z-of_z w128 _ (within_fits _ h),
    ) h
