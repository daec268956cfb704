use Rattle.std.proofs.Common.{◌+◌, ◌^◌, ◌∙◌, ◌*ℤ◌, lit<}
use Rattle.std.proofs.lemmas.Int.{to_z-of_z}
use mir.Syntax.{w64, w128}
use Rattle.pungi_affine.proofs.Products.{product_within, wide, fits_of}
use Rattle.pungi_affine.proofs.extend.wide_product.Goals as goal

pub overflow_mul-result : goal.overflow_mul-result
overflow_mul-result c =
    let b = c.from.ensures ∙ to_z-of_z w64 c.args.b c.ranges.b in
    rw (b, to_z-of_z w128 c.args.a c.ranges.a, to_z-of_z w128 c.args.b (wide c.args.b c.ranges.b))
    (fits_of (2 ^ 125 + 2 ^ 90) (c.args.a *ℤ c.args.b) (lit< tt) (product_within c.args.a c.args.b
    (2 ^ 94 + 2 ^ 59) (2 ^ 31) c.requires.a c.requires.b))

pub returns-clause-value : goal.returns-clause-value
returns-clause-value c =
    let b = c.from.ensures ∙ to_z-of_z w64 c.args.b c.ranges.b in
    let h = product_within c.args.a c.args.b (2 ^ 94 + 2 ^ 59) (2 ^ 31) c.requires.a c.requires.b in
    rw (b, to_z-of_z w128 c.args.a c.ranges.a, to_z-of_z w128 c.args.b (wide c.args.b c.ranges.b))
    (to_z-of_z w128 (c.args.a *ℤ c.args.b) (fits_of (2 ^ 125 + 2 ^ 90) (c.args.a *ℤ c.args.b) (lit< tt) h))

pub returns-clause-within : goal.returns-clause-within
returns-clause-within c =
    let b = c.from.ensures ∙ to_z-of_z w64 c.args.b c.ranges.b in
    let h = product_within c.args.a c.args.b (2 ^ 94 + 2 ^ 59) (2 ^ 31) c.requires.a c.requires.b in
    rw (
      b,
      to_z-of_z w128 c.args.a c.ranges.a,
      to_z-of_z w128 c.args.b (wide c.args.b c.ranges.b),
      to_z-of_z w128
          (c.args.a *ℤ c.args.b) (fits_of (2 ^ 125 + 2 ^ 90) (c.args.a *ℤ c.args.b) (lit< tt) h),
    ) h
