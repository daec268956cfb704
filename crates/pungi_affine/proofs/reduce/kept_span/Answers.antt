use Rattle.std.proofs.lemmas.Int.{to_z-of_z}
use mir.Syntax.{w64, w128}
use Rattle.pungi_affine.proofs.Products.{box_fits, long_fits}
use Rattle.pungi_affine.proofs.LargeRows.{box_long}
use Rattle.pungi_affine.proofs.reduce.kept_span.Goals as goal

pub overflow_cast-result : goal.overflow_cast-result
overflow_cast-result c =
    let b = c.requires.scale in
    rw (to_z-of_z w128 c.args.form.now.scale (long_fits c.args.form.now.scale (box_long c.args.form.now.scale b)))
    (box_fits c.args.form.now.scale b)

pub invariant_of-result : goal.invariant_of-result
invariant_of-result c =
    let b = c.requires.scale in
    rw (
      to_z-of_z w128 c.args.form.now.scale (long_fits c.args.form.now.scale (box_long c.args.form.now.scale b)),
      to_z-of_z w64 c.args.form.now.scale (box_fits c.args.form.now.scale b),
      c.in_ok-rows.ensures,
      c.as_slice.ensures.value,
    ) c.requires
