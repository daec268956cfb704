use Rattle.std.proofs.lemmas.Int.{to_z-of_z}
use mir.Syntax.{w64}
use Rattle.pungi_affine.specs.Forms.{lines}
use Rattle.pungi_affine.proofs.Products.{box_fits}
use Rattle.pungi_affine.proofs.add.with_plain.Goals as goal

pub invariant_of-result : goal.invariant_of-result
invariant_of-result c =
    let p = rw (← c.span.view_is) at c.requires in
    rw (to_z-of_z w64 c.span.inside.scale (box_fits c.span.inside.scale c.span.invariant.scale))
    (p.kept (lines c.in_ok-rows.rows.items) c.in_ok-rows.ensures)
