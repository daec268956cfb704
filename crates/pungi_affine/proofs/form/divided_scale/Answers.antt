use Rattle.std.proofs.Common.{◌∙◌, ◌*ℤ◌, ap}
use Rattle.std.proofs.lemmas.Int.{quot_is, quot_fits}
use mir.Syntax.{w128}
use Rattle.pungi_affine.proofs.Exact.{quot_exact}
use Rattle.pungi_affine.proofs.Products.{long_fits}
use Rattle.pungi_affine.proofs.form.divided_scale.Goals as goal

pub returns : goal.returns
returns c =
    let f = long_fits c.args.form.now.scale c.requires.long in
    ap (λ y. c.args.g *ℤ y) (quot_is w128 c.args.form.now.scale c.args.g f c.ranges.g
    (quot_fits w128 c.args.form.now.scale c.args.g f c.requires.g))
    ∙ quot_exact c.args.g c.args.form.now.scale c.requires.g c.requires.divides
