use Rattle.std.proofs.Common.{◌∙◌, ◌+◌, take, ap}
use Rattle.pungi_shape.specs.declared.point.Point.{Point}
use Rattle.pungi_shape.specs.declared.shape.Shape.{Shape}
use Rattle.pungi_shape.specs.Edges.{settle, point_of}
use Rattle.pungi_shape.specs.Places.{at_point}
use Rattle.pungi_shape.specs.Shapes.{count_of_numbers}
use Rattle.pungi_shape.proofs.SkipLemmas.{freed-edge}
use Rattle.pungi_shape.proofs.edges.frees_there.Goals as goal

pub returns : goal.returns
returns c =
    let code = c.args.code.now in
    let a = c.new-2.ensures in
    let b = c.new.ensures.items in
    let d = c.new-4.ensures in
    let e = c.new-3.ensures.items in
    freed-edge code c.args.p c.args.shape.now c.in_ok-place.place c.args.x c.count_of_numbers.result c.new-2.result
    c.new-4.result (c.in_ok-place.ensures ∙ ap (λ (q : Point). settle code (at_point q c.in_ok-copy.field-0))
    c.start_of.ensures ∙ ap (λ (s : Shape). settle code (at_point (point_of (c.args.p.instr + 1) 0 0) s))
    c.in_ok-copy.ensures) (cc) (cc) (c.count_of_numbers.ensures.count ∙ ap (λ vs. count_of_numbers (take c.args.x vs))
    c.as_slice.ensures) c.requires.variable
