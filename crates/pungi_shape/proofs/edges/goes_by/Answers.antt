use Rattle.std.proofs.Common.{refl}
use Rattle.pungi_shape.proofs.edges.goes_by.Goals as goal

pub returns : goal.returns
returns c = rw (c.in_ok-place.ensures, c.into_parts-shape.ensures) refl
