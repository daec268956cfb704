use Rattle.std.proofs.Common.{refl}
use Rattle.pungi_shape.proofs.shape.Shape.holding_of.Goals as goal

pub returns-in-Static : goal.returns-in-Static
returns-in-Static c = λ s e. rw (c.static_holding.ensures, c.as_slice-in-Static.ensures, c.in-Static.is, e) refl
