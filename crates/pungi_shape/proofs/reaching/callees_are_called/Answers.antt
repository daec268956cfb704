use Rattle.pungi_shape.proofs.sound.InOrder.{numbers_have, numbers_only}
use Rattle.pungi_shape.proofs.reaching.callees_are_called.Goals as goal

pub returns : goal.returns
returns c = λ codes f g. (numbers_only _ g, numbers_have _ g)
