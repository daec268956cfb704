use Rattle.pungi_shape.proofs.sound.Reaches.{by_calls, from_calls}
use Rattle.pungi_shape.proofs.reaching.functions_are_reached.Goals as goal

pub returns : goal.returns
returns c = λ codes f h. (by_calls codes f h, from_calls codes f h)
