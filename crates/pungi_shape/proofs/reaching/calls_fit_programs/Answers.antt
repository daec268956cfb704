use Rattle.pungi_shape.proofs.sound.CallsFit.{call_fits}
use Rattle.pungi_shape.proofs.reaching.calls_fit_programs.Goals as goal

pub returns : goal.returns
returns c = λ codes others f g n onto p call are is. call_fits codes others f g n onto p call are is
