use Rattle.std.proofs.Common.{arith}
use Rattle.std.proofs.lemmas.Int.{ints}
use Rattle.pungi_world.proofs.escapes.total.Goals as goal

pub returns : goal.returns
returns c = omega (arith, ints)
