use Rattle.pungi_shape.specs.Promises.{vectors_of}
use Rattle.pungi_shape.proofs.sound.Safe.{sets_alone_balanced}
use Rattle.pungi_shape.proofs.safe.values_are_balanced.Goals as goal

pub returns : goal.returns
returns g c = λ codes f code p at exits are is program kept safe. sets_alone_balanced codes f code p
    (λ k. vectors_of g.D.Domain.member (at k)) (λ k. vectors_of g.D.Domain.member (exits k)) are is program kept safe
