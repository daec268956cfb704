use Rattle.pungi_shape.specs.Promises.{vectors_of}
use Rattle.pungi_shape.proofs.sound.Balanced.{sets_balanced}
use Rattle.pungi_shape.proofs.safe.values_are_balanced_among.Goals as goal

pub returns : goal.returns
returns g c = λ codes f code at exits formed is safe. sets_balanced codes f code
    (λ h k. vectors_of g.D.Domain.member (at h k)) (λ h k. vectors_of g.D.Domain.member (exits h k)) formed is safe
