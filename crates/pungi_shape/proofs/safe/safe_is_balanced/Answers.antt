use Rattle.pungi_domain.specs.Annotations.{met}
use Rattle.pungi_shape.proofs.sound.Safe.{sets_alone_balanced}
use Rattle.pungi_shape.proofs.safe.safe_is_balanced.Goals as goal

pub returns : goal.returns
returns c = λ codes f code p a are is program annotation. sets_alone_balanced codes f code p (met a.at) (met a.exits)
    are is program annotation.inductive annotation.safe
