use Rattle.pungi_domain.specs.Annotations.{met}
use Rattle.pungi_shape.proofs.sound.Balanced.{sets_balanced}
use Rattle.pungi_shape.proofs.safe.safe_rows_are_balanced.Goals as goal

pub returns : goal.returns
returns c = λ codes f code rows formed is safe. sets_balanced codes f code (λ g. met (rows g).at)
    (λ g. met (rows g).exits) formed is safe
