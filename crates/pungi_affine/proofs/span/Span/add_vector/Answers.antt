use Rattle.pungi_domain.specs.Vectors.{at}
use Rattle.pungi_affine.specs.Forms.{vectors}
use Rattle.pungi_affine.proofs.AddLemmas.{member_plus}
use Rattle.pungi_affine.proofs.span.Span.add_vector.Goals as goal

pub returns-in_default-clause-members : goal.returns-in_default-clause-members
returns-in_default-clause-members c =
    member_plus c.args.self.now.width (vectors c.args.self.now.lines) (at c.args.vector.now)
    (rw c.in_default.is at c.in_ok-grown.ensures.adds)
