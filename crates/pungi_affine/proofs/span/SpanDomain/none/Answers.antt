use Rattle.std.proofs.Common.{sym, subst}
use Rattle.pungi_domain.specs.Vectors.{Follows}
use Rattle.pungi_domain.specs.Spans.{Zero}
use Rattle.pungi_affine.specs.States.{SpanState, SpanMember}
use Rattle.pungi_affine.proofs.Members.{zero_span}
use Rattle.pungi_affine.proofs.span.SpanDomain.none.Goals as goal

pub returns-clause-least : goal.returns-clause-least
returns-clause-least c =
    λ yes. subst (λ (s : SpanState). Follows c.args.width (Zero c.args.width) (SpanMember s))
    (sym c.in_ok-span.ensures.value) (λ e len meets v m. meets v ((zero_span c.args.width).back v m))
