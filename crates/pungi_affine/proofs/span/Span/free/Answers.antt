use Rattle.std.proofs.Common.{pos, refl}
use Rattle.pungi_domain.specs.Vectors.{Vector, Freed, Follows}
use Rattle.pungi_domain.specs.Spans.{Plus, unit}
use Rattle.pungi_affine.specs.Spans.{SameMembers}
use Rattle.pungi_affine.specs.Forms.{vectors}
use Rattle.pungi_affine.specs.States.{SpanMember}
use Rattle.pungi_affine.proofs.Closure.{in_zero}
use Rattle.pungi_affine.proofs.Ranges.{if_ok_to}
use Rattle.pungi_affine.proofs.Units.{freed_plus, freed_least}
use Rattle.pungi_affine.proofs.span.Span.free.Goals as goal

pub returns-clause-members : goal.returns-clause-members
returns-clause-members c =
    if_ok_to c.freed_span.result (λ s. SameMembers (Plus c.args.self.now.width (SpanMember c.args.self.now)
    (unit c.args.coordinate)) (SpanMember s)) (λ s. (v : Vector)
    → Freed c.args.coordinate (SpanMember c.args.self.now) v → SpanMember s v)
    (λ s h v f. h.to v (freed_plus c.args.self.now.width c.args.coordinate (SpanMember c.args.self.now) v f))
    c.freed_span.ensures.members

pub returns-clause-least : goal.returns-clause-least
returns-clause-least c =
    if_ok_to c.freed_span.result (λ s. SameMembers (Plus c.args.self.now.width (SpanMember c.args.self.now)
    (unit c.args.coordinate)) (SpanMember s)) (λ s. Follows c.args.self.now.width
    (Freed c.args.coordinate (SpanMember c.args.self.now)) (SpanMember s))
    (λ s h. freed_least c.args.self.now.width c.args.coordinate (SpanMember c.args.self.now) (SpanMember s)
    (in_zero c.args.self.now.width (vectors c.args.self.now.lines) (λ i. pos 0) (λ i lt. refl)) h)
    c.freed_span.ensures.members
