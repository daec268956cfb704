use Rattle.pungi_affine.proofs.span.SpanDomain.meet.Goals as goal

pub returns-clause-members : goal.returns-clause-members
returns-clause-members c = λ v m. c.in_ok-span.ensures.members.to v m

pub returns-clause-least : goal.returns-clause-least
returns-clause-least c = λ yes e len meets u m. meets u (c.in_ok-span.ensures.members.back u m)
