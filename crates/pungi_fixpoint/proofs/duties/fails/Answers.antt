use Rattle.std.proofs.Common.{◌≡◌, Bool, true, false, not, Result, Ok, refl, sym, subst}
use Rattle.pungi_domain.specs.declared.domain_fault.DomainFault.{DomainFault}
use Rattle.pungi_fixpoint.specs.Turns.{or_else}
use Rattle.pungi_fixpoint.proofs.Sends.{met_members}
use Rattle.pungi_fixpoint.proofs.duties.fails.Goals as goal

not_false : (b : Bool) → ◌≡◌ {A = Result Bool DomainFault} (Ok (not b)) (Ok false) → b ≡ true
not_false true e = refl
not_false false e = absurd (cc)

pub returns-clause-safe : goal.returns-clause-safe
returns-clause-safe g c = λ no v stands guard.
    let d = g.D.Domain in
    let s = c.args.source.now in
    let m = or_else c.in_ok-met.met s in
    let met = rw c.as_slice.ensures at c.in_ok-met.ensures.met in
    let holds = rw c.as_slice-2.ensures at (c.all_hold-holds.ensures.holds (not_false c.all_hold-holds.result no) v) in
    holds (subst (λ x. d.member x v) (sym c.or_source.ensures)
    (met_members d.least d.member (d.width_of s) c.args.edge.now.guard s m v met stands guard))
