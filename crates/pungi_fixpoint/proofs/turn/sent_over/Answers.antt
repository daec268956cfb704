use Rattle.std.proofs.Common.{ℕ, inl, ap, subst}
use Rattle.std.specs.List.{slice_index_or}
use Rattle.std.proofs.lemmas.Result.{err_from_is_err_and}
use Rattle.pungi_domain.specs.Builds.{LargeAct, LargeMet}
use Rattle.pungi_domain.specs.Programs.{width_at}
use Rattle.pungi_fixpoint.specs.Sent.{LargeSent}
use Rattle.pungi_fixpoint.specs.Summaries.{exit_of}
use Rattle.pungi_fixpoint.proofs.Faults.{range_weaker, only_weaker}
use Rattle.pungi_fixpoint.proofs.Turns.{guard_met, sent_made, sent_wide, sent_large}
use Rattle.pungi_fixpoint.proofs.turn.sent_over.Goals as goal

pub returns-in_err-met-clause-range : goal.returns-in_err-met-clause-range
returns-in_err-met-clause-range g c =
    let d = g.D.Domain in
    let p0 = c.args.program.now in
    let e = c.args.edge.now in
    let s = c.args.source.now in
    let p = err_from_is_err_and c.from_residual.result c.from_residual.ensures.1 in
    rw (p.1, p.2) (range_weaker ℕ ℕ (LargeMet d.least d.member (d.width_of s) c.as_slice-2.result.now s)
    (LargeSent d.least d.member p0 (exit_of c.args.summaries.now.exits) e s) c.in_err-met.field-0.0
    (λ r h. inl (subst (λ w. LargeMet d.least d.member w e.guard s r) c.requires.width
    (subst (λ l. LargeMet d.least d.member (d.width_of s) l s r) c.as_slice-2.ensures h))) c.in_err-met.ensures.range)

pub returns-clause-sent : goal.returns-clause-sent
returns-clause-sent g c =
    let d = g.D.Domain in
    let p0 = c.args.program.now in
    let e = c.args.edge.now in
    let s = c.args.source.now in
    let m = c.or_source.result.now in
    let from = ap (λ l. slice_index_or l e.from 0) c.as_slice.ensures in
    let met = rw c.as_slice-2.ensures at c.in_ok-met.ensures.met in
    sent_made d.least d.member d.width_of p0 (exit_of c.args.summaries.now.exits) e s m
    (slice_index_or c.as_slice.result.now e.from 0) c.width_of_target-width.result c.sent.result from
    c.width_of_target-width.ensures.width
    (guard_met d.least d.member (d.width_of s) (width_at p0 e.from) e.guard s m c.in_ok-met.met c.requires.width
    c.or_source.ensures met) c.sent.ensures.sent

pub returns-clause-width : goal.returns-clause-width
returns-clause-width g c =
    let d = g.D.Domain in
    sent_wide d.least d.member d.width_of c.args.program.now (exit_of c.args.summaries.now.exits) c.args.edge.now
    c.or_source.result.now (slice_index_or c.as_slice.result.now c.args.edge.now.from 0)
    c.width_of_target-width.result c.sent.result c.width_of_target-width.ensures.width c.sent.ensures.sent

pub returns-clause-range : goal.returns-clause-range
returns-clause-range g c =
    let d = g.D.Domain in
    let p0 = c.args.program.now in
    let e = c.args.edge.now in
    let s = c.args.source.now in
    let m = c.or_source.result.now in
    let w = slice_index_or c.as_slice.result.now e.from 0 in
    let z = c.width_of_target-width.result in
    let exit = exit_of c.args.summaries.now.exits in
    let from = ap (λ l. slice_index_or l e.from 0) c.as_slice.ensures in
    let met = rw c.as_slice-2.ensures at c.in_ok-met.ensures.met in
    let guard = guard_met d.least d.member (d.width_of s) (width_at p0 e.from) e.guard s m c.in_ok-met.met
    c.requires.width c.or_source.ensures met in
    only_weaker (LargeAct d.least d.member exit w z e.action m) (LargeSent d.least d.member p0 exit e s) c.sent.result
    (λ r h. sent_large d.least d.member p0 exit e s m w z r from c.width_of_target-width.ensures.width guard h)
    c.sent.ensures.range
