use Rattle.std.proofs.Common.{◌≡◌, ◌∙◌, ℕ, Some, sym}
use Rattle.std.proofs.lemmas.Result.{err_from_is_err_and, on_ok_weaker, IfOk-at_ok}
use Rattle.pungi_domain.specs.Builds.{LargeTurn, span_at}
use Rattle.pungi_domain.specs.Spans.{LargeGrow}
use Rattle.pungi_fixpoint.specs.Sent.{LargeSent}
use Rattle.pungi_fixpoint.specs.Summaries.{exit_of}
use Rattle.pungi_fixpoint.specs.Turns.{IsGrown}
use Rattle.pungi_fixpoint.proofs.Faults.{range_weaker, only_weaker}
use Rattle.pungi_fixpoint.proofs.Turns.{target_at, target_width, widths_after, takes_new, takes_none, turn_made}
use Rattle.pungi_fixpoint.proofs.Turns.{large_made, large_taken}
use Rattle.pungi_fixpoint.proofs.turn.turn.Goals as goal

pub sent_over-requires-clause-width : goal.sent_over-requires-clause-width
sent_over-requires-clause-width g c =
    c.requires.widths.at_widths c.args.edge.now.from c.place-source.result.now c.place-source.ensures

pub returns-in_err-sent_over-clause-range : goal.returns-in_err-sent_over-clause-range
returns-in_err-sent_over-clause-range g c =
    let d = g.D.Domain in
    let p = err_from_is_err_and c.from_residual.result c.from_residual.ensures.1 in
    let p0 = c.args.program.now in
    let exit = exit_of c.args.summaries.now.exits in
    let e = c.args.edge.now in
    let old = c.args.stage.now in
    let s = c.place-source.result.now in
    rw (p.1, p.2) (range_weaker ℕ ℕ (LargeSent d.least d.member p0 exit e s) (LargeTurn d.least d.member p0 exit e old)
    c.in_err-sent_over.field-0.0 (λ r h. large_made d.least d.member p0 exit e old s r c.place-source.ensures h)
    c.in_err-sent_over.ensures.range)

pub returns-in-None-clause-taken : goal.returns-in-None-clause-taken
returns-in-None-clause-taken g c =
    takes_none g.D.Domain.member c.args.program.now c.args.summaries.now.exits c.args.edge.now c.args.stage.now
    c.args.stage.now (rw c.in-None.is at c.in_ok-sent_over.ensures.sent)

pub grow-requires : goal.grow-requires
grow-requires g c =
    let d = g.D.Domain in
    let old = c.args.stage.now in
    let e = c.args.edge.now in
    let t = target_at d.width_of c.args.program.now old e.to c.requires.widths c.requires.edge.to in
    let w = rw c.in-Some.is at c.in_ok-sent_over.ensures.width in
    record {
      within = (t.0, t.1, target_width d.width_of c.args.program.now old e.to t.0 c.requires.widths t.1 ∙ sym w);
    }

pub returns-in-Some-clause-widths : goal.returns-in-Some-clause-widths
returns-in-Some-clause-widths g c =
    let d = g.D.Domain in
    widths_after d.least d.member d.width_of c.args.program.now c.args.stage.now c.grow.new.self c.args.edge.now.to
    c.in-Some.value c.grow.result c.requires.widths c.grow.ensures.grown c.grow.ensures.err

pub returns-in-Some-clause-turned : goal.returns-in-Some-clause-turned
returns-in-Some-clause-turned g c = λ ok.
    let d = g.D.Domain in
    let old = c.args.stage.now in
    let e = c.args.edge.now in
    turn_made d.least d.member d.width_of c.args.program.now (exit_of c.args.summaries.now.exits) e old
    c.grow.new.self c.place-source.result.now c.in-Some.value c.requires.widths c.place-source.ensures
    (rw c.in-Some.is at c.in_ok-sent_over.ensures.sent)
    (IfOk-at_ok (λ _. IsGrown d.least d.member d.width_of old e.to c.in-Some.value c.grow.new.self) ok
    c.grow.ensures.grown)

pub returns-in-Some-clause-taken : goal.returns-in-Some-clause-taken
returns-in-Some-clause-taken g c =
    let d = g.D.Domain in
    let laws = g.met.D.Domain in
    on_ok_weaker c.grow.result
    (λ h. takes_new d.least d.member d.width_of c.args.program.now c.args.summaries.now.exits c.args.edge.now
    c.args.stage.now c.grow.new.self c.place-source.result.now c.in-Some.value laws.same laws.sum c.requires.edge
    c.place-source.ensures (rw c.in-Some.is at c.in_ok-sent_over.ensures.sent)
    (rw c.in-Some.is at c.in_ok-sent_over.ensures.width) h) c.grow.ensures.grown

pub returns-in-Some-clause-range : goal.returns-in-Some-clause-range
returns-in-Some-clause-range g c =
    let d = g.D.Domain in
    let old = c.args.stage.now in
    let e = c.args.edge.now in
    only_weaker (λ r. (t : g.row.D.Denot) × (span_at old e.to ≡ Some t)
    × LargeGrow (d.width_of t) (d.member t) (d.member c.in-Some.value) r)
    (LargeTurn d.least d.member c.args.program.now (exit_of c.args.summaries.now.exits) e old) c.grow.result
    (λ r h. large_taken d.least d.member d.width_of c.args.program.now (exit_of c.args.summaries.now.exits) e old
    c.place-source.result.now c.in-Some.value r c.requires.widths c.place-source.ensures
    (rw c.in-Some.is at c.in_ok-sent_over.ensures.sent) h) c.grow.ensures.range
