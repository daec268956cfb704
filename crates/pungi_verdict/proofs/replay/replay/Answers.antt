use Rattle.std.proofs.Common.{◌*◌, map, sym, ap, ◌∙◌, arith}
use Rattle.pungi_resolve.specs.Resolutions.{resolution_view}
use Rattle.pungi_resolved.specs.ActionView.{function_view}
use Rattle.pungi_meaning.specs.Outcomes.{end_of}
use Rattle.pungi_verdict.proofs.Transport.{ends-so, replayed}
use Rattle.pungi_verdict.proofs.Weighed.{off-too, not-stopped, not-wanting, not-out, told}
use Rattle.pungi_verdict.proofs.replay.replay.Goals as goal

pub weigh-requires-clause-off : goal.weigh-requires-clause-off
weigh-requires-clause-off c =
    let u = c.requires.uneven in
    let h = c.requires.alike in
    let e = ends-so (map resolution_view c.args.functions.now) h.0 (function_view c.args.f.now) c.args.code.now
    c.args.witness h.1.0 h.1.1 c.requires.formed u c.as_slice.result.now (end_of c.in_ok-outcome.outcome)
    c.as_slice.ensures
    c.in_ok-outcome.ensures.end in
    off-too c.args.code.now.terms (function_view c.args.f.now).terms c.args.witness.input c.in-Returned.world u.world
    c.in-Returned.value u.value c.in-Returned.pos u.at c.in-Returned.used.items u.used c.requires.terms
    (sym (ap end_of c.in-Returned.is) ∙ e) u.off

pub unreachable-requires : goal.unreachable-requires
unreachable-requires c =
    let u = c.requires.uneven in
    let h = c.requires.alike in
    let e = ends-so (map resolution_view c.args.functions.now) h.0 (function_view c.args.f.now) c.args.code.now
    c.args.witness h.1.0 h.1.1 c.requires.formed u c.as_slice.result.now (end_of c.in_ok-outcome.outcome)
    c.as_slice.ensures
    c.in_ok-outcome.ensures.end in
    not-stopped c.in-Stopped.field-0 u.world u.value u.at u.used (sym (ap end_of c.in-Stopped.is) ∙ e)

pub unreachable-requires-in-NeedsChoice : goal.unreachable-requires-in-NeedsChoice
unreachable-requires-in-NeedsChoice c =
    let u = c.requires.uneven in
    let h = c.requires.alike in
    let e = ends-so (map resolution_view c.args.functions.now) h.0 (function_view c.args.f.now) c.args.code.now
    c.args.witness h.1.0 h.1.1 c.requires.formed u c.as_slice.result.now (end_of c.in_ok-outcome.outcome)
    c.as_slice.ensures
    c.in_ok-outcome.ensures.end in
    not-wanting u.world u.value u.at u.used (sym (ap end_of c.in-NeedsChoice.is) ∙ e)

pub unreachable-requires-in-OutOfFuel : goal.unreachable-requires-in-OutOfFuel
unreachable-requires-in-OutOfFuel c =
    let u = c.requires.uneven in
    let h = c.requires.alike in
    let e = ends-so (map resolution_view c.args.functions.now) h.0 (function_view c.args.f.now) c.args.code.now
    c.args.witness h.1.0 h.1.1 c.requires.formed u c.as_slice.result.now (end_of c.in_ok-outcome.outcome)
    c.as_slice.ensures
    c.in_ok-outcome.ensures.end in
    not-out u.world u.value u.at u.used (sym (ap end_of c.in-OutOfFuel.is) ∙ e)

pub returns-clause-returns : goal.returns-clause-returns
returns-clause-returns c = λ fs n fits alike.
    let f = function_view c.args.f.now in
    let w = c.args.witness in
    let u = c.requires.uneven in
    let h = c.requires.alike in
    let e = ends-so (map resolution_view c.args.functions.now) h.0 f c.args.code.now w h.1.0 h.1.1 c.requires.formed u
    c.as_slice.result.now (end_of c.in_ok-outcome.outcome) c.as_slice.ensures c.in_ok-outcome.ensures.end in
    let same = sym (ap end_of c.in-Returned.is) ∙ e in
    let run = replayed fs n f c.args.code.now w fits alike c.requires.formed u 65534 (omega arith) ∙ sym same in
    told fs f c.args.code.now w u (65536 * 65535) c.in-Returned.world c.in-Returned.value c.in-Returned.pos
    c.in-Returned.used.items c.weigh.result run same c.weigh.ensures.witness c.weigh.ensures.place
    c.weigh.ensures.places c.weigh.ensures.told
