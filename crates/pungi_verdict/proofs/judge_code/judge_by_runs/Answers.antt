use Rattle.std.proofs.Common.{◌≡◌, true, inl, ap, ◌∙◌, subst}
use Rattle.pungi_base.specs.declared.witness.Witness.{Witness}
use Rattle.pungi_meaning.specs.Entries.{entry_fits}
use Rattle.pungi_resolved.specs.ActionView.{function_view}
use Rattle.pungi_explore.specs.declared.explored.Explored.{Explored}
use Rattle.pungi_explore.specs.Explored.{IsExplored}
use Rattle.pungi_idle.specs.IdleCode.{idle}
use Rattle.pungi_verdict.proofs.Idled.{has-form, has-immortals, idle-balanced, idle-fault}
use Rattle.pungi_verdict.proofs.Transport.{clean, fits-of, uneven-of}
use Rattle.pungi_verdict.proofs.judge_code.judge_by_runs.Goals as goal

pub returns-in-AllBalanced-clause-sound : goal.returns-in-AllBalanced-clause-sound
returns-in-AllBalanced-clause-sound c = λ fs alike.
    let code = c.args.code.now in
    let law = c.idle_runs_alike.ensures in
    let shown = subst (λ (e : Explored). IsExplored c.args.codes.now c.args.i e) c.in-AllBalanced.is
    c.in_ok-explored.ensures.shown in (
      c.requires.given.meant,
      clean fs c.args.codes.now.statics (function_view c.args.f.now) c.args.code.now c.requires.given c.requires.none
          alike (idle-balanced c.args.codes.now.statics code law (shown (idle code) c.requires.code).0),
    )

pub returns-in-AllBalanced-clause-decided : goal.returns-in-AllBalanced-clause-decided
returns-in-AllBalanced-clause-decided c =
    let shown = subst (λ (e : Explored). IsExplored c.args.codes.now c.args.i e) c.in-AllBalanced.is
    c.in_ok-explored.ensures.shown in
    inl (λ code has. (shown code has).1.0, λ code has. (shown code has).1.1)

pub explore-requires-clause-formed : goal.explore-requires-clause-formed
explore-requires-clause-formed c =
    has-form c.requires.given.callees c.args.codes.now c.args.i c.args.code.now c.requires.code c.requires.given.formed
    c.requires.given.there

pub explore-requires-clause-immortals : goal.explore-requires-clause-immortals
explore-requires-clause-immortals c =
    has-immortals c.args.codes.now c.args.i c.args.code.now c.requires.code c.requires.given.immortals

pub replay-requires-clause-alike : goal.replay-requires-clause-alike
replay-requires-clause-alike c =
    let code = c.args.code.now in
    let law = c.idle_runs_alike.ensures in
    let shown = subst (λ (e : Explored). IsExplored c.args.codes.now c.args.i e) c.in-Fault.is
    c.in_ok-explored.ensures.shown in (
      c.args.codes.now.statics,
      (
        fits-of c.args.codes.now.statics (function_view c.args.f.now) code c.in_ok-witness-in-Fault.witness
            c.requires.given (idle-fault c.args.codes.now.statics code c.in-Fault.found c.in_ok-witness-in-Fault.witness
            c.in_ok-witness-in-Fault.ensures law (shown (idle code) c.requires.code)),
        c.requires.runs,
      ),
    )

pub replay-requires-clause-terms : goal.replay-requires-clause-terms
replay-requires-clause-terms c = c.requires.given.terms

pub replay-requires-clause-formed : goal.replay-requires-clause-formed
replay-requires-clause-formed c = (c.requires.given.callees, c.requires.given.formed)

pub replay-requires-clause-uneven : goal.replay-requires-clause-uneven
replay-requires-clause-uneven c =
    let code = c.args.code.now in
    let law = c.idle_runs_alike.ensures in
    let shown = subst (λ (e : Explored). IsExplored c.args.codes.now c.args.i e) c.in-Fault.is
    c.in_ok-explored.ensures.shown in
    uneven-of c.args.codes.now.statics code c.in_ok-witness-in-Fault.witness
    (idle-fault c.args.codes.now.statics code c.in-Fault.found c.in_ok-witness-in-Fault.witness c.in_ok-witness-in-Fault.ensures law
    (shown (idle code) c.requires.code))

pub returns-in_ok-fault-in-Fault-clause-sound : goal.returns-in_ok-fault-in-Fault-clause-sound
returns-in_ok-fault-in-Fault-clause-sound c = λ fs alike.
    let code = c.args.code.now in
    let law = c.idle_runs_alike.ensures in
    let shown = subst (λ (e : Explored). IsExplored c.args.codes.now c.args.i e) c.in-Fault.is
    c.in_ok-explored.ensures.shown in
    let n = c.args.codes.now.statics in
    let f = function_view c.args.f.now in
    let fits : entry_fits f.params n c.in_ok-witness-in-Fault.witness.input ≡ true =
    fits-of n f code c.in_ok-witness-in-Fault.witness c.requires.given (idle-fault n code c.in-Fault.found
    c.in_ok-witness-in-Fault.witness c.in_ok-witness-in-Fault.ensures law (shown (idle code) c.requires.code)) in (
      c.requires.given.meant,
      record {
        entry = ap (λ (w : Witness). entry_fits f.params n w.input) c.in_ok-fault-in-Fault.ensures.witness ∙ fits;
        returns = c.in_ok-fault-in-Fault.ensures.returns fs n fits alike;
      },
    )
