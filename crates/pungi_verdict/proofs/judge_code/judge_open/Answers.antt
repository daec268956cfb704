use Rattle.std.proofs.Common.{sym, subst}
use Rattle.pungi_resolved.specs.ActionView.{function_view}
use Rattle.pungi_verdict.specs.Causes.{IsDecided}
use Rattle.pungi_verdict.specs.Relations.{IsTried}
use Rattle.pungi_verdict.specs.Sound.{IsTrueOf}
use Rattle.pungi_verdict.specs.declared.relations.Tried.{Tried}
use Rattle.pungi_idle.specs.IdleCode.{idle}
use Rattle.pungi_verdict.proofs.Idled.{idle-balanced}
use Rattle.pungi_verdict.proofs.Related.{after-decided, after-true, related-balanced}
use Rattle.pungi_verdict.proofs.Transport.{clean}
use Rattle.pungi_verdict.proofs.judge_code.judge_open.Goals as goal

pub returns-clause-sound : goal.returns-clause-sound
returns-clause-sound c = λ fs alike.
    let codes = c.args.codes.now in
    let code = c.args.code.now in
    let f = function_view c.args.f.now in
    let given = c.requires.given in
    subst (IsTrueOf fs codes.statics f) (sym c.verdict_after.ensures) (after-true fs codes.statics f c.args.reason
    c.in_ok-tried.tried (λ found. (
      given.meant,
      clean fs codes.statics f code given c.requires.none alike
          (idle-balanced codes.statics code c.idle_runs_alike.ensures
          (related-balanced c.values_are_balanced.ensures codes c.args.i (idle code) c.requires.alone c.requires.code
          (subst (λ (t : Tried). IsTried codes c.args.i t) found c.in_ok-tried.ensures))),
    )))

pub returns-clause-decided : goal.returns-clause-decided
returns-clause-decided c =
    subst (IsDecided c.args.codes.now c.args.i) (sym c.verdict_after.ensures) (after-decided c.args.codes.now c.args.i
    c.args.reason c.in_ok-tried.tried c.requires.left_open c.in_ok-tried.ensures)
