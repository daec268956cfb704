use Rattle.std.proofs.Common.{inr, sym, ◌∙◌}
use Rattle.pungi_resolved.specs.ActionView.{function_view}
use Rattle.pungi_idle.specs.IdleCode.{idle}
use Rattle.pungi_verdict.proofs.Idled.{idle-balanced}
use Rattle.pungi_verdict.proofs.Related.{found-related, related-balanced}
use Rattle.pungi_verdict.proofs.Transport.{clean}
use Rattle.pungi_verdict.proofs.judge_code.judge_by_equations.Goals as goal

pub returns-then-is_found-clause-sound : goal.returns-then-is_found-clause-sound
returns-then-is_found-clause-sound c = λ fs alike.
    let codes = c.args.codes.now in
    let code = c.args.code.now in
    let f = function_view c.args.f.now in
    let given = c.requires.given in (
      given.meant,
      clean fs codes.statics f code given c.requires.none alike
          (idle-balanced codes.statics code c.idle_runs_alike.ensures
          (related-balanced c.values_are_balanced.ensures codes c.args.i (idle code) c.requires.alone c.requires.code
          (found-related codes c.args.i c.in_ok-tried.tried
          (sym c.is_found.ensures ∙ c.if-is_found.true) c.in_ok-tried.ensures))),
    )

pub returns-then-is_found-clause-decided : goal.returns-then-is_found-clause-decided
returns-then-is_found-clause-decided c =
    inr (found-related c.args.codes.now c.args.i c.in_ok-tried.tried (sym c.is_found.ensures ∙ c.if-is_found.true)
    c.in_ok-tried.ensures)
