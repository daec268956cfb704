use Rattle.std.proofs.lemmas.Result.{err_from_is_err_and}
use Rattle.pungi_fixpoint.specs.Solver.{sets}
use Rattle.pungi_domain.specs.Annotations.{met}
use Rattle.pungi_fixpoint.specs.declared.duty_kind.DutyKind.TheVariants.{OfExits}
use Rattle.pungi_fixpoint.proofs.Checks.{meets_both, safe_both}
use Rattle.pungi_fixpoint.proofs.solver.solve.Goals as goal

pub returns-clause-safe : goal.returns-clause-safe
returns-clause-safe g c =
    meets_both c.args.program.now (sets g.D.Domain.member c.in_ok-annotation.annotation.at)
    c.in_ok-check_duties.ensures.safe c.in_ok-check_duties-2.ensures.safe

pub returns-in_err-check_duties-2-clause-not_safe : goal.returns-in_err-check_duties-2-clause-not_safe
returns-in_err-check_duties-2-clause-not_safe g c l k e rows h =
    let p = err_from_is_err_and c.from_residual-in_err-check_duties-2.result
    c.from_residual-in_err-check_duties-2.ensures.1 in
    c.check_duties-2.ensures.not_safe l k (cc (p.1, p.2, c.in_err-check_duties-2.was, e)) rows h.widths
    (c.in_ok-annotation.ensures.least l rows h.widths h.inductive)
    (safe_both c.args.program.now (met rows.at) OfExits h.safe)
