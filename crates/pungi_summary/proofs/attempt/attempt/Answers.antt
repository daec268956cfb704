use Rattle.std.proofs.Common.{inl}
use Rattle.std.specs.List.{slice_index_or}
use Rattle.std.specs.Prelude.{[]}
use Rattle.std.proofs.lemmas.Result.{err_from_is_err_and}
use Rattle.pungi_fixpoint.specs.Summaries.{exit_of}
use Rattle.pungi_summary.proofs.Attempts.{fit_growth, range_place}
use Rattle.pungi_summary.proofs.attempt.attempt.Goals as goal

pub returns-in_err-annotation-clause-range : goal.returns-in_err-annotation-clause-range
returns-in_err-annotation-clause-range g c k row e =
    let p = err_from_is_err_and c.from_residual.result c.from_residual.ensures.1 in
    let large = c.annotate.ensures.range k row (cc (p.1, p.2, c.in_err-annotation.was, e)) in (
      range_place g.D.Domain.least g.D.Domain.member c.args.program.now (exit_of c.args.summaries.now.exits) k row
          large,
      inl (k, large),
    )

pub returns-in_err-failing-clause-range : goal.returns-in_err-failing-clause-range
returns-in_err-failing-clause-range g c k row e =
    let p = err_from_is_err_and c.from_residual-in_err-failing.result c.from_residual-in_err-failing.ensures.1 in
    let large = c.failing_duties.ensures.range k row (cc (p.1, p.2, c.in_err-failing.was, e))
    (exit_of c.args.summaries.now.exits) c.in_ok-annotation.ensures.built in (
      range_place g.D.Domain.least g.D.Domain.member c.args.program.now (exit_of c.args.summaries.now.exits) k row
          large,
      inl (k, large),
    )

pub exits_with_annotation-requires-clause-fits : goal.exits_with_annotation-requires-clause-fits
exits_with_annotation-requires-clause-fits g c =
    fit_growth g.D.Domain.width_of c.args.program.now (slice_index_or c.args.summaries.now.exits c.args.f [])
    c.in_ok-annotation.annotation.at c.in_ok-annotation.annotation.exits c.requires.values
    c.in_ok-annotation.ensures.widths
