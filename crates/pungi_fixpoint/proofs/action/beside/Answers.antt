use Rattle.std.proofs.Common.{◌∙◌, ◌-◌, ℕ, inl, inr, subst}
use Rattle.std.proofs.lemmas.Result.{err_from_is_err_and}
use Rattle.pungi_domain.specs.Builds.{source_rows, exit_rows}
use Rattle.pungi_domain.specs.Spans.{LargeGrow, LargeMap}
use Rattle.pungi_fixpoint.specs.Calls.{LargeBeside}
use Rattle.pungi_fixpoint.proofs.Faults.{range_only, range_weaker}
use Rattle.pungi_fixpoint.proofs.Rows.{covers_union}
use Rattle.pungi_fixpoint.proofs.action.beside.Goals as goal

pub returns-clause-beside : goal.returns-clause-beside
returns-clause-beside g c =
    let d = g.D.Domain in
    let value = c.in_ok-value.value in
    let exit = c.in_ok-exit.exit in (
      value,
      exit,
      c.in_ok-value.ensures.covers,
      c.in_ok-exit.ensures.covers,
      covers_union d.least (d.width_of value)
          c.args.width (d.member value) (d.member exit) (d.member c.grow.new.self) c.in_ok-value.ensures.width
          c.in_ok-grow.ensures.kept c.in_ok-grow.ensures.taken c.in_ok-grow.ensures.least,
    )

pub returns-clause-width : goal.returns-clause-width
returns-clause-width g c = c.in_ok-grow.ensures.width ∙ c.in_ok-value.ensures.width

pub returns-in_err-value-clause-range : goal.returns-in_err-value-clause-range
returns-in_err-value-clause-range g c =
    let d = g.D.Domain in
    let p = err_from_is_err_and c.from_residual.result c.from_residual.ensures.1 in
    rw (p.1, p.2) (range_weaker ℕ ℕ (LargeMap c.args.from (source_rows c.args.from c.args.width)
    (d.member c.args.source.now)) (LargeBeside d.least d.member c.args.from c.args.width c.args.source.now
    c.args.exit.now) c.in_err-value.field-0.0 (λ r h. inl h) c.in_err-value.ensures.range)

pub returns-in_err-exit-clause-range : goal.returns-in_err-exit-clause-range
returns-in_err-exit-clause-range g c =
    let d = g.D.Domain in
    let p = err_from_is_err_and c.from_residual-in_err-exit.result c.from_residual-in_err-exit.ensures.1 in
    rw (p.1, p.2) (range_weaker ℕ ℕ (LargeMap (c.args.width - c.args.from) (exit_rows c.args.from c.args.width)
    (d.member c.args.exit.now)) (LargeBeside d.least d.member c.args.from c.args.width c.args.source.now
    c.args.exit.now) c.in_err-exit.field-0.0 (λ r h. inr (inl h)) c.in_err-exit.ensures.range)

pub returns-in_err-grow-clause-range : goal.returns-in_err-grow-clause-range
returns-in_err-grow-clause-range g c =
    let d = g.D.Domain in
    let value = c.in_ok-value.value in
    let exit = c.in_ok-exit.exit in
    let p = err_from_is_err_and c.from_residual-in_err-grow.result c.from_residual-in_err-grow.ensures.1 in
    rw (p.1, p.2) (range_only _ ℕ d.least (LargeGrow (d.width_of value) (d.member value) (d.member exit))
    (LargeBeside d.least d.member c.args.from c.args.width c.args.source.now c.args.exit.now)
    c.in_err-grow.field-0.0
    (λ r h. inr (inr (
      value,
      exit,
      c.in_ok-value.ensures.covers,
      c.in_ok-exit.ensures.covers,
      subst (λ n. LargeGrow n (d.member value) (d.member exit) r) c.in_ok-value.ensures.width h,
    )))
    c.in_err-grow.ensures.range)
