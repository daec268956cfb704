use Rattle.std.proofs.Common.{◌∙◌, ℕ, sym, subst}
use Rattle.std.proofs.lemmas.Result.{err_from_is_err_and}
use Rattle.pungi_domain.specs.Builds.{LargeAct}
use Rattle.pungi_domain.specs.Spans.{LargeFree, LargeMap}
use Rattle.pungi_domain.specs.Vectors.{Freed}
use Rattle.pungi_fixpoint.specs.Calls.{LargeBeside}
use Rattle.pungi_fixpoint.specs.Summaries.{exit_of}
use Rattle.pungi_fixpoint.proofs.Faults.{range_only, range_weaker}
use Rattle.pungi_fixpoint.proofs.Guards.{covers_at}
use Rattle.pungi_fixpoint.proofs.Rows.{covers_image, large_call}
use Rattle.pungi_fixpoint.proofs.action.sent.Goals as goal

pub map-requires-clause-fits : goal.map-requires-clause-fits
map-requires-clause-fits g c = let f = rw c.in-Map.is at c.requires.action in rw c.requires.from f.1

pub map-requires-clause-narrow : goal.map-requires-clause-narrow
map-requires-clause-narrow g c = let f = rw c.in-Map.is at c.requires.action in rw f.0 c.requires.narrow

pub returns-in_ok-map-in-Map-clause-sent : goal.returns-in_ok-map-in-Map-clause-sent
returns-in_ok-map-in-Map-clause-sent g c =
    let d = g.D.Domain in
    let f = rw c.in-Map.is at c.requires.action in
    rw c.in-Map.is (
      covers_image d.least c.in-Map.matrix.rows c.args.width (d.member c.args.met.now)
          (d.member c.in_ok-map-in-Map.field-0) f.0 c.in_ok-map-in-Map.ensures.members c.in_ok-map-in-Map.ensures.least,
      c.in_ok-map-in-Map.ensures.width ∙ f.0,
    )

pub returns-in_err-map-in-Map-clause-range : goal.returns-in_err-map-in-Map-clause-range
returns-in_err-map-in-Map-clause-range g c =
    let d = g.D.Domain in
    let s = c.args.met.now in
    let exit = exit_of c.args.summaries.now.exits in
    let p = err_from_is_err_and c.from_residual.result c.from_residual.ensures.1 in
    rw (p.1, p.2) (range_only _ ℕ d.least (LargeMap (d.width_of s) c.in-Map.matrix.rows (d.member s))
    (LargeAct d.least d.member exit c.args.from c.args.width c.args.action.now s) c.in_err-map-in-Map.field-0.0
    (λ r h. rw c.in-Map.is (subst (λ n. LargeMap n c.in-Map.matrix.rows (d.member s) r) c.requires.from h))
    c.in_err-map-in-Map.ensures.range)

pub returns-in_ok-free-in-Free-clause-sent : goal.returns-in_ok-free-in-Free-clause-sent
returns-in_ok-free-in-Free-clause-sent g c =
    let d = g.D.Domain in
    let s = c.args.met.now in
    let f = rw c.in-Free.is at c.requires.action in
    rw c.in-Free.is (
      covers_at d.least (d.width_of s) c.args.width (Freed c.in-Free.coordinate (d.member s))
          (d.member c.in_ok-free-in-Free.field-0) (c.requires.from ∙ sym f.0) c.in_ok-free-in-Free.ensures.members
          c.in_ok-free-in-Free.ensures.least,
      c.in_ok-free-in-Free.ensures.width ∙ (c.requires.from ∙ sym f.0),
    )

pub returns-in_err-free-in-Free-clause-range : goal.returns-in_err-free-in-Free-clause-range
returns-in_err-free-in-Free-clause-range g c =
    let d = g.D.Domain in
    let s = c.args.met.now in
    let k = c.in-Free.coordinate in
    let exit = exit_of c.args.summaries.now.exits in
    let p = err_from_is_err_and c.from_residual-in_err-free-in-Free.result
    c.from_residual-in_err-free-in-Free.ensures.1 in
    rw (p.1, p.2) (range_only _ ℕ d.least (LargeFree (d.width_of s) k (d.member s))
    (LargeAct d.least d.member exit c.args.from c.args.width c.args.action.now s) c.in_err-free-in-Free.field-0.0
    (λ r h. rw c.in-Free.is (subst (λ n. LargeFree n k (d.member s) r) c.requires.from h))
    c.in_err-free-in-Free.ensures.range)

pub beside-requires-clause-exit : goal.beside-requires-clause-exit
beside-requires-clause-exit g c =
    let f = rw c.in-Call.is at c.requires.action in
    let x = rw (c.in-Call.is, c.in-Some.ensures) at c.requires.exits in
    x ∙ f.1

pub returns-in_ok-beside-in-Some-clause-sent : goal.returns-in_ok-beside-in-Some-clause-sent
returns-in_ok-beside-in-Some-clause-sent g c =
    rw c.in-Call.is (
      (c.in-Some.exit.now, c.in-Some.ensures, c.in_ok-beside-in-Some.ensures.beside),
      c.in_ok-beside-in-Some.ensures.width,
    )

pub returns-in_err-beside-in-Some-clause-range : goal.returns-in_err-beside-in-Some-clause-range
returns-in_err-beside-in-Some-clause-range g c =
    let d = g.D.Domain in
    let s = c.args.met.now in
    let x = c.in-Some.exit.now in
    let exit = exit_of c.args.summaries.now.exits in
    let f = rw c.in-Call.is at c.requires.action in
    let p = err_from_is_err_and c.from_residual-in_err-beside-in-Some.result
    c.from_residual-in_err-beside-in-Some.ensures.1 in
    rw (p.1, p.2) (range_weaker ℕ ℕ (LargeBeside d.least d.member c.args.from c.args.width s x)
    (LargeAct d.least d.member exit c.args.from c.args.width c.args.action.now s) c.in_err-beside-in-Some.field-0.0
    (λ r h. rw c.in-Call.is (large_call d.least d.member exit c.args.from c.args.width c.in-Call.callee
    c.in-Call.class c.in-Call.onto s x r c.in-Some.ensures f.1 h)) c.in_err-beside-in-Some.ensures.range)

pub returns-in-None-clause-sent : goal.returns-in-None-clause-sent
returns-in-None-clause-sent g c = rw c.in-Call.is c.in-None.ensures
