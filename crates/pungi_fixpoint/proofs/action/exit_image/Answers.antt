use Rattle.std.proofs.Common.{◌∙◌, ◌-◌, subst}
use Rattle.std.proofs.lemmas.Result.{IfOk-weaker}
use Rattle.pungi_domain.specs.Builds.{exit_rows}
use Rattle.pungi_domain.specs.Spans.{LargeMap}
use Rattle.pungi_fixpoint.proofs.Faults.{range_result}
use Rattle.pungi_fixpoint.proofs.Rows.{image_covers}
use Rattle.pungi_fixpoint.proofs.action.exit_image.Goals as goal

pub map-requires-clause-fits : goal.map-requires-clause-fits
map-requires-clause-fits g c = rw c.requires.exit c.in_ok-matrix.ensures.matrix

pub map-requires-clause-narrow : goal.map-requires-clause-narrow
map-requires-clause-narrow g c = rw c.in_ok-matrix.ensures.width c.requires.narrow

pub returns-clause-covers : goal.returns-clause-covers
returns-clause-covers g c =
    let d = g.D.Domain in
    image_covers d.least d.member c.in_ok-matrix.matrix.rows (exit_rows c.args.from c.args.width) c.args.width
    (d.member c.args.exit.now) c.map.result c.in_ok-matrix.ensures.rows c.in_ok-matrix.ensures.width
    c.map.ensures.members c.map.ensures.least

pub returns-clause-width : goal.returns-clause-width
returns-clause-width g c =
    IfOk-weaker c.map.result _ _ (λ t h. h ∙ c.in_ok-matrix.ensures.width) c.map.ensures.width

pub returns-clause-range : goal.returns-clause-range
returns-clause-range g c =
    let d = g.D.Domain in
    let s = c.args.exit.now in
    let rows = c.in_ok-matrix.matrix.rows in
    let named = exit_rows c.args.from c.args.width in
    range_result d.least (LargeMap (d.width_of s) rows (d.member s)) (LargeMap (c.args.width - c.args.from) named
    (d.member s))
    c.map.result
    (λ r h. subst (λ n. LargeMap n named (d.member s) r) c.requires.exit
    (subst (λ q. LargeMap (d.width_of s) q (d.member s) r) c.in_ok-matrix.ensures.rows h)) c.map.ensures.range
