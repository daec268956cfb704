use Rattle.std.proofs.Common.{◌∙◌, sym, ap}
use Rattle.pungi_shape.proofs.SkipLemmas.{edge-within, edge-leads}
use Rattle.pungi_shape.proofs.edges.edge_of.Goals as goal

pub returns-in-Within-clause-edge : goal.returns-in-Within-clause-edge
returns-in-Within-clause-edge c =
    let t = c.into_parts-guard.result in
    let e = c.into_parts-guard.ensures in
    rw (edge-within c.args.code.now c.args.p c.part_done.result c.args.shape.now c.args.case c.in-Within.k t.0 t.1
    (sym (ap (λ z. z.3) e) ∙ c.in-Within.is) c.part_done.ensures (ap (λ z. z.0) e) (ap (λ z. z.1) e))
    c.goes_to.ensures.edge

pub returns-in-Within-clause-wide : goal.returns-in-Within-clause-wide
returns-in-Within-clause-wide c =
    let t = c.into_parts-guard.result in
    let e = c.into_parts-guard.ensures in
    rw (edge-within c.args.code.now c.args.p c.part_done.result c.args.shape.now c.args.case c.in-Within.k t.0 t.1
    (sym (ap (λ z. z.3) e) ∙ c.in-Within.is) c.part_done.ensures (ap (λ z. z.0) e) (ap (λ z. z.1) e))
    c.goes_to.ensures.wide

pub returns-in-LeadsTo-clause-edge : goal.returns-in-LeadsTo-clause-edge
returns-in-LeadsTo-clause-edge c =
    let t = c.into_parts-guard.result in
    let e = c.into_parts-guard.ensures in
    rw (edge-leads c.args.code.now c.args.p c.point_after-next.result c.args.shape.now c.args.case c.in-LeadsTo.pc t.2
    t.0 t.1 (sym (ap (λ z. z.3) e) ∙ c.in-LeadsTo.is) c.point_after-next.ensures (ap (λ z. z.2) e) (ap (λ z. z.0) e)
    (ap (λ z. z.1) e)) c.goes_to-in-LeadsTo.ensures.edge

pub returns-in-LeadsTo-clause-wide : goal.returns-in-LeadsTo-clause-wide
returns-in-LeadsTo-clause-wide c =
    let t = c.into_parts-guard.result in
    let e = c.into_parts-guard.ensures in
    rw (edge-leads c.args.code.now c.args.p c.point_after-next.result c.args.shape.now c.args.case c.in-LeadsTo.pc t.2
    t.0 t.1 (sym (ap (λ z. z.3) e) ∙ c.in-LeadsTo.is) c.point_after-next.ensures (ap (λ z. z.2) e) (ap (λ z. z.0) e)
    (ap (λ z. z.1) e)) c.goes_to-in-LeadsTo.ensures.wide
