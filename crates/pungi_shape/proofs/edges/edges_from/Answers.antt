use Rattle.std.proofs.Common.{arith}
use Rattle.pungi_shape.proofs.edges.edges_from.Goals as goal

pub returns-in-AtPoint-clause-edges : goal.returns-in-AtPoint-clause-edges
returns-in-AtPoint-clause-edges c = rw c.in-AtPoint.is c.edges_at_point.ensures.edges

pub returns-in-AtPoint-clause-wide : goal.returns-in-AtPoint-clause-wide
returns-in-AtPoint-clause-wide c = rw c.in-AtPoint.is c.edges_at_point.ensures.wide

pub comes_back_by-requires-clause-shape : goal.comes_back_by-requires-clause-shape
comes_back_by-requires-clause-shape c =
    let reached = rw c.in-AfterCall.is at c.requires.reached in
    reached.0.shape

pub comes_back_by-requires-clause-vars : goal.comes_back_by-requires-clause-vars
comes_back_by-requires-clause-vars c =
    let reached = rw c.in-AfterCall.is at c.requires.reached in
    reached.0.vars

pub comes_back_by-requires-clause-narrow : goal.comes_back_by-requires-clause-narrow
comes_back_by-requires-clause-narrow c =
    let narrow = rw c.in-AfterCall.is at c.requires.narrow in
    omega (arith, narrow)

pub comes_back_by-requires-clause-exit : goal.comes_back_by-requires-clause-exit
comes_back_by-requires-clause-exit c =
    let reached = rw c.in-AfterCall.is at c.requires.reached in
    reached.1.0

pub returns-in-AfterCall-clause-edges : goal.returns-in-AfterCall-clause-edges
returns-in-AfterCall-clause-edges c = rw c.in-AfterCall.is c.comes_back_by.ensures.edges

pub returns-in-AfterCall-clause-wide : goal.returns-in-AfterCall-clause-wide
returns-in-AfterCall-clause-wide c = rw c.in-AfterCall.is c.comes_back_by.ensures.wide
