use Rattle.std.proofs.Common.{arith}
use Rattle.pungi_summary.proofs.Noted.{edge_first, edge_known, first_missing, first_there}
use Rattle.pungi_summary.proofs.call_places.note_edge.Goals as goal

pub index-requires : goal.index-requires
index-requires c =
    let h = c.requires c.in-Call.callee
    (record { class = c.in-Call.class; onto = c.in-Call.onto; action = c.in-Call.is }) in
    omega (arith, h, c.args.firsts.now.ok.0)

pub index_mut-requires : goal.index_mut-requires
index_mut-requires c =
    let h = c.requires c.in-Call.callee
    (record { class = c.in-Call.class; onto = c.in-Call.onto; action = c.in-Call.is }) in
    omega (arith, h, c.args.firsts.now.ok.0)

pub returns-then-is_none : goal.returns-then-is_none
returns-then-is_none c =
    let h = c.requires c.in-Call.callee
    (record { class = c.in-Call.class; onto = c.in-Call.onto; action = c.in-Call.is }) in
    edge_first c.args.caller c.args.edge.now c.args.firsts.now.items c.in-Call.callee c.in-Call.class c.in-Call.onto
    c.in-Call.is h
    (first_missing c.args.firsts.now.items c.in-Call.callee c.args.caller c.index.result.now c.place_of.result
    c.is_none.result h c.index.ensures c.place_of.ensures c.is_none.ensures c.if-is_none.true)

pub returns-else-is_none : goal.returns-else-is_none
returns-else-is_none c =
    let h = c.requires c.in-Call.callee
    (record { class = c.in-Call.class; onto = c.in-Call.onto; action = c.in-Call.is }) in
    let w = first_there c.args.firsts.now.items c.in-Call.callee c.args.caller c.index.result.now c.place_of.result
    c.is_none.result h c.index.ensures c.place_of.ensures c.is_none.ensures c.if-is_none.false in
    edge_known c.args.caller c.args.edge.now c.args.firsts.now.items c.in-Call.callee c.in-Call.class c.in-Call.onto w.0
    c.in-Call.is w.1
