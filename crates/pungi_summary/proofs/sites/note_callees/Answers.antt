use Rattle.std.proofs.Common.{arith}
use Rattle.pungi_summary.proofs.Sited.{callees_all, callees_more, callees_none}
use Rattle.pungi_summary.proofs.sites.note_callees.Goals as goal

pub loop-callee-init : goal.loop-callee-init
loop-callee-init c =
    callees_none c.args.firsts.now c.args.caller c.args.entry c.args.callees.now c.args.sites.now.items

pub call_place-place-requires : goal.call_place-place-requires
call_place-place-requires c =
    let h = c.requires.within c.loop-callee.callee-index 0 c.loop-callee-test.true in
    let n = c.requires.table in
    omega (arith, h, n)

pub put_site-requires : goal.put_site-requires
put_site-requires c =
    let h = c.requires.within c.loop-callee.callee-index 0 c.loop-callee-test.true in
    let n = c.loop-callee.invariant.count in
    omega (arith, h, n)

pub loop-callee-preserved : goal.loop-callee-preserved
loop-callee-preserved c =
    callees_more c.args.firsts.now c.args.caller c.args.entry c.args.callees.now c.loop-callee.callee-index
    c.call_place-place.result c.args.sites.now.items c.loop-callee.sites.items c.put_site.new.sites.items
    c.loop-callee-test.true c.call_place-place.ensures c.loop-callee.invariant c.in_ok-put_site.ensures

pub returns : goal.returns
returns c =
    callees_all c.args.firsts.now c.args.caller c.args.entry c.args.callees.now c.loop-callee.callee-index
    c.args.sites.now.items c.loop-callee.sites.items (omega (arith, c.loop-callee-test.false)) c.loop-callee.invariant
