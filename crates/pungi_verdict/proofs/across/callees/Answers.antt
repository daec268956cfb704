use Rattle.std.proofs.Common.{ℕ, List, Option, length, ◌+◌, ap, arith, subst, sym}
use Rattle.pungi_code.specs.declared.code.Code.{Code}
use Rattle.pungi_verdict.proofs.Callees.{AreCalleesBelow, callees-all, callees-below, callees-next, few-functions}
use Rattle.pungi_verdict.proofs.Callees.{read-code}
use Rattle.pungi_verdict.proofs.across.callees.Goals as goal

pub callees_by-requires : goal.callees_by-requires
callees_by-requires c = λ g called.
    let codes = c.args.codes.now in
    let is = read-code codes c.loop-code.code-index c.code-item.result c.as_slice-code-items.result.now
    c.as_slice-code-items.ensures c.loop-code-test.true c.code-item.is in
    few-functions codes c.requires g
    (callees-below codes c.requires c.code-item.result c.loop-code.code-index is g called)

pub loop-code-preserved : goal.loop-code-preserved
loop-code-preserved c =
    let codes = c.args.codes.now in
    let is = read-code codes c.loop-code.code-index c.code-item.result c.as_slice-code-items.result.now
    c.as_slice-code-items.ensures c.loop-code-test.true c.code-item.is in
    subst (λ (l : List (List ℕ)). AreCalleesBelow codes l (c.loop-code.code-index + 1)) (sym c.in_ok-push.ensures.ok)
    (callees-next c.callees_are_called.ensures codes c.loop-code.lists c.loop-code.code-index c.code-item.result
    c.in_ok-callees_by.field-0 c.loop-code.invariant is c.in_ok-callees_by.ensures)

pub returns : goal.returns
returns c =
    let codes = c.args.codes.now in
    let long = ap (λ (l : List (Option Code)). length l) c.as_slice-code-items.ensures in
    let past = c.loop-code-test.false in
    let within = c.loop-code.auto.code-index-end in
    callees-all c.callees_are_called.ensures codes c.loop-code.lists c.loop-code.code-index (omega (arith, long, past))
    (omega (arith, long, within)) c.loop-code.invariant
