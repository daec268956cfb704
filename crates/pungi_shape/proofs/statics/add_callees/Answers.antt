use Rattle.std.proofs.Common.{take, take_all, subst, arith}
use Rattle.std.specs.List.{flat_map}
use Rattle.pungi_shape.specs.Named.{callees_in}
use Rattle.pungi_shape.specs.Reaching.{IsAdded}
use Rattle.pungi_shape.proofs.CalleeLemmas.{calls-more, line-called}
use Rattle.pungi_shape.proofs.ReachingLemmas.{added-append}
use Rattle.pungi_shape.proofs.statics.add_callees.Goals as goal

pub add_callee-requires-clause-there : goal.add_callee-requires-clause-there
add_callee-requires-clause-there c = λ g there.
    let lines = c.args.lines.now in
    let lt = c.requires.there g (line-called lines c.loop-line.line-index c.line-item.result g c.loop-line-test.true
    c.line-item.is there) in
    let count = c.loop-line.invariant.count in
    omega (arith, lt, count)

pub loop-line-preserved : goal.loop-line-preserved
loop-line-preserved c =
    let lines = c.args.lines.now in
    let i = c.loop-line.line-index in
    let line = c.line-item.result in
    let marks = c.args.marks.now.items in
    let marks' = c.add_callee.new.marks.items in
    let list = c.args.list.now.items in
    let list' = c.add_callee.new.list.items in
    subst (λ gs. IsAdded gs marks marks' list list')
    (calls-more lines i line c.loop-line-test.true c.line-item.is)
    (added-append (flat_map callees_in (take i lines)) (callees_in line) marks c.loop-line.marks.items marks' list
    c.loop-line.list.items list' c.loop-line.invariant c.in_ok-add_callee.ensures)

pub returns : goal.returns
returns c =
    let lines = c.args.lines.now in
    let i = c.loop-line.line-index in
    let past = c.loop-line-test.false in
    subst (λ ls. IsAdded (flat_map callees_in ls) c.args.marks.now.items c.loop-line.marks.items c.args.list.now.items
    c.loop-line.list.items)
    (take_all i lines (omega (arith, past))) c.loop-line.invariant
