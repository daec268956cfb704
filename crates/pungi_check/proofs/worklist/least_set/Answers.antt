use Rattle.std.proofs.Common.{◌≡◌, length, arith}
use Rattle.pungi_check.specs.CallGraph.{IsReached}
use Rattle.pungi_check.proofs.Least.{reached-least}
use Rattle.pungi_check.proofs.ReachLemmas.{reaching_begun, waiting_within, reaching_visited, reaching_done}
use Rattle.pungi_check.proofs.ReachLemmas.{nothing_waits}
use Rattle.pungi_check.proofs.worklist.least_set.Goals as goal

pub loop-function-init : goal.loop-function-init
loop-function-init c =
    reaching_begun c.args.functions.now c.in_ok-callers.callers.items c.in_ok-marks.marks.items
    c.mark_all.new.marks.items c.new-waiting.result.items c.mark_all.new.waiting.items c.in_ok-alone.alone.items
    c.in_ok-marks.ensures c.new-waiting.ensures.items c.in_ok-callers.ensures c.in_ok-alone.ensures
    c.in_ok-mark_all.ensures

pub index-requires : goal.index-requires
index-requires c =
    let k = waiting_within c.args.functions.now c.in_ok-callers.callers.items c.loop-function.marks.items
    c.loop-function.waiting.items c.pop.new.self.items c.in-Some.function c.in-Some.ensures.items
    c.loop-function.invariant in
    omega arith

pub loop-function-preserved : goal.loop-function-preserved
loop-function-preserved c =
    reaching_visited c.args.functions.now c.in_ok-callers.callers.items c.loop-function.marks.items
    c.mark_all-in-Some.new.marks.items c.loop-function.waiting.items c.pop.new.self.items
    c.mark_all-in-Some.new.waiting.items c.in-Some.function c.index.result.now
    c.in-Some.ensures.items c.index.ensures c.loop-function.invariant c.in_ok-mark_all-2.ensures

pub returns : goal.returns
returns c =
    let z = nothing_waits c.pop.result c.loop-function.waiting.len c.pop.new.self.len c.in_default.not-Some
    c.pop.ensures.cases in
    let e : length c.loop-function.waiting.items ≡ 0 = omega arith in
    let r : IsReached c.args.functions.now c.loop-function.marks.items = reaching_done c.args.functions.now
    c.in_ok-callers.callers.items c.loop-function.marks.items c.loop-function.waiting.items e
    c.loop-function.invariant in
    record {
      reached = r;
      least = λ file g. reached-least file c.args.functions.now c.loop-function.marks.items
          (record { graph = g; reached = r });
    }
