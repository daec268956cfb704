use Rattle.std.proofs.Common.{arith}
use Rattle.pungi_check.proofs.CountLemmas.{callers_more, callers_end}
use Rattle.pungi_check.proofs.callers.callers_of.Goals as goal

pub loop-caller-preserved : goal.loop-caller-preserved
loop-caller-preserved c =
    callers_more c.args.functions.now c.loop-caller.callers.items c.add_calls.new.callers.items c.loop-caller.caller
    c.index-functions-caller.result (omega arith) c.index-functions-caller.is c.loop-caller.invariant
    c.in_ok-add_calls.ensures

pub returns : goal.returns
returns c =
    callers_end c.args.functions.now c.loop-caller.callers.items c.loop-caller.caller (omega arith)
    c.loop-caller.invariant
