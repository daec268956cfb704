use Rattle.std.proofs.Common.{arith}
use Rattle.pungi_check.proofs.CountLemmas.{alone_next, alone_end}
use Rattle.pungi_check.proofs.worklist.refused_alone.Goals as goal

pub loop-number-preserved : goal.loop-number-preserved
loop-number-preserved c =
    alone_next c.args.functions.now c.loop-number.alone.items c.note.new.numbers.items c.loop-number.number
    c.index-functions-number.result (omega arith) c.index-functions-number.is c.loop-number.invariant
    c.in_ok-note.ensures

pub returns : goal.returns
returns c =
    alone_end c.args.functions.now c.loop-number.alone.items c.loop-number.number (omega arith)
    c.loop-number.invariant
