use Rattle.std.proofs.Common.{arith}
use Rattle.pungi_check.proofs.CallerLemmas.{added_one}
use Rattle.pungi_check.proofs.callers.add_caller.Goals as goal

pub returns-in_ok-push : goal.returns-in_ok-push
returns-in_ok-push c =
    added_one c.args.callers.now.items c.args.callee c.args.caller c.index_mut.result.now c.push.new.self
    (omega arith) c.index_mut.ensures.value c.in_ok-push.ensures.items
