use Rattle.std.proofs.Common.{◌≡◌, false, get_or, sym, arith}
use Rattle.pungi_check.proofs.MarkLemmas.{visited_pushed}
use Rattle.pungi_check.proofs.worklist.mark.Goals as goal

pub returns-in_ok-push : goal.returns-in_ok-push
returns-in_ok-push c =
    let k = c.if-not-index.true in
    let h = c.index.ensures in
    let u : get_or c.args.marks.now.items c.args.function false ≡ false = sym (rw k at h) in
    visited_pushed c.args.marks.now.items c.args.function c.args.waiting.now.items c.push.new.self.items
    (omega arith) u c.in_ok-push.ensures.items
