use Rattle.std.proofs.Common.{◌<◌, arith}
use Rattle.std.proofs.lemmas.Grind.{common_steps}
use Rattle.pungi_inline.proofs.CopyLemmas.{unset_more}
use Rattle.pungi_inline.proofs.copies.put_unset.Goals as goal

pub loop-n-preserved : goal.loop-n-preserved
loop-n-preserved c =
    let lt : c.loop-n.n < c.args.count = omega arith in
    grind (arith, common_steps, unset_more c.args.pos c.args.window c.args.first c.loop-n.n c.args.count lt)
