use Rattle.std.proofs.Common.{arith, ◌≤◌, length, ◌∙◌}
use Rattle.pungi_base.specs.declared.value.Value.TheVariants as value
use Rattle.pungi_idle.proofs.Restoring.{restored_all, restored_more}
use Rattle.pungi_idle.proofs.restored_run.restored_values.Goals as goal

pub loop-i-preserved : goal.loop-i-preserved
loop-i-preserved c =
    restored_more c.args.objects c.args.statics c.args.kinds.now c.args.values.now c.loop-i.out.items
    c.push.new.self.items c.loop-i.i value.Null c.restored_at.result c.loop-i-test.true c.in_ok-push.ensures.items
    c.restored_at.ensures c.loop-i.invariant

pub returns : goal.returns
returns c =
    let t = c.loop-i-test.false in
    let le : length c.args.values.now ≤ c.loop-i.i = omega (arith, t) in
    c.new.ensures
    ∙ restored_all c.args.objects c.args.statics c.args.kinds.now c.args.values.now c.loop-i.out.items c.loop-i.i le
    c.loop-i.invariant
