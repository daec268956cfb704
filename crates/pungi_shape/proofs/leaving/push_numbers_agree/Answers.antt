use Rattle.std.proofs.Common.{◌∙◌, ◌+◌, arith}
use Rattle.pungi_shape.specs.declared.holding.Holding.TheVariants.{Dead}
use Rattle.pungi_shape.proofs.AgreeLemmas.{agree_skip, agree_step, count_step}
use Rattle.pungi_shape.proofs.leaving.push_numbers_agree.Goals as goal
use Rattle.pungi_shape.proofs.leaving.push_numbers_agree.Goals.{then-i-atoms+in_ok-push_number_agrees, else-i-atoms}

pub loop-i-preserved : goal.loop-i-preserved
loop-i-preserved c =
    let s = c.args.scene.now in
    let hs = c.args.entry.now in
    let as' = c.args.atoms.now in
    let i = c.loop-i.i in
    let k = c.loop-i.k in
    let m = c.one_if_number.result in
    record {
      after = (let h = c.loop-i.invariant.after in omega (arith, h));
      count = count_step hs k m i _ Dead c.loop-i-test.true c.one_if_number.ensures c.loop-i.invariant.count;
      forms = elim c.if-i-atoms.branch [
        | then-i-atoms+in_ok-push_number_agrees w ↦
            agree_step s k m i hs as' Dead _ c.loop-i.forms c.if-i-atoms.forms _ c.loop-i-test.true w.if-i-atoms.true
            c.one_if_number.ensures (w.forms-is ∙ w.in_ok-push_number_agrees.ensures) c.loop-i.invariant.forms
        | else-i-atoms w ↦
            agree_skip s k (k + m) i hs as' c.loop-i.forms c.if-i-atoms.forms _ w.if-i-atoms.false w.forms-is
            c.loop-i.invariant.forms
      ];
    }
