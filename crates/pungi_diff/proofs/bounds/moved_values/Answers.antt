use Rattle.std.proofs.Common.{arith, rules}
use Rattle.std.proofs.lemmas.Int.{ints}
use Rattle.pungi_diff.proofs.BoundsLemmas.{moves_on}
use Rattle.pungi_diff.proofs.bounds.moved_values.Goals as goal

pub loop-v-preserved : goal.loop-v-preserved
loop-v-preserved c =
    let s = c.requires.small c.loop-v.v-index (omega arith) in
    let t = c.requires.small 0 c.requires.some in
    record {
      lengths = search rules;
      each = rw c.in_ok-push.ensures.items (moves_on c.args.value.now c.loop-v.moved.items c.loop-v.v-index _
          c.loop-v.invariant.lengths c.loop-v.invariant.each (omega (arith, ints, s, t)));
    }
