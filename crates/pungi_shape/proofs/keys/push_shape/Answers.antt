use Rattle.std.proofs.Common.{◌^◌}
use Rattle.pungi_shape.proofs.KeyLists.{entry-tokens, vars-tokens, static-tokens, returned-tokens, slot-tokens}
use Rattle.pungi_shape.proofs.keys.push_shape.Goals as goal

pub push_holdings-requires : goal.push_holdings-requires
push_holdings-requires c = rw c.as_slice.ensures (entry-tokens (2 ^ 31) c.args.shape.now c.requires)

pub push_holdings-requires-2 : goal.push_holdings-requires-2
push_holdings-requires-2 c = rw c.as_slice-2.ensures (vars-tokens (2 ^ 31) c.args.shape.now c.requires)

pub push_statics-requires : goal.push_statics-requires
push_statics-requires c = rw c.as_slice-3.ensures (static-tokens (2 ^ 31) c.args.shape.now c.requires)

pub push_holding-requires : goal.push_holding-requires
push_holding-requires c = returned-tokens (2 ^ 31) c.args.shape.now c.requires

pub push_slots-requires : goal.push_slots-requires
push_slots-requires c = rw c.as_slice-4.ensures (slot-tokens (2 ^ 31) c.args.shape.now c.requires)
