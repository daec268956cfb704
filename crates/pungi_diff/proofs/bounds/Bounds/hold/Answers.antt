use Rattle.std.proofs.Common.{refl}
use Rattle.pungi_diff.proofs.BoundsLemmas.{kept_none}
use Rattle.pungi_diff.proofs.bounds.Bounds.hold.Goals as goal

pub returns-then-extend : goal.returns-then-extend
returns-then-extend c = rw (← c.self.view_is, c.push.ensures) (record {
  held = refl;
  none = kept_none _ _ _ c.if-extend.ensures.extends.0;
  cycle = c.if-extend.ensures.extends.1;
  nodes = refl;
  room = refl;
})

pub returns-else-extend : goal.returns-else-extend
returns-else-extend c = rw (← c.self.view_is) (record {
  held = refl;
  round = c.if-extend.ensures.extends.1;
  nodes = refl;
  room = refl;
})
