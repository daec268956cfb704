use Rattle.pungi_shape.specs.Live.{HasRows}
use Rattle.pungi_shape.proofs.LiveLemmas.{AreLive, IsFound}
use Rattle.pungi_shape.proofs.liveness.Liveness.of.Given as goal

abbrev pub invariant-loop : goal.invariant-loop
invariant-loop l = record {
  has : HasRows l.code l.rows.items;
  live : AreLive l.code l.rows.items;
  found : IsFound l.code l.rows.items l.counter;
}
