use Rattle.std.proofs.Common.{◌≡◌, [], drop, take}
use Rattle.pungi_shape.specs.Exits.{join_all}
use Rattle.pungi_shape.specs.Leaving.{AreAtoms}
use Rattle.pungi_shape.proofs.WeightLemmas.{Grows}
use Rattle.pungi_shape.proofs.joins.join_all.Given as goal

-- what is left to join gives the whole
abbrev pub invariant-loop-p : goal.invariant-loop-p
invariant-loop-p l = record {
  rest : join_all (take l.p-index l.pairs) (drop l.p-index l.pairs) l.scene ≡ join_all [] l.pairs l.initial.scene;
  grows : Grows 0 l.initial.scene l.scene;
  atoms : AreAtoms (take l.p-index l.pairs) l.atoms;
}
