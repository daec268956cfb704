use Rattle.std.proofs.Common.{refl, take}
use Rattle.pungi_shape.proofs.JoinLemmas.{atoms-none, atoms_turn, grows_turn, join_turn}
use Rattle.pungi_shape.proofs.WeightLemmas.{grows-none}
use Rattle.pungi_shape.proofs.joins.join_all.Goals as goal

pub loop-p-init : goal.loop-p-init
loop-p-init c = record {
  rest = refl;
  grows = grows-none c.args.scene.now c.requires.scene;
  atoms = rw c.in_ok-atoms.ensures atoms-none;
}

pub loop-p-preserved : goal.loop-p-preserved
loop-p-preserved c =
    let ps = c.args.pairs.now in
    let i = c.loop-p.p-index in
    let moved = c.in_ok-join_with.ensures.scene (take i ps) c.loop-p.invariant.atoms in
    record {
      rest = join_turn ps i _ c.loop-p.scene c.join_with.new.scene _ c.loop-p-test.true moved c.loop-p.invariant.rest;
      grows = grows_turn (take i ps) _ _ c.args.scene.now c.loop-p.scene c.join_with.new.scene
          c.loop-p.invariant.grows moved;
      atoms = atoms_turn ps i _ c.join_with.new.atoms c.loop-p-test.true
          (c.in_ok-join_with.ensures.atoms (take i ps) c.loop-p.invariant.atoms);
    }
