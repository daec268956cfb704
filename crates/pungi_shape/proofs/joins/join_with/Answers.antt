use Rattle.std.proofs.Common.{◌<◌}
use Rattle.pungi_shape.specs.Limits.{most_coordinates}
use Rattle.pungi_shape.proofs.JoinLemmas.{atoms-put, atoms-skip, join_with-none, no_token}
use Rattle.pungi_shape.proofs.joins.join_with.Goals as goal

pub returns-in_ok-join_one-in-Token-clause-atoms : goal.returns-in_ok-join_one-in-Token-clause-atoms
returns-in_ok-join_one-in-Token-clause-atoms c = λ before are. (
    let below : c.in-Token.u < most_coordinates = rw c.in-Token.is at c.requires.token in
    rw (c.put_atom.ensures, c.in-Token.is) (atoms-put before c.in-Token.u c.args.a c.args.atoms.now below are)
    )

pub returns-in_default : goal.returns-in_default
returns-in_default c = record {
  scene = λ before are. join_with-none before c.args.h c.args.a c.args.scene.now c.in_default.not-Token;
  atoms = λ before are. atoms-skip before c.args.h c.args.a c.args.atoms.now
      (no_token c.args.h c.in_default.not-Token) are;
}
