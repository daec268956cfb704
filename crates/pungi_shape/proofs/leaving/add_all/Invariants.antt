use Rattle.std.proofs.Common.{◌≡◌, List, drop}
use Rattle.pungi_code.specs.declared.atom.Atom.{Atom}
use Rattle.pungi_shape.specs.declared.holding.Holding.{Holding}
use Rattle.pungi_shape.specs.Exits.{add_all}
use Rattle.pungi_shape.specs.Leaving.{AreAtoms}
use Rattle.pungi_shape.proofs.WeightLemmas.{Grows}
use Rattle.pungi_shape.proofs.leaving.add_all.Given as goal

-- what is left to add gives the whole
abbrev pub invariant-loop-u : goal.invariant-loop-u
invariant-loop-u l = record {
  rest : (pairs : List (Holding × Atom)) → AreAtoms pairs l.atoms
      → add_all l.w l.exit pairs (drop l.u-index l.tokens) l.scene ≡ add_all l.w l.exit pairs l.tokens l.initial.scene;
  grows : Grows l.u-index l.initial.scene l.scene;
}
