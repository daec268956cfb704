use Rattle.std.proofs.Common.{◌≡◌, ◌++◌, drop}
use Rattle.pungi_inline.specs.Moved.{moved_atoms}
use Rattle.pungi_inline.proofs.moved.moved_atoms.Given as goal

abbrev pub invariant-loop-a : goal.invariant-loop-a
invariant-loop-a l = l.copy.items ++ moved_atoms l.window (drop l.a-index l.atoms) ≡ moved_atoms l.window l.atoms
