use Rattle.std.proofs.Common.{◌≡◌, ℕ, length, Option, Some, slice_get}
use Rattle.pungi_domain.specs.declared.affine_program.AffineProgram.{AffineProgram}
use Rattle.pungi_shape.specs.Classes.{classes_of}
use Rattle.pungi_verdict.specs.Across.{IsProgramAmong}
use Rattle.pungi_verdict.proofs.across.programs.Given as goal

-- the programs of the functions so far
abbrev pub invariant-loop-f : goal.invariant-loop-f
invariant-loop-f l =
    (length l.list ≡ l.f) × ((f : ℕ) (o : Option AffineProgram) → slice_get l.list f ≡ Some o
    → IsProgramAmong l.codes (classes_of l.classes) f o)
