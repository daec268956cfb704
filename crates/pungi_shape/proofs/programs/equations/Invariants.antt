use Rattle.std.proofs.Common.{◌≡◌, ◌++◌, drop}
use Rattle.pungi_shape.specs.Programs.{equations}
use Rattle.pungi_shape.proofs.programs.equations.Given as goal

abbrev pub invariant-loop-form : goal.invariant-loop-form
invariant-loop-form l = l.list ++ equations (drop l.form-index l.forms) ≡ equations l.forms
