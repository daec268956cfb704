use Rattle.std.proofs.Common.{◌≡◌, ◌++◌, drop}
use Rattle.pungi_types.specs.Formats.{in_wants}
use Rattle.pungi_types.proofs.formats.put_in_units.Given as goal

abbrev pub invariant-loop-unit : goal.invariant-loop-unit
invariant-loop-unit l = l.wants ++ in_wants (drop l.unit-index l.units) ≡ l.fn.wants ++ in_wants l.units
