use Rattle.std.proofs.Common.{◌≡◌, ◌++◌, drop, map}
use Rattle.pungi_api.specs.Signatures.{unit_take}
use Rattle.pungi_api.proofs.signature.put_unit_takes.Given as goal

abbrev pub invariant-loop-unit : goal.invariant-loop-unit
invariant-loop-unit l = l.takes ++ map unit_take (drop l.unit-index l.units) ≡ l.fn.takes ++ map unit_take l.units
