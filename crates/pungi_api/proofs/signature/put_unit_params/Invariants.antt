use Rattle.std.proofs.Common.{◌≡◌, ◌++◌, drop, map}
use Rattle.pungi_api.specs.Signatures.{unit_param}
use Rattle.pungi_api.proofs.signature.put_unit_params.Given as goal

abbrev pub invariant-loop-unit : goal.invariant-loop-unit
invariant-loop-unit l = l.params ++ map unit_param (drop l.unit-index l.units) ≡ l.fn.params ++ map unit_param l.units
