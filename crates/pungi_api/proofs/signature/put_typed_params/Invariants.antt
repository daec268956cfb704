use Rattle.std.proofs.Common.{◌≡◌, ◌++◌, drop}
use Rattle.pungi_api.specs.Signatures.{typed_params}
use Rattle.pungi_api.proofs.signature.put_typed_params.Given as goal

abbrev pub invariant-loop-unit : goal.invariant-loop-unit
invariant-loop-unit l = l.params ++ typed_params (drop l.unit-index l.units) ≡ l.fn.params ++ typed_params l.units
