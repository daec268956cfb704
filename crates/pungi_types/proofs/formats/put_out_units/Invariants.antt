use Rattle.std.proofs.Common.{◌≡◌, ◌++◌, drop, map}
use Rattle.pungi_api.specs.Signatures.{unit_param}
use Rattle.pungi_types.specs.Formats.{param_want}
use Rattle.pungi_types.proofs.formats.put_out_units.Given as goal

abbrev pub invariant-loop-unit : goal.invariant-loop-unit
invariant-loop-unit l =
    l.wants ++ map param_want (map unit_param (drop l.unit-index l.units))
    ≡ l.fn.wants ++ map param_want (map unit_param l.units)
