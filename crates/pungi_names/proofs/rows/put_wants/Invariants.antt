use Rattle.std.proofs.Common.{◌≡◌, ◌++◌, drop, map}
use Rattle.pungi_types.specs.Formats.{param_want}
use Rattle.pungi_names.proofs.rows.put_wants.Given as goal

abbrev pub invariant-loop-param : goal.invariant-loop-param
invariant-loop-param l =
    l.wants.items ++ map param_want (drop l.param-index l.params) ≡ l.fn.wants.items ++ map param_want l.params
