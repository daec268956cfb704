use Rattle.std.proofs.Common.{◌≡◌, ◌++◌, drop, map}
use Rattle.pungi_layout.specs.code.CallKinds.{held_kind}
use Rattle.pungi_emit.proofs.expr.call_kinds.add_params.Given as goal

abbrev pub invariant-loop-param : goal.invariant-loop-param
invariant-loop-param l =
    l.kinds ++ map held_kind (drop l.param-index l.params) ≡ l.initial.kinds ++ map held_kind l.params
