use Rattle.std.proofs.Common.{◌≡◌, ◌+◌, ◌++◌, drop, map}
use Rattle.pungi_resolved.specs.ValueView.{value_view}
use Rattle.pungi_layout.specs.code.ExprCode.{var}
use Rattle.pungi_layout.specs.code.Temporaries.{arg_vars}
use Rattle.pungi_emit.proofs.expr.call_instr.arg_atoms.Given as goal

abbrev pub invariant-loop-i : goal.invariant-loop-i
invariant-loop-i l =
    l.atoms.items ++ map var (arg_vars l.locals (l.depth + l.i) l.left (map value_view (drop l.i l.args)))
    ≡ map var (arg_vars l.locals l.depth l.params (map value_view l.args))
