use Rattle.std.proofs.Common.{◌≡◌, ◌++◌, drop}
use Rattle.pungi_inline.specs.Inlined.{all_kinds}
use Rattle.pungi_inline.proofs.expanded.all_kinds.Given as goal

abbrev pub invariant-loop-line : goal.invariant-loop-line
invariant-loop-line l =
    l.kinds.items ++ all_kinds l.codes (drop l.line-index l.code.instrs)
    ≡ l.code.vars ++ all_kinds l.codes l.code.instrs
