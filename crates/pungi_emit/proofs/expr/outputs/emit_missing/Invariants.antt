use Rattle.std.proofs.Common.{◌≡◌, ◌+◌, ◌≤◌, ◌++◌, length, drop, map}
use Rattle.pungi_code.specs.Limits.{most_instructions}
use Rattle.pungi_resolved.specs.ValueView.{value_view}
use Rattle.pungi_layout.specs.code.ExprCode.{missing_code}
use Rattle.pungi_layout.specs.code.Sizes.{missing_size}
use Rattle.pungi_emit.proofs.expr.outputs.emit_missing.Given as goal

abbrev pub invariant-loop-i : goal.invariant-loop-i
invariant-loop-i l = record {
  code :
      l.code ++ missing_code l.locals (l.depth + l.i) l.pos (length l.code) l.other l.left
      (map value_view (drop l.i l.args))
      ≡ l.initial.code ++ missing_code l.locals l.depth l.pos (length l.initial.code) l.other l.params
      (map value_view l.args);
  long : length l.code + missing_size l.left (map value_view (drop l.i l.args)) ≤ most_instructions;
}
